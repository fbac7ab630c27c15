use Rattle.std.proofs.Common.{◌≡◌, ◌∙◌, ◌+◌, ◌<◌, ℕ, List, [], true, Some, length, take, ap, subst, sym, arith, ⊎_elim, refl, ◌==◌, ◌≤◌}
use Rattle.std.specs.Prelude.{slice_get, slice_index_or}
use Rattle.std.proofs.lemmas.Bool.{cases_eq, cases_lt, cond_both, eqb-true, true≢false}
use Rattle.std.proofs.lemmas.List.{get_or-map, get_or_read, length-map, take_all}
use Rattle.std.proofs.lemmas.Option.{slice_get-get_or}
use Rattle.tg_rights.specs.RightSet.{is_none_held, no_rights, RightSet}
use Rattle.tg_model.specs.Graph.{with_rights}
use Rattle.tg_word.specs.Word.{nursery_space}
use Rattle.tg_word.specs.declared.Place.{Place}
use Rattle.tg_subjects.specs.Subjects.{subject_places}
use Rattle.tg_subjects.specs.declared.subject.Subject.{Subject}
use Rattle.tg_payload.specs.Table.{Payloads}
use Rattle.tg_space.specs.SpaceList.{SpaceList}
use Rattle.tg_space.specs.SpaceTable.{SpaceTable, used_of}
use Rattle.tg_rows.specs.Graph.{IsGraph}
use Rattle.tg_graph.specs.Opened.{Relabels, labels_in, with_row}
use Rattle.tg_rows.specs.Rows.{IsVertexAt, name_at}
use Rattle.tg_graph.proofs.Openings.{relabels_more, relabels_none, with_row-more}
use Rattle.tg_graph.proofs.opening.add_row.Goals as goal

-- what an index past the end would read
abbrev nobody : Subject
nobody = record { name = 0; nursery = 0; place = record { space = 0; block = 0; cell = 0 } }

-- the subject with a number is the vertex with that name
vertex_numbered : (h : SpaceList) (subjects : List Subject) (x : ℕ) → ((y : ℕ) (p : Place) → slice_get (subject_places subjects) y ≡ Some p → IsVertexAt h y p) → x < length subjects → IsVertexAt h x (slice_index_or subjects x nobody).place
vertex_numbered h subjects x at low =
    let places = subject_places subjects in
    let within : x < length places = let many = length-map subjects (λ (s : Subject). s.place) in omega (arith, many, low) in
    subst (IsVertexAt h x) (get_or-map (λ (s : Subject). s.place) subjects x nobody nobody.place low) (at x (slice_index_or places x nobody.place) (slice_get-get_or places x nobody.place within))

pub add_some-requires : goal.add_some-requires
add_some-requires g c =
    let before = c.loop-to.invariant in
    let worker = c.requires.worker in
    let workers = worker.workers in
    let subjects = c.args.subjects.now in
    let h = c.args.cells.now.spaces.spaces in
    let from = c.args.from in
    let to = c.loop-to.to in
    let inside = c.loop-to-test.true in
    let long = c.requires.row in
    let low = worker.inside in
    let vertices = before.labels.changed.vertices in
    record {
      nursery = let kept = before.labels.changed.spaces in let spaces = workers.spaces in let few = workers.few in omega (arith, kept, spaces, few, low);
      graph = subst (λ (s : Payloads). IsGraph c.loop-to.cells.spaces.spaces s) (sym before.labels.payloads) before.labels.changed.graph;
      from = (vertices from (slice_index_or subjects from nobody).place (vertex_numbered h subjects from workers.vertices low)).object;
      to = (vertices to (slice_index_or subjects to nobody).place (vertex_numbered h subjects to workers.vertices (omega (arith, inside, long)))).object;
      room = λ some.
          let blocks = before.labels.blocks (nursery_space from) in
          ⊎_elim
          (λ earlier. let past = before.used_past earlier in omega (arith, past, blocks, worker.block, workers.few, long, inside))
          (λ later.
          ⊎_elim
          (λ (same : to ≡ from).
          let none : c.index-row-to.result ≡ no_rights = get_or_read c.args.row.now to c.index-row-to.result inside c.index-row-to.is no_rights ∙ ap (λ n. slice_index_or c.args.row.now n no_rights) same ∙ c.requires.no_loop in
          absurd (true≢false (sym (ap is_none_held none) ∙ some)))
          (λ ne. omega (arith, ne, later, before.used, blocks, worker.block, workers.few, low))
          (cases_eq to from))
          (cases_lt from to);
      old = before.labels.blocks 0 ∙ workers.old;
    }

pub loop-to-preserved : goal.loop-to-preserved
loop-to-preserved g c =
    let cells = c.loop-to.cells in
    let before = c.loop-to.invariant in
    let step = c.add_some.ensures in
    let from = c.args.from in
    let to = c.loop-to.to in
    let row = c.args.row.now in
    let r = c.index-row-to.result in
    let subjects = c.args.subjects.now in
    let h = c.args.cells.now.spaces.spaces in
    let p = (slice_index_or subjects from nobody).place in
    let q = (slice_index_or subjects to nobody).place in
    let inside = c.loop-to-test.true in
    let low : to < length subjects = let b = c.requires.row in omega (arith, inside, b) in
    let vertices = before.labels.changed.vertices in
    let name_p : name_at cells.spaces.spaces p ≡ from = (vertices from p (vertex_numbered h subjects from c.requires.worker.workers.vertices c.requires.worker.inside)).named in
    let name_q : name_at cells.spaces.spaces q ≡ to = (vertices to q (vertex_numbered h subjects to c.requires.worker.workers.vertices low)).named in
    let Step : ℕ → ℕ → Type 0 = λ n m. Relabels cells c.add_some.new.cells (with_rights (labels_in cells) n m r) in
    let here : Step from to = subst (λ m. Step from m) name_q (subst (λ n. Step n (name_at cells.spaces.spaces q)) name_p step.added) in
    let label = labels_in c.args.cells.now in
    let used = step.one_cell.here in
    let used_before = before.used in
    record {
      labels = relabels_more c.args.cells.now cells c.add_some.new.cells (with_row label from (take to row)) (with_row label from (take (to + 1) row)) (λ l. with_rights l from to r) before.labels here (with_row-more label from row to r inside c.index-row-to.is);
      others = λ space ne. step.one_cell.others space ne ∙ before.others space ne;
      used = omega arith;
      used_past = λ past.
          ⊎_elim
          (λ earlier. let few = before.used_past earlier in omega (arith, used, few))
          (λ later.
          let same : to ≡ from = omega (arith, past, later) in
          let none : r ≡ no_rights = get_or_read row to r inside c.index-row-to.is no_rights ∙ ap (λ n. slice_index_or row n no_rights) same ∙ c.requires.no_loop in
          let kept : used_of c.add_some.new.cells.spaces (nursery_space from) ≡ used_of cells.spaces (nursery_space from) = ap (λ (x : SpaceTable). used_of x (nursery_space from)) (step.nothing (ap is_none_held none)) in
          omega (arith, kept, used_before))
          (cases_lt from to);
    }

pub loop-to-init : goal.loop-to-init
loop-to-init g c =
    let cells = c.args.cells.now in
    let label = labels_in cells in
    let from = c.args.from in
    record {
      labels = relabels_none cells (with_row label from []) c.requires.worker.workers.graph
          (λ x y. cond_both (x == from) _ _ (λ (s : RightSet). label x y ≡ s) (λ same. subst (λ n. label n y ≡ no_rights) (sym (eqb-true x from same)) (c.requires.worker.labels y)) (λ _. refl));
      others = λ space apart. refl;
      used = c.requires.worker.unused;
      used_past = λ past. absurd (omega arith);
    }

pub returns : goal.returns
returns g c =
    let row = c.args.row.now in
    let past : length row ≤ c.loop-to.to = c.loop-to-test.false in
    record {
      added = subst (λ (rs : List RightSet). Relabels c.args.cells.now c.loop-to.cells (with_row (labels_in c.args.cells.now) c.args.from rs)) (take_all c.loop-to.to row past) c.loop-to.invariant.labels;
      others = c.loop-to.invariant.others;
    }
