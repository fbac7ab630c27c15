use Rattle.std.proofs.Common.{[], ◌≡◌, ◌<◌, ◌∙◌, ℕ, List, Some, length, ap, arith, subst, sym, ◌↔◌, nat_eq, None}
use Rattle.std.specs.Prelude.{slice_get}
use Rattle.std.specs.List.{All, range_with_len}
use Rattle.tg_model.specs.declared.edge.Edge.{Edge}
use Rattle.tg_model.specs.declared.value.Value.{Value}
use Rattle.tg_model.specs.Opened.{JoinsWorkers, Plan, label_in}
use Rattle.tg_word.specs.declared.Place.{Place}
use Rattle.tg_subjects.specs.Subjects.{names_of, nurseries_of, subject_places}
use Rattle.tg_subjects.specs.declared.subject.Subject.{Subject}
use Rattle.tg_remember.specs.Notes.{Notes}
use Rattle.tg_space.specs.Generations.{AreRemembered}
use Rattle.tg_rows.proofs.Remembering.{nothing_remembered}
use Rattle.tg_graph.proofs.OpenedSubjects.{subjects_counted, vertices_named}
use Rattle.tg_graph.proofs.Openings.{edges_opened, opened_stands}
use Rattle.tg_space.specs.SpaceTable.{BlockLimits}
use Rattle.tg_graph.specs.Opened.{HasBlocks, IsOpened, Relabels, no_labels}
use Rattle.std.specs.Map.{lookup}
use Rattle.std.proofs.lemmas.List.{length-map}
use Rattle.tg_rows.specs.declared.indexed_row.IndexedRow.{IndexedRow}
use Rattle.tg_rows.specs.declared.cells.Cells.{Cells}
use Rattle.tg_graph.proofs.heap.Heap.open.Goals as goal

-- what the steps have opened
opened : {P : Type 0} (placed added : Cells P) (subjects : List Subject) (plan : Plan) (limits given : BlockLimits) (edges : List Edge) (values : List Value) →
    IsOpened placed.spaces placed.payloads (subject_places subjects) (length values) limits no_labels values → Relabels placed added (label_in edges) →
    values ≡ plan.values → length plan.values ≡ plan.workers → limits ≡ given → edges ≡ plan.edges →
    IsOpened added.spaces added.payloads (subject_places subjects) plan.workers given (label_in plan.edges) plan.values
opened placed added subjects plan limits given edges values was to same count kept read =
    let workers = ap (λ (vs : List Value). length vs) same ∙ count in
    let payloads = sym to.payloads in
    subst (λ (opened : Type 0). opened) (λ i. IsOpened added.spaces (payloads i) (subject_places subjects) (workers i) (kept i) (label_in (read i)) (same i))
    (edges_opened placed.spaces added.spaces placed.payloads (subject_places subjects) (length values) limits (label_in edges) values was to.changed to.blocks)

-- as many as there are workers
ranged : (xs : List ℕ) (drafts values : List Value) (workers : ℕ) → xs ≡ range_with_len 0 (length drafts) → drafts ≡ values → length values ≡ workers → xs ≡ range_with_len 0 workers
ranged xs drafts values workers are same count = are ∙ ap (λ (vs : List Value). range_with_len 0 (length vs)) same ∙ ap (range_with_len 0) count

-- as many subjects as drafts
counted : (shown subjects : List Subject) (drafts : List Value) → shown ≡ subjects → names_of subjects ≡ range_with_len 0 (length drafts) → length shown ≡ length drafts
counted shown subjects drafts same names = ap (λ (xs : List Subject). length xs) same ∙ subjects_counted subjects (length drafts) names

pub add_edges-requires : goal.add_edges-requires
add_edges-requires g c =
    let placed = c.place_workers.ensures in
    let plan = c.workers.ensures.plan in
    let count = counted c.as_slice.result.now c.place_workers.new.subjects c.args.drafts.items c.as_slice.ensures.value placed.names in
    let drafts = ap (λ (vs : List Value). length vs) c.requires ∙ plan.values.0 in
    record {
      workers = record {
        few = omega (arith, count, drafts, plan.workers);
        graph = placed.opened.graph;
        spaces = placed.opened.spaces;
        vertices = λ x p at. placed.opened.vertices x p (subst (λ (subjects : List Subject). slice_get (subject_places subjects) x ≡ Some p) c.as_slice.ensures.value at);
        old = placed.opened.old;
      };
      row = let row = c.in-Ok.ensures.ready.room.row in omega (arith, count, drafts, row);
      edges = subst (λ (n : ℕ). All (JoinsWorkers n) c.edges.result.now) (sym (count ∙ drafts)) (subst (λ (es : List Edge). All (JoinsWorkers c.args.opening.now.workers) es) (sym c.edges.ensures) plan.edges);
      labels = placed.opened.content.labels;
      unused = placed.unused;
      blocks = λ x inside. placed.opened.blocks x (subst (λ (n : ℕ). x < n) count inside);
    }

pub place_workers-requires : goal.place_workers-requires
place_workers-requires g c =
    let spaces = c.in-Ok.room.cells.spaces in
    let ready = c.in-Ok.ensures.ready in
    let plan = c.workers.ensures.plan in
    let number = c.workers.ensures.number in
    let count = ap (λ (vs : List Value). length vs) c.requires ∙ plan.values.0 in
    record {
      blocks = subst (λ (n : ℕ). HasBlocks spaces n spaces.limits) (number ∙ sym count) (subst (λ (l : BlockLimits). HasBlocks spaces c.workers.result l) (sym ready.nurseries.limits_kept) ready.nurseries);
      few = omega (arith, count, plan.workers);
      payloads = ready.room.payloads;
      spare = omega (arith, count, number, ready.room.spare);
      subjects = ready.room.subjects;
    }

-- no index is there
none_indexed : (rows : List (ℕ × IndexedRow)) (name : ℕ) (row : IndexedRow) → rows ≡ [] → lookup (nat_eq name) rows ≡ Some row → ⊥
none_indexed rows name row none found =
    let no : None ≡ Some row = ap (lookup (nat_eq name)) (sym none) ∙ found in absurd cc

pub returns : goal.returns
returns g c =
    let subjects = c.place_workers.new.subjects in
    let cells = c.add_edges.new.cells in
    let named = λ (xs : List ℕ). ranged xs c.args.drafts.items c.args.opening.now.values c.args.opening.now.workers in
    let names = named (names_of subjects) c.place_workers.ensures.names c.requires c.workers.ensures.plan.values.0 in
    let all = opened c.place_workers.new.cells c.add_edges.new.cells subjects c.args.opening.now c.in-Ok.room.cells.spaces.limits c.args.limits c.edges.result.now c.args.drafts.items c.place_workers.ensures.opened c.add_edges.ensures c.requires c.workers.ensures.plan.values.0 c.in-Ok.ensures.ready.nurseries.limits_kept c.edges.ensures in
    record {
      stands =
          opened_stands c.args.opening.now c.workers.ensures.plan cells.spaces cells.payloads (subject_places subjects) c.args.limits all
          (length-map subjects (λ (x : Subject). x.place) ∙ subjects_counted subjects c.args.opening.now.workers names);
      subjects = names;
      numbers = named (nurseries_of subjects) c.place_workers.ensures.numbers c.requires c.workers.ensures.plan.values.0;
      nurseries = c.place_workers.ensures.nurseries;
      limits = all.limits_kept;
      blocks = all.all;
      handed_back = tt;
      full = subst (λ (n : ℕ). ⊥ ↔ (c.args.limits.max_blocks < n)) c.workers.ensures.number c.in-Ok.ensures.full;
    }

pub invariant_of-result : goal.invariant_of-result
invariant_of-result g c =
    let subjects = c.place_workers.new.subjects in
    let placed = c.place_workers.new.cells in
    let none : placed.remembered.places ≡ [] = ap (λ (r : Notes). r.places) c.place_workers.ensures.remembered ∙ c.in-Ok.ensures.ready.room.remembered in
    let named = ranged (names_of c.place_workers.new.subjects) c.args.drafts.items c.args.opening.now.values c.args.opening.now.workers c.place_workers.ensures.names c.requires c.workers.ensures.plan.values.0 in
    let all = opened c.place_workers.new.cells c.add_edges.new.cells c.place_workers.new.subjects c.args.opening.now c.in-Ok.room.cells.spaces.limits c.args.limits c.edges.result.now c.args.drafts.items c.place_workers.ensures.opened c.add_edges.ensures c.requires c.workers.ensures.plan.values.0 c.in-Ok.ensures.ready.nurseries.limits_kept c.edges.ensures in (
      record {
        graph = all.graph;
        subjects = c.as_slice.ensures.subjects;
        vertices = vertices_named c.add_edges.new.cells.spaces.spaces subjects c.args.opening.now.workers named all.vertices;
        nurseries = all.spaces;
        remembered = c.add_edges.ensures.remembered (subst (λ (ps : List Place). AreRemembered placed.spaces.spaces ps) (sym none) (nothing_remembered placed.spaces.spaces c.place_workers.ensures.opened.old));
      },
      λ name row found. absurd (none_indexed c.new.result.entries name row c.new.ensures found),
    )
