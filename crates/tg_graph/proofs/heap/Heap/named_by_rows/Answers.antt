use Rattle.std.proofs.Common.{◌∙◌, ◌<◌, List, Vec, Global, [], inl, ap, arith, get_or, length, map, refl, subst, sym}
use Rattle.std.proofs.lemmas.List.{get_or-map, length-map, take_all}
use Rattle.std.proofs.lemmas.List.Elements.{Contains-get_or}
use Rattle.std.specs.List.{Contains}
use Rattle.tg_word.specs.declared.Place.{Place}
use Rattle.tg_subjects.specs.Subjects.{subject_places}
use Rattle.tg_subjects.specs.declared.subject.Subject.{Subject}
use Rattle.tg_space.specs.Targets.{all_root_targets, root_targets_of, young_spaces}
use Rattle.tg_space.specs.declared.root.Root.TheVariants.{Row}
use Rattle.tg_graph.specs.Heap.{AddsRoots, HeapState}
use Rattle.tg_space.specs.Soundness.{IsRootIn}
use Rattle.tg_space.specs.declared.root.Root.{Root}
use Rattle.tg_rows.specs.Index.{names_indexed}
use Rattle.tg_graph.proofs.Heaps.{subject_vertex}
use Rattle.tg_graph.proofs.Starts.{more_rows, row_added}
use Rattle.tg_graph.proofs.heap.Heap.named_by_rows.Goals.{in-Some+in_ok-add_indexed-in-Some, in_default+in_ok-push-in_default}
use Rattle.tg_graph.proofs.heap.Heap.named_by_rows.Goals as goal

-- what an index past the end would read
abbrev nobody : Subject
nobody = record { name = 0; nursery = 0; place = record { space = 0; block = 0; cell = 0 } }

pub loop-subject-preserved : goal.loop-subject-preserved
loop-subject-preserved g c =
    let inside = c.self.inside in
    let s : HeapState = record { table = inside.cells.spaces; payloads = inside.cells.payloads; subjects = inside.subjects; remembered = inside.cells.remembered.places; indexed = names_indexed inside.cells.spaces.spaces inside.rows.entries } in
    let h = c.args.self.now.table.spaces in
    let subjects = c.as_slice-subjects.result.now in
    let ps = subject_places subjects in
    let n = c.loop-subject.subject-index in
    let x = get_or subjects n nobody in
    let low : n < length ps = let same = length-map subjects (λ (x : Subject). x.place) in let inside = c.loop-subject-test.true in omega arith in
    let there : Contains s.subjects x = subst (λ (xs : List Subject). Contains xs x) c.as_slice-subjects.ensures.value (Contains-get_or subjects n nobody c.loop-subject-test.true) in
    let vertex = subject_vertex s c.self.invariant.0 x.name x (record { there = there; named = refl }) in
    let sound : IsRootIn h (Row x.place) = subst (λ (heap : HeapState). IsRootIn heap.table.spaces (Row x.place)) c.self.view_is (inl vertex.object) in
    let Added : Place → Vec Root Global → Type 0 = λ p roots. AddsRoots h (root_targets_of young_spaces h (Row p)) c.loop-subject.roots.items roots.items in
    let step : Added x.place c.match-find.roots = elim c.match-find.branch [
      | in-Some+in_ok-add_indexed-in-Some w ↦ subst (Added x.place) (sym w.roots-is) w.in_ok-add_indexed-in-Some.ensures
      | in_default+in_ok-push-in_default w ↦ subst (Added x.place) (sym w.roots-is) (row_added h c.loop-subject.roots.items w.push.new.self.items x.place sound w.in_ok-push-in_default.ensures.items)
    ] in
    more_rows h ps n nobody.place low [] c.loop-subject.roots.items c.match-find.roots.items c.loop-subject.invariant
    (subst (λ (p : Place). Added p c.match-find.roots) (sym (get_or-map (λ (x : Subject). x.place) subjects n nobody nobody.place c.loop-subject-test.true)) step)

pub returns : goal.returns
returns g c =
    let h = c.args.self.now.table.spaces in
    let subjects = c.as_slice-subjects.result.now in
    let ps = subject_places subjects in
    let same = length-map subjects (λ (x : Subject). x.place) in
    let past = c.loop-subject-test.false in
    let all = take_all c.loop-subject.subject-index ps (omega (arith, same, past)) in
    subst (λ (xs : List Subject). AddsRoots h (all_root_targets young_spaces h (map (λ p. Row p) (subject_places xs))) [] c.loop-subject.roots.items) (c.as_slice-subjects.ensures.value ∙ ap (λ (heap : HeapState). heap.subjects) c.self.view_is)
    (subst (λ (qs : List Place). AddsRoots h (all_root_targets young_spaces h (map (λ p. Row p) qs)) [] c.loop-subject.roots.items) all c.loop-subject.invariant)
