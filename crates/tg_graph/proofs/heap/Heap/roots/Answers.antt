-- What the collections from the roots reach, and that they are sound.
use Rattle.std.proofs.Common.{◌≡◌, ◌∙◌, ◌++◌, List, Vec, Global, [], ◌∷◌, map, refl, ap, subst, sym}
use Rattle.std.proofs.lemmas.Result.{IfOk-weaker}
use Rattle.tg_word.specs.declared.Place.{Place}
use Rattle.tg_subjects.specs.Subjects.{subject_places}
use Rattle.tg_subjects.specs.declared.subject.Subject.{Subject}
use Rattle.tg_space.specs.Soundness.{AreSound}
use Rattle.tg_space.specs.Targets.{all_root_targets, from_space, young_spaces}
use Rattle.tg_space.specs.declared.kind.Kind.{Kind}
use Rattle.tg_space.specs.declared.kind.Kind.TheVariants.{Full, Nursery}
use Rattle.tg_space.specs.declared.root.Root.{Root}
use Rattle.tg_space.specs.declared.root.Root.TheVariants.{Remembered, Row}
use Rattle.tg_rows.specs.Index.{names_indexed}
use Rattle.tg_graph.specs.Heap.{AddsRoots, CollectAlike, HeapState, IsWellFormed, roots_of}
use Rattle.tg_graph.proofs.KeptHeap.{roots_sound}
use Rattle.tg_graph.proofs.Starts.{all_same, starts_collect, starts_sound}
use Rattle.tg_graph.proofs.heap.Heap.roots.Goals as goal

-- the rows of subjects are those at their places
at_places : (xs : List Subject) → map (λ (x : Subject). Row x.place) xs ≡ map (λ (p : Place). Row p) (subject_places xs)
at_places [] = refl
at_places (x ∷ xs) = ap (λ (roots : List Root). Row x.place ∷ roots) (at_places xs)

-- what is asked of the roots of a heap
record StandFor (kind : Kind) (s : HeapState) (roots : List Root) : Type 0 where
  alike : CollectAlike kind s.table.spaces (roots_of kind s) roots
  targets : all_root_targets (from_space kind) s.table.spaces roots ≡ all_root_targets (from_space kind) s.table.spaces (roots_of kind s)
  sound : AreSound s.table.spaces roots

rows_stand : (s : HeapState) → IsWellFormed s → StandFor Full s (map (λ (x : Subject). Row x.place) s.subjects)
rows_stand s formed = subst (StandFor Full s) (sym (at_places s.subjects)) (record { alike = λ made. (λ is. is, λ is. is); targets = refl; sound = roots_sound s formed Full })

noted_stand : (s : HeapState) → IsWellFormed s → (roots : List Root) → AddsRoots s.table.spaces (all_root_targets young_spaces s.table.spaces (map (λ p. Row p) (subject_places s.subjects))) [] roots → StandFor Nursery s (roots ++ map (λ p. Remembered p) s.remembered)
noted_stand s formed roots are = record { alike = starts_collect s formed roots are; targets = all_same s formed roots are; sound = starts_sound s formed roots are }

pub returns-in-Full : goal.returns-in-Full
returns-in-Full g c =
    let inside = c.self.inside in
    let s : HeapState = record { table = inside.cells.spaces; payloads = inside.cells.payloads; subjects = inside.subjects; remembered = inside.cells.remembered.places; indexed = names_indexed inside.cells.spaces.spaces inside.rows.entries } in
    let now = c.args.self.now in
    let kind = c.args.kind in
    let rows : List Subject → List Root = λ xs. map (λ (x : Subject). Row x.place) xs in
    let stand : StandFor kind now (rows s.subjects) = subst (λ (k : Kind). StandFor k now (rows s.subjects)) (sym c.in-Full.is) (subst (λ (heap : HeapState). StandFor Full heap (rows s.subjects)) c.self.view_is (rows_stand s c.self.invariant.0)) in
    let Are : Vec Root Global → Type 0 = λ roots. roots.items ≡ rows c.as_slice.result.now in
    let here : (roots : Vec Root Global) → Are roots → StandFor kind now roots.items = λ roots is. subst (StandFor kind now) (sym (is ∙ ap rows c.as_slice.ensures.value)) stand in
    let h = now.table.spaces in
    record {
      roots = IfOk-weaker c.rows.result Are (λ roots. CollectAlike kind h (roots_of kind now) roots.items) (λ roots is. (here roots is).alike) c.rows.ensures;
      targets = IfOk-weaker c.rows.result Are (λ roots. all_root_targets (from_space kind) h roots.items ≡ all_root_targets (from_space kind) h (roots_of kind now)) (λ roots is. (here roots is).targets) c.rows.ensures;
      sound = IfOk-weaker c.rows.result Are (λ roots. AreSound h roots.items) (λ roots is. (here roots is).sound) c.rows.ensures;
    }

pub returns-in_ok-add_remembered-in-Nursery : goal.returns-in_ok-add_remembered-in-Nursery
returns-in_ok-add_remembered-in-Nursery g c =
    let inside = c.self.inside in
    let s : HeapState = record { table = inside.cells.spaces; payloads = inside.cells.payloads; subjects = inside.subjects; remembered = inside.cells.remembered.places; indexed = names_indexed inside.cells.spaces.spaces inside.rows.entries } in
    let now = c.args.self.now in
    let rows = c.in_ok-roots-in-Nursery.roots.items in
    let are = subst (λ (heap : HeapState). AddsRoots heap.table.spaces (all_root_targets young_spaces heap.table.spaces (map (λ p. Row p) (subject_places heap.subjects))) [] rows) (sym c.self.view_is) c.in_ok-roots-in-Nursery.ensures in
    let noted : StandFor Nursery now (rows ++ map (λ p. Remembered p) s.remembered) = subst (λ (heap : HeapState). StandFor Nursery heap (rows ++ map (λ p. Remembered p) s.remembered)) c.self.view_is (noted_stand s c.self.invariant.0 rows are) in
    let stand : StandFor c.args.kind now c.add_remembered.new.roots.items = subst (λ (k : Kind). StandFor k now c.add_remembered.new.roots.items) (sym c.in-Nursery.is) (subst (StandFor Nursery now) (sym c.in_ok-add_remembered-in-Nursery.ensures) noted) in
    record { roots = stand.alike; targets = stand.targets; sound = stand.sound }
