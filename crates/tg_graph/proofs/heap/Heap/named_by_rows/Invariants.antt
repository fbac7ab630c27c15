use Rattle.std.proofs.Common.{[], map, take}
use Rattle.tg_subjects.specs.Subjects.{subject_places}
use Rattle.tg_space.specs.Targets.{all_root_targets, young_spaces}
use Rattle.tg_space.specs.declared.root.Root.TheVariants.{Row}
use Rattle.tg_graph.specs.Heap.{AddsRoots}
use Rattle.tg_graph.proofs.heap.Heap.named_by_rows.Given as goal

abbrev pub invariant-loop-subject : goal.invariant-loop-subject
invariant-loop-subject g l = AddsRoots l.self.table.spaces (all_root_targets young_spaces l.self.table.spaces (map (λ p. Row p) (take l.subject-index (subject_places l.subjects)))) [] l.roots.items
