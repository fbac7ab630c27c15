use Rattle.std.proofs.Common.{◌≡◌, take}
use Rattle.tg_graph.specs.Heap.{subject_names}
use Rattle.tg_rebuild.specs.Inner.Bare.{KeepsVertices}
use Rattle.tg_rebuild.specs.Inner.Raising.{IsRaised, acting}
use Rattle.tg_rebuild.proofs.subjects.add_subjects.Given as goal

-- the subjects before this place are active
abbrev pub invariant-loop-at : goal.invariant-loop-at
invariant-loop-at g l = record {
  raised : IsRaised l.snapshot l.heap;
  subjects : subject_names l.heap ≡ take l.at (acting l.snapshot.picture.subjects);
  kept : KeepsVertices l.fn.heap l.heap;
}
