use Rattle.std.proofs.Common.{take}
use Rattle.std.specs.List.{All}
use Rattle.tg_space.specs.SpaceList.{SpaceList}
use Rattle.tg_space.specs.Targets.{named_by, young_spaces}
use Rattle.tg_graph.specs.Heap.{AddsRoots, NamesRow}
use Rattle.tg_graph.proofs.settle.add_young.Given as goal

abbrev pub invariant-loop-word : goal.invariant-loop-word
invariant-loop-word l = (h : SpaceList) → All (NamesRow h) l.words → AddsRoots h (named_by young_spaces h (take l.word-index l.words)) l.fn.roots.items l.roots.items
