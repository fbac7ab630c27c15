use Rattle.std.proofs.Common.{◌*◌, ◌-◌, ◌≤◌, length}
use Rattle.tg_space.specs.SpaceList.{cells_of, space_of}
use Rattle.tg_graph.proofs.KeptDropped.{AreKeysBelow}
use Rattle.tg_graph.proofs.settle.dead_keys.Given as goal

abbrev pub decreases-loop-number : goal.decreases-loop-number
decreases-loop-number l = l.cells - l.number

abbrev pub invariant-loop-number : goal.invariant-loop-number
invariant-loop-number l = record {
  high : 64 * length (space_of l.spaces.spaces 0) ≤ l.number;
  within : l.number ≤ length (cells_of l.spaces.spaces);
  keys : AreKeysBelow l.spaces.spaces l.forward.words (64 * length (space_of l.spaces.spaces 0)) l.number l.keys.items;
}
