use Rattle.std.proofs.Common.{◌≡◌, ◌<◌, ◌≤◌, ◌-◌, slice_index}
use Rattle.tg_graph.specs.Kept.{Drops}
use Rattle.tg_graph.proofs.KeptDropped.{IsDeadBelow}
use Rattle.tg_graph.proofs.settle.drop_uncopied.Given as goal

abbrev pub decreases-loop-number : goal.decreases-loop-number
decreases-loop-number g l = l.cells - l.number

abbrev pub invariant-loop-number : goal.invariant-loop-number
invariant-loop-number g l = record {
  within : l.number ≤ l.cells;
  unmoved : l.number < l.cells → slice_index l.forward.words l.number ≡ 0;
  dropped : Drops l.fn.payloads l.payloads (IsDeadBelow l.spaces.spaces l.forward.words 0 l.number);
}
