use Rattle.std.proofs.Common.{take}
use Rattle.std.specs.List.{Contains}
use Rattle.tg_graph.specs.Kept.{Drops}
use Rattle.tg_graph.proofs.settle.drop_payloads.Given as goal

abbrev pub invariant-loop-key : goal.invariant-loop-key
invariant-loop-key g l = Drops l.fn.payloads l.payloads (Contains (take l.key-index l.keys))
