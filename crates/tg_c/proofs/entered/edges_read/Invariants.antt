use Rattle.std.proofs.Common.{◌≡◌, map, take}
use Rattle.tg_c.specs.Inner.Reading.{edge_read}
use Rattle.tg_c.proofs.entered.edges_read.Given as goal

abbrev pub invariant-loop-edge : goal.invariant-loop-edge
invariant-loop-edge l = l.list.items ≡ map edge_read (take l.edge-index l.edges)
