use Rattle.std.specs.List.{AllWithin}
use Rattle.tg_c.specs.View.{JoinsSeen}
use Rattle.tg_c.proofs.view.sight.Sight.join_seen.Given as goal

abbrev pub invariant-loop-edge : goal.invariant-loop-edge
invariant-loop-edge l = AllWithin (JoinsSeen l.self.seen) l.edges 0 l.edge-index
