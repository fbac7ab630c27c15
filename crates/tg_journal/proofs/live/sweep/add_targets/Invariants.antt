use Rattle.std.proofs.Common.{◌≡◌, nat_eq, map, take}
use Rattle.indexmap.specs.IndexSet.{insert_all}
use Rattle.tg_journal.proofs.live.sweep.add_targets.Given as goal

abbrev pub invariant-loop-edge : goal.invariant-loop-edge
invariant-loop-edge l = l.names.keys ≡ insert_all nat_eq l.fn.names.keys (map (λ e. e.0) (take l.edge-index l.row))
