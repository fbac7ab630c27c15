use Rattle.std.proofs.Common.{◌≡◌, nat_eq, take}
use Rattle.indexmap.specs.IndexSet.{insert_all}
use Rattle.tg_journal.proofs.live.sweep.add_names.Given as goal

abbrev pub invariant-loop-name : goal.invariant-loop-name
invariant-loop-name l = l.names.keys ≡ insert_all nat_eq l.fn.names.keys (take l.name-index l.more)
