use Rattle.tg_kept.proofs.KeepingLaws.{leaves_store}
use Rattle.tg_kept.proofs.ReopenLaws.{keeps_opened}
use Rattle.tg_kept.proofs.kept.Kept.open.Goals as goal

pub invariant_of-kept : goal.invariant_of-kept
invariant_of-kept g c = record {
  opened = c.in-Ok.ensures.store.began;
  writable = record { settled = c.in-Ok.ensures.opened.settled; mixing = c.requires.disk.mixing };
  keeps = keeps_opened g.D.Disk c.new-file.result c.open_store.new.file c.args.limits c.in-Ok.found.store c.in-Ok.ensures.opened c.in-Ok.ensures.store;
}

pub returns-in-Ok-clause-left : goal.returns-in-Ok-clause-left
returns-in-Ok-clause-left g c =
    leaves_store g.D.Disk c.in-Ok.found.store c.open_store.new.file c.in-Ok.ensures.opened.settled
    (keeps_opened g.D.Disk c.new-file.result c.open_store.new.file c.args.limits c.in-Ok.found.store c.in-Ok.ensures.opened c.in-Ok.ensures.store)

pub returns-in-Ok-clause-store : goal.returns-in-Ok-clause-store
returns-in-Ok-clause-store g c = rw c.new-file.ensures at c.in-Ok.ensures.store

pub returns-in-Err-clause-refused : goal.returns-in-Err-clause-refused
returns-in-Err-clause-refused g c = rw c.new-file.ensures at c.in-Err.ensures.refused

pub returns-in-Err-clause-crash : goal.returns-in-Err-clause-crash
returns-in-Err-clause-crash g c = rw c.new-file.ensures at c.in-Err.ensures.crash
