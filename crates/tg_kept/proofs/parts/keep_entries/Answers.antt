use Rattle.tg_kept.proofs.KeepingLaws.{entries_kept, entries_left, entries_lost}
use Rattle.tg_kept.proofs.parts.keep_entries.Goals as goal

pub returns-clause-kept : goal.returns-clause-kept
returns-clause-kept g c =
    entries_kept g.D.Disk c.args.place c.args.store.now c.args.file.now c.put_entries.new.file c.entries_from.result.now c.put_entries.result c.entries_from.ensures.entries c.requires c.put_entries.ensures.put c.put_entries.ensures.left

pub returns-clause-left : goal.returns-clause-left
returns-clause-left g c =
    entries_left g.D.Disk c.args.place c.args.store.now c.args.file.now c.put_entries.new.file c.entries_from.result.now c.put_entries.result c.entries_from.ensures.entries c.requires c.put_entries.ensures.put c.put_entries.ensures.left

pub returns-clause-lost : goal.returns-clause-lost
returns-clause-lost g c =
    entries_lost g.D.Disk c.args.place c.args.store.now c.args.file.now c.put_entries.new.file.disk c.entries_from.result.now c.put_entries.result c.entries_from.ensures.entries c.entries_from.ensures.faithful c.requires c.put_entries.ensures.left
