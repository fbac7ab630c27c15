use Rattle.std.specs.Prelude.{map}
use Rattle.tg_kept.specs.Texts.{entry_line}
use Rattle.tg_kept.proofs.KeepingLaws.{leaves_nothing}
use Rattle.tg_kept.proofs.put.put_entries.Goals as goal

pub returns-then-is_empty-clause-left : goal.returns-then-is_empty-clause-left
returns-then-is_empty-clause-left g c = leaves_nothing g.D.Disk (map entry_line c.args.entries.now) c.args.file.now c.requires.settled

pub returns-in_err-lines-clause-left : goal.returns-in_err-lines-clause-left
returns-in_err-lines-clause-left g c = leaves_nothing g.D.Disk (map entry_line c.args.entries.now) c.args.file.now c.requires.settled
