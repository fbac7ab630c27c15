use Rattle.std.proofs.Common.{None, refl}
use Rattle.tg_entries.specs.Texts.{Shown}
use Rattle.tg_entries.proofs.ReadLaws.{snapshot_read}
use Rattle.tg_entries.proofs.audit.reopen.Goals as goal

pub returns : goal.returns
returns c = λ text is.
    snapshot_read c.args.means.keeps text c.args.snapshot (record { auditor = c.in_ok-auditor.auditor; count = 0; before = None; kept = c.begin.result }) is c.picture.ensures.accepted
    c.in_ok-auditor.ensures.stands c.in_ok-auditor.ensures.place refl refl (c.begin.ensures (Shown c.args.snapshot) refl)
