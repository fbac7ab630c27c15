use Rattle.std.proofs.Common.{refl}
use Rattle.tg_journal.proofs.AlikeLaws.{opened_alike}
use Rattle.tg_journal.proofs.auditor.Auditor.open.Goals as goal

pub returns-clause-stands : goal.returns-clause-stands
returns-clause-stands c = record {
  none_bad = refl;
  come = opened_alike c.args.opening.now _ c.in_ok-open.ensures.plan c.in_ok-open.ensures.start;
}
