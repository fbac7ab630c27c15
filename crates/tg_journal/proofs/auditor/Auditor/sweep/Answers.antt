use Rattle.std.proofs.Common.{subst, sym}
use Rattle.tg_journal.specs.Auditing.{StandsAt}
use Rattle.tg_journal.proofs.AuditLaws.{stays_after}
use Rattle.tg_journal.proofs.auditor.Auditor.sweep.Goals as goal

pub returns-clause-stays : goal.returns-clause-stays
returns-clause-stays c = λ g stands.
    let here = subst (StandsAt g) (sym c.self.view_is) stands in record {
      none_bad = here.none_bad;
      come = stays_after c.sweep.result c.self.inside.graph c.sweep.new.self c.sweep.ensures.swept c.sweep.ensures.refused g here.come;
    }
