use Rattle.std.proofs.Common.{◌≡◌, ◌∙◌, subst}
use Rattle.tg_entries.specs.Read.{HasReadTo}
use Rattle.tg_entries.proofs.audit.TextAudit.finish.Goals as goal

pub returns-in-Ended : goal.returns-in-Ended
returns-in-Ended g c = λ text was.
    let value = c.replace-stage.ensures.value in
    let view = c.self.view_is in
    let same : c.args.self.now.stage ≡ c.replace-stage.result = cc in
    subst (HasReadTo c.args.self.now.keeps text) (same ∙ c.in-Ended.is) was
