use Rattle.std.proofs.Common.{◌≡◌, ◌++◌, Bool, subst, sym}
use Rattle.tg_entries.specs.Read.{HasReadTo}
use Rattle.tg_entries.proofs.audit.TextAudit.line.Goals as goal

pub returns-clause-read : goal.returns-clause-read
returns-clause-read g c = λ text was.
    let value = c.replace-stage.ensures.value in
    let view = c.self.view_is in
    let same : c.args.self.now.stage ≡ c.replace-stage.result = cc in
    let keeps : c.args.self.now.keeps ≡ c.self.inside.means.keeps = cc in
    subst (HasReadTo c.self.inside.means.keeps (text ++ c.args.line.now)) (sym c.replace.ensures.after)
    (c.in_ok-next.ensures text (subst (λ (b : Bool). HasReadTo b text c.replace-stage.result) keeps (subst (HasReadTo c.args.self.now.keeps text) same was)))
