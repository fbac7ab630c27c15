use Rattle.tg_entries.specs.Texts.{IsAudited}
use Rattle.tg_entries.proofs.ReadLaws.{audited_ended, known_text}
use Rattle.tg_entries.proofs.stream.audit_text.Goals as goal

pub returns : goal.returns
returns g c =
    let e = c.in_ok-entered.ensures in
    let entered = c.in_ok-entered.entered in
    known_text _ (λ text. IsAudited text entered.count) e.text e.same (audited_ended _ e.text entered e.ended)
