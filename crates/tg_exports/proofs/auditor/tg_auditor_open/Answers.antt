use Rattle.std.proofs.Common.{refl, ◌∙◌, sym}
use Rattle.tg_c.specs.declared.refusal.CallRefusal.TheVariants as refusal
use Rattle.tg_c.proofs.OpenLaws.{not_both, not_done}
use Rattle.tg_exports.proofs.auditor.tg_auditor_open.Goals as goal

pub returns-then-auditor : goal.returns-then-auditor
returns-then-auditor c = record {
  already_open = λ was. c.status.ensures;
  opened = λ done. absurd (not_done refusal.AlreadyOpen (sym c.status.ensures ∙ done));
  refused = λ was fails. absurd (not_both c.if-auditor.true was);
  kept = λ fails. refl;
}

pub returns-in-Err : goal.returns-in-Err
returns-in-Err c = record {
  already_open = λ was. absurd (not_both was c.if-auditor.false);
  opened = λ done. absurd (not_done c.in-Err.refusal (sym c.status-in-Err.ensures ∙ done));
  refused = λ was fails. (c.in-Err.refusal, c.in-Err.ensures.refused, c.status-in-Err.ensures);
  kept = λ fails. refl;
}
