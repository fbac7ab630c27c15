use Rattle.std.proofs.Common.{◌∙◌, Some, None, refl, sym}
use Rattle.tg_c.proofs.OpenLaws.{not_done}
use Rattle.tg_exports.proofs.could.tg_could_any.Goals as goal

pub returns-in-Ok-Some : goal.returns-in-Ok-Some
returns-in-Ok-Some c =
    let answered = c.in-Ok-Some.ensures.told in
    record {
      stays = c.first_breach.ensures.kept.stays;
      same = c.first_breach.ensures.kept.same;
      told = λ done. (Some c.in-Ok-Some.breach, rw c.in-Ok-Some.field-0-is at answered, (refl, c.put.ensures.open, c.put.ensures.opened));
      refused = λ fails. absurd (fails refl);
      kept = λ fails. absurd (fails refl);
    }

pub returns-in-Ok-None : goal.returns-in-Ok-None
returns-in-Ok-None c =
    let answered = c.in-Ok-None.ensures.told in
    record {
      stays = c.first_breach.ensures.kept.stays;
      same = c.first_breach.ensures.kept.same;
      told = λ done. (None, rw c.in-Ok-None.field-0-is at answered, (refl, refl));
      refused = λ fails. absurd (fails refl);
      kept = λ fails. absurd (fails refl);
    }

pub returns-in-Err : goal.returns-in-Err
returns-in-Err c = record {
  stays = c.first_breach.ensures.kept.stays;
  same = c.first_breach.ensures.kept.same;
  told = λ done. absurd (not_done c.in-Err.refusal (sym c.status.ensures ∙ done));
  refused = λ fails. (c.in-Err.refusal, c.in-Err.ensures.refused, c.status.ensures);
  kept = λ fails. (refl, refl);
}
