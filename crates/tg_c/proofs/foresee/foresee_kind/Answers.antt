use Rattle.std.proofs.Common.{◌∙◌, Ok, Err, ap, refl}
use Rattle.tg_c.specs.Could.{kind_in}
use Rattle.tg_c.proofs.foresee.foresee_kind.Goals as goal

pub returns-in-Ok : goal.returns-in-Ok
returns-in-Ok c = record {
  stays = c.foresee.ensures.kept.stays;
  same = c.foresee.ensures.kept.same;
  answer = Ok c.in-Ok.opened.value.told;
  told = ap Ok (c.kind.ensures ∙ ap (λ o. kind_in o.told) c.deref.ensures);
  is = c.in-Ok.ensures.told;
  refused = tt;
}

pub returns-in-Err : goal.returns-in-Err
returns-in-Err c = record {
  stays = c.foresee.ensures.kept.stays;
  same = c.foresee.ensures.kept.same;
  answer = Err c.in-Err.refusal;
  told = refl;
  is = tt;
  refused = c.in-Err.ensures.refused;
}
