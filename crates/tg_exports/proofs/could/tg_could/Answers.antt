use Rattle.std.proofs.Common.{refl, ◌∙◌, sym, subst}
use Rattle.tg_c.specs.Could.{IsForeseen}
use Rattle.tg_c.proofs.OpenLaws.{not_done}
use Rattle.tg_exports.proofs.could.tg_could.Goals as goal

pub returns-in-Ok : goal.returns-in-Ok
returns-in-Ok c = record {
  stays = c.foresee.ensures.kept.stays;
  same = c.foresee.ensures.kept.same;
  told = λ done. (
    c.put.ensures.open,
    subst (λ o. IsForeseen c.args.store.now c.args.answer.now.is_open c.args.silent.now c.args.as_if.now c.args.x c.args.right c.args.y o.told) (sym c.put.ensures.opened)
        c.in-Ok.ensures.told,
  );
  refused = λ fails. absurd (fails refl);
  kept = λ fails. absurd (fails refl);
}

pub returns-in-Err : goal.returns-in-Err
returns-in-Err c = record {
  stays = c.foresee.ensures.kept.stays;
  same = c.foresee.ensures.kept.same;
  told = λ done. absurd (not_done c.in-Err.refusal (sym c.status.ensures ∙ done));
  refused = λ fails. (c.in-Err.refusal, c.in-Err.ensures.refused, c.status.ensures);
  kept = λ fails. refl;
}
