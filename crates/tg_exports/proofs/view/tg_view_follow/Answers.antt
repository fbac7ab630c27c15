use Rattle.std.proofs.Common.{◌∙◌, refl, sym}
use Rattle.tg_c.proofs.OpenLaws.{not_done}
use Rattle.tg_exports.proofs.view.tg_view_follow.Goals as goal

pub returns-in-Ok : goal.returns-in-Ok
returns-in-Ok c = record {
  stays = c.follow.ensures.stays;
  told = λ done. (c.in-Ok.followed, c.in-Ok.ensures.told, c.flag.ensures);
  refused = λ fails. absurd (fails refl);
  kept = λ fails. absurd (fails refl);
}

pub returns-in-Err : goal.returns-in-Err
returns-in-Err c = record {
  stays = c.follow.ensures.stays;
  told = λ done. absurd (not_done c.in-Err.refusal (sym c.status.ensures ∙ done));
  refused = λ fails. (c.in-Err.refusal, c.in-Err.ensures.refused, c.status.ensures);
  kept = λ fails. refl;
}
