use Rattle.std.proofs.Common.{subst}
use Rattle.std.proofs.lemmas.Result.{IfOk-weaker}
use Rattle.tg_model.specs.Opened.{start_of}
use Rattle.tg_model.specs.Picture.{IsPictureOf}
use Rattle.tg_plain.proofs.past.after_opening.Goals as goal

pub returns : goal.returns
returns c =
    IfOk-weaker c.picture_after.result _ _
    (λ p after sound legal.
    after (start_of c.args.opening.now) sound (subst (IsPictureOf c.in_ok-first.first) c.in_ok-graph.ensures c.in_ok-first.ensures) legal)
    c.picture_after.ensures
