use Rattle.std.proofs.Common.{inl, inr, sym, subst, ◌∙◌, arith}
use Rattle.std.proofs.lemmas.Bool.{false≢true}
use Rattle.tg_model.specs.Picture.{Shown, IsPictureOf}
use Rattle.tg_could.proofs.AsIfLaws.{told_as, told_unreached_as}
use Rattle.tg_could.proofs.reached.could_hold_reached.Goals.{else-question-made-via-then-question-made+else-not-is_reached, else-question-made-via-else-question-made}
use Rattle.tg_could.proofs.reached.could_hold_reached.Goals as goal

pub returns-then-not-is_reached : goal.returns-then-not-is_reached
returns-then-not-is_reached c g sound picture all =
    told_unreached_as g sound c.args.supposed.now all c.args.scene.now.picture.now picture c.args.scene.now.silent.now c.args.question.x c.args.question.right c.args.question.y (omega (arith, c.if-question-made.true, c.made.ensures))
    (λ reached. false≢true (sym c.if-not-is_reached.true ∙ (c.is_reached.ensures g picture).1 reached))

pub returns : goal.returns
returns c g sound picture all =
    told_as g sound c.args.supposed.now all c.args.scene.now.picture.now picture c.args.scene.now.silent.now c.args.question.x c.args.question.right c.args.question.y c.in_ok-answer.answer
    (elim c.else-question-made.branch [
      | else-question-made-via-then-question-made+else-not-is_reached w ↦ inl ((w.is_reached.ensures g picture).0 w.if-not-is_reached.false)
      | else-question-made-via-else-question-made w ↦ inr (omega (arith, w.if-question-made.false, c.made.ensures))
    ])
    (λ h is. c.in_ok-answer.ensures h (subst (λ (s : Shown). IsPictureOf s h) (sym c.in_ok-picture.ensures) is))
