use Rattle.std.proofs.Common.{◌<◌, ap, subst, sym, length, arith, is_some}
use Rattle.std.proofs.lemmas.List.{get_or_default}
use Rattle.std.proofs.lemmas.List.Elements.{AllWithin-more}
use Rattle.std.specs.Option.{IsSome}
use Rattle.tg_rights.specs.RightSet.{right_of_bit}
use Rattle.tg_c.proofs.policy.check_questions.Goals as goal

pub loop-question-preserved : goal.loop-question-preserved
loop-question-preserved c =
    let low : c.loop-question.question-index < length c.args.questions.now = omega arith in
    AllWithin-more (λ q. IsSome (right_of_bit q.right)) c.args.questions.now 0 c.loop-question.question-index c.loop-question.invariant
    (λ d. subst (λ q. IsSome (right_of_bit q.right)) (get_or_default c.args.questions.now c.loop-question.question-index _ d low) (ap is_some (sym c.in-Some.ensures)))
