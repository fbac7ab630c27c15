use Rattle.std.specs.List.{AllWithin}
use Rattle.std.specs.Option.{IsSome}
use Rattle.tg_rights.specs.RightSet.{right_of_bit}
use Rattle.tg_c.proofs.policy.check_questions.Given as goal

abbrev pub invariant-loop-question : goal.invariant-loop-question
invariant-loop-question l = AllWithin (λ q. IsSome (right_of_bit q.right)) l.questions 0 l.question-index
