-- The denial is the graph's, which stays.
use Rattle.std.proofs.Common.{refl, subst, sym}
use Rattle.tg_store.specs.Inner.Answering.{IsReplied}
use Rattle.tg_store.proofs.AnswerLaws.{replied-denied}
use Rattle.tg_store.proofs.Apart.{done_not_denied, ok_not_err}
use Rattle.tg_store.proofs.answer.answer_command.Goals as goal

pub returns-in-Err-clause-answered : goal.returns-in-Err-clause-answered
returns-in-Err-clause-answered g c = record {
  replied = subst (IsReplied c.args.subject.name c.args.command.now c.args.heap.now c.args.heap.now) (sym c.deny.ensures.reply)
      (replied-denied c.args.heap.now c.args.subject.name c.args.command.now c.in-Err.denial (sym c.in-Err.ensures.denial));
  kept = record { limits = refl; refused = tt; worker = λ e. ok_not_err e };
}

pub returns-in-Err-clause-denied : goal.returns-in-Err-clause-denied
returns-in-Err-clause-denied g c = λ _ _. refl

pub returns-in-Err-clause-full : goal.returns-in-Err-clause-full
returns-in-Err-clause-full g c = λ e. absurd (ok_not_err e)

pub returns-in-Ok-2-clause-denied : goal.returns-in-Ok-2-clause-denied
returns-in-Ok-2-clause-denied g c = λ denial is. absurd (done_not_denied c.change.result denial c.change.ensures.done is)
