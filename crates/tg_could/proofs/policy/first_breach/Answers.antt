use Rattle.std.proofs.Common.{subst, arith}
use Rattle.std.proofs.lemmas.List.{get_or_default}
use Rattle.std.proofs.lemmas.List.Elements.{AllWithin-more}
use Rattle.tg_could.specs.Answered.{IsAnswer}
use Rattle.tg_could.specs.Turns.{NeverHolds}
use Rattle.tg_could.specs.declared.question.Question.{Question}
use Rattle.tg_could.proofs.policy.first_breach.Goals as goal

pub loop-place-preserved : goal.loop-place-preserved
loop-place-preserved c g picture =
    let silent = c.args.scene.now.silent.now in
    let P : Question → Type 0 = λ q. NeverHolds silent g q.x q.right q.y in
    let never = c.in_ok-answer.ensures.never g picture in
    AllWithin-more P c.args.questions.now 0 c.loop-place.place (c.loop-place.invariant g picture)
    (λ d. subst P (get_or_default c.args.questions.now c.loop-place.place _ d c.loop-place-test.true) (rw c.in_default.is at never))

pub returns-in-Some : goal.returns-in-Some
returns-in-Some c g picture =
    let silent = c.args.scene.now.silent.now in
    let P : Question → Type 0 = λ q. IsAnswer silent g q.x q.right q.y c.in-Some.answer in
    let told = c.in_ok-answer.ensures.told g picture in
    let more = c.in_ok-answer.ensures.more in
    record {
      before = c.loop-place.invariant g picture;
      inside = c.loop-place-test.true;
      answer = λ d. subst P (get_or_default c.args.questions.now c.loop-place.place _ d c.loop-place-test.true) (rw c.in-Some.is at told);
      more = rw c.in-Some.is at more;
    }

pub returns : goal.returns
returns c g picture k d inside =
    c.loop-place.invariant g picture k d (omega arith) (omega (arith, inside, c.loop-place-test.false))
