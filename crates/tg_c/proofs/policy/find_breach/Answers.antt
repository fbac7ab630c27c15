use Rattle.std.proofs.Common.{subst, sym, ap, arith}
use Rattle.std.proofs.lemmas.List.{get_or_default}
use Rattle.std.proofs.lemmas.List.Elements.{AllWithin-more}
use Rattle.tg_could.specs.Reached.{with_edges}
use Rattle.tg_could.specs.declared.reached.ReachedAnswer.{ReachedAnswer}
use Rattle.tg_c.specs.Policy.{IsBreachOfPolicy, IsNeverTold, IsToldTo}
use Rattle.tg_c.specs.declared.forms.QuestionIn.{QuestionIn}
use Rattle.tg_c.proofs.policy.find_breach.Goals as goal

pub loop-place-init : goal.loop-place-init
loop-place-init c g sound picture joined sight k d low below = absurd (omega (arith, low, below))

pub loop-place-preserved : goal.loop-place-preserved
loop-place-preserved c g sound picture joined sight =
    let P : QuestionIn → Type 0 = IsNeverTold c.args.scene.now.silent.now (with_edges g c.args.as_if.now) in
    let never = c.in_ok-told.ensures.never g sound picture joined sight in
    AllWithin-more P c.args.questions.now 0 c.loop-place.place (c.loop-place.invariant g sound picture joined sight)
    (λ d. subst P (get_or_default c.args.questions.now c.loop-place.place _ d c.loop-place-test.true) (rw c.in_default.is at never))

pub returns-in-Some-clause-told : goal.returns-in-Some-clause-told
returns-in-Some-clause-told c g sound picture joined sight =
    let silent = c.args.scene.now.silent.now in
    let h = with_edges g c.args.as_if.now in
    let P : QuestionIn → Type 0 = λ q. IsToldTo silent h q c.in-Some.told in
    let told = c.in_ok-told.ensures.told g sound picture joined sight in
    let more = c.in_ok-told.ensures.more in
    let breach : IsBreachOfPolicy silent h c.args.questions.now c.loop-place.place c.in-Some.told = record {
      before = c.loop-place.invariant g sound picture joined sight;
      inside = c.loop-place-test.true;
      answer = λ d. subst P (get_or_default c.args.questions.now c.loop-place.place _ d c.loop-place-test.true) (rw c.in-Some.is at told);
      more = rw c.in-Some.is at more;
    } in
    subst (λ (a : ReachedAnswer). IsBreachOfPolicy silent h c.args.questions.now c.loop-place.place a) (sym (ap (λ o. o.told) c.in_ok-answer.ensures.ok)) breach

pub returns-clause-told : goal.returns-clause-told
returns-clause-told c g sound picture joined sight k d inside =
    c.loop-place.invariant g sound picture joined sight k d (omega arith) (omega (arith, inside, c.loop-place-test.false))
