use Rattle.std.proofs.Common.{ℕ, subst, arith}
use Rattle.std.proofs.lemmas.List.Elements.{AllWithin-more}
use Rattle.std.proofs.lemmas.List.{get_or_default}
use Rattle.std.proofs.lemmas.Bool.{false≢true}
use Rattle.tg_could.specs.View.{IsOfOne}
use Rattle.tg_could.proofs.view.islands.Islands.are_single.Goals as goal

pub loop-actor-preserved : goal.loop-actor-preserved
loop-actor-preserved c =
    let P : ℕ → Type 0 = IsOfOne c.args.names.now c.args.self.now in
    AllWithin-more P c.args.actors.now 0 c.loop-actor.actor-index c.loop-actor.invariant
    (λ d. subst P (get_or_default c.args.actors.now c.loop-actor.actor-index _ d c.loop-actor-test.true) (c.is_of_one.ensures c.if-not-is_of_one.false))

pub returns : goal.returns
returns c t k d below = c.loop-actor.invariant k d (omega (arith)) (omega (arith, below, c.loop-actor-test.false))

pub returns-then-not-is_of_one : goal.returns-then-not-is_of_one
returns-then-not-is_of_one c t = absurd (false≢true t)
