use Rattle.std.proofs.Common.{◌≡◌, ℕ, subst}
use Rattle.std.proofs.lemmas.Bool.{false≢true}
use Rattle.std.proofs.lemmas.List.{get_or_default}
use Rattle.std.proofs.lemmas.List.Elements.{AllWithin-more}
use Rattle.tg_could.proofs.view.are_each.Goals as goal

pub loop-name-preserved : goal.loop-name-preserved
loop-name-preserved c =
    let P : ℕ → Type 0 = λ v. v ≡ c.args.y in
    AllWithin-more P c.args.names.now 0 c.loop-name.name-index c.loop-name.invariant
    (λ d. subst P (get_or_default c.args.names.now c.loop-name.name-index _ d c.loop-name-test.true) c.if-name-y.false)

pub returns-then-name-y : goal.returns-then-name-y
returns-then-name-y c t = absurd (false≢true t)
