use Rattle.std.proofs.Common.{inr, refl, sym, ◌∙◌}
use Rattle.std.proofs.lemmas.Bool.{false≢true}
use Rattle.tg_could.specs.Reached.{JoinReached}
use Rattle.tg_c.proofs.foresee.foresee_on.Goals as goal

pub returns-then-not-join_reached-clause-refused : goal.returns-then-not-join_reached-clause-refused
returns-then-not-join_reached-clause-refused c g picture =
    inr (refl, λ all. false≢true (sym c.if-not-join_reached.true ∙ (c.join_reached.ensures g picture).1 all))

pub returns-clause-told : goal.returns-clause-told
returns-clause-told c g sound picture =
    let all : JoinReached g c.args.as_if.now = (c.join_reached.ensures g picture).0 c.if-not-join_reached.false in
    (all, c.in_ok-told.ensures g sound picture all)
