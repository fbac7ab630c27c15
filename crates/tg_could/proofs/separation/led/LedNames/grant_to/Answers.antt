use Rattle.std.proofs.Common.{◌∙◌, ℕ, sym, ap, subst, arith}
use Rattle.tg_rights.specs.declared.Right.TheVariants.{G}
use Rattle.tg_model.specs.Opened.{label_in}
use Rattle.tg_model.specs.Picture.{Holds}
use Rattle.tg_could.specs.LedNames.{sides_led}
use Rattle.tg_could.specs.declared.separation.Membership.{Membership}
use Rattle.tg_could.proofs.TurnLaws.{Holds-member}
use Rattle.tg_could.proofs.SettledLaws.{none_given}
use Rattle.tg_could.proofs.separation.led.LedNames.grant_to.Goals as goal

pub returns-then-place-clause-given : goal.returns-then-place-clause-given
returns-then-place-clause-given c t =
    let es = c.args.edges.now in
    let e = c.edge-item.result in
    let there = Holds-member es c.loop-edge.edge-index e c.loop-edge-test.true c.edge-item.is G (sym c.has.ensures ∙ c.if-has.true) in (
      e.from,
      subst (λ (v : ℕ). Holds (label_in es) e.from G v) c.if-edge-x.true there,
      ap (λ (p : Membership). p.forward) (sym c.place.ensures) ∙ c.if-place.true,
    )

pub returns-clause-not_given : goal.returns-clause-not_given
returns-clause-not_given c t =
    none_given (sides_led c.args.self.now).forward c.args.x c.args.edges.now (λ k d inside. c.loop-edge.invariant k d (omega arith) (omega arith))
