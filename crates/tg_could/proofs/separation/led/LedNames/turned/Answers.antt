use Rattle.std.proofs.Common.{◌∙◌, sym, ap}
use Rattle.tg_could.specs.LedNames.{from_back, from_forward, from_later}
use Rattle.tg_could.specs.declared.separation.Membership.{Membership}
use Rattle.tg_could.proofs.separation.led.LedNames.turned.Goals as goal

pub returns-then-at-clause-leads : goal.returns-then-at-clause-leads
returns-then-at-clause-leads c = from_forward (ap (λ (p : Membership). p.forward) (sym c.place-at.ensures) ∙ c.if-at.true)

pub returns-then-comes_later-clause-leads : goal.returns-then-comes_later-clause-leads
returns-then-comes_later-clause-leads c = from_later (c.comes_later.ensures.0 c.if-comes_later.true)

pub returns-then-not-at-3-clause-leads : goal.returns-then-not-at-3-clause-leads
returns-then-not-at-3-clause-leads c = from_back (ap (λ (p : Membership). p.back) (sym c.place-at.ensures) ∙ c.if-at-2.true)
