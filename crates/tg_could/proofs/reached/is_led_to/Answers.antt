use Rattle.std.proofs.Common.{◌≡◌, false, true, refl, sym, subst, arith}
use Rattle.std.proofs.lemmas.Bool.{false≢true}
use Rattle.tg_model.specs.declared.edge.Edge.{Edge}
use Rattle.tg_could.proofs.reached.is_led_to.Goals as goal

pub returns : goal.returns
returns c = (
  λ (no : false ≡ true). absurd (false≢true no),
  λ led.
      let at = led.there in
      let low = at.1 in
      absurd (c.loop-edge.invariant at.0 led.edge (omega arith) (omega (arith, low, c.loop-edge-test.false)) (subst (λ (e : Edge). e.to ≡ c.args.name) (sym at.2) led.leads)),
)

pub returns-then-edge-name : goal.returns-then-edge-name
returns-then-edge-name c = (
  λ t. record { edge = c.edge-item.result; there = (c.loop-edge.edge-index, c.loop-edge-test.true, sym c.edge-item.is); leads = c.if-edge-name.true },
  λ led. refl,
)
