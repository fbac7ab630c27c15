use Rattle.std.proofs.Common.{◌∙◌, Bool, sym, ap, eq-eqb}
use Rattle.std.proofs.lemmas.Bool.{eqb-true}
use Rattle.tg_could.specs.declared.separation.Membership.{Membership}
use Rattle.tg_could.specs.LedNames.LeadsOn.{from_source, takes_back, grants_back, takes_on, grants_on}
use Rattle.tg_could.proofs.separation.led.LedNames.led_on.Goals as goal

pub returns-then-both_but_not-clause-leads : goal.returns-then-both_but_not-clause-leads
returns-then-both_but_not-clause-leads c =
    let yes = c.both_but_not.ensures.yes c.if-both_but_not.true in
    from_source (sym c.has-held.ensures ∙ yes.1) (eqb-true c.args.edge.now.to c.args.y yes.0)

pub returns-then-both_but_not-2-clause-leads : goal.returns-then-both_but_not-2-clause-leads
returns-then-both_but_not-2-clause-leads c =
    let yes = c.both_but_not-2.ensures.yes c.if-both_but_not-2.true in
    takes_back (sym c.has-take.ensures ∙ yes.0) (ap (λ (p : Membership). p.back) (sym c.place-to.ensures) ∙ yes.1)

pub returns-then-both_but_not-3-clause-leads : goal.returns-then-both_but_not-3-clause-leads
returns-then-both_but_not-3-clause-leads c =
    let yes = c.both_but_not-3.ensures.yes c.if-both_but_not-3.true in
    grants_back (sym c.has-grant.ensures ∙ yes.0) (ap (λ (p : Membership). p.forward) (sym c.place-to.ensures) ∙ yes.1)

pub returns-then-both_but_not-4-clause-leads : goal.returns-then-both_but_not-4-clause-leads
returns-then-both_but_not-4-clause-leads c =
    let yes = c.both_but_not-4.ensures.yes c.if-both_but_not-4.true in
    grants_on (sym c.has-grant.ensures ∙ yes.0) (ap (λ (p : Membership). p.forward) (sym c.place-from.ensures) ∙ yes.1)

pub returns-then-both_but_not-5-clause-leads : goal.returns-then-both_but_not-5-clause-leads
returns-then-both_but_not-5-clause-leads c =
    let yes = c.both_but_not-5.ensures.yes c.if-both_but_not-5.true in
    takes_on (sym c.has-take.ensures ∙ yes.0) (ap (λ (p : Membership). p.forward) (sym c.place-from.ensures) ∙ yes.1)

pub returns-then-both_but_not-clause-new : goal.returns-then-both_but_not-clause-new
returns-then-both_but_not-clause-new c =
    ap (λ (p : Membership). p.back) (sym c.place-from.ensures) ∙ (c.both_but_not.ensures.yes c.if-both_but_not.true).2

pub returns-then-both_but_not-2-clause-new : goal.returns-then-both_but_not-2-clause-new
returns-then-both_but_not-2-clause-new c =
    ap (λ (p : Membership). p.back) (sym c.place-from.ensures) ∙ (c.both_but_not-2.ensures.yes c.if-both_but_not-2.true).2

pub returns-then-both_but_not-3-clause-new : goal.returns-then-both_but_not-3-clause-new
returns-then-both_but_not-3-clause-new c =
    ap (λ (p : Membership). p.back) (sym c.place-from.ensures) ∙ (c.both_but_not-3.ensures.yes c.if-both_but_not-3.true).2

pub returns-then-both_but_not-4-clause-new : goal.returns-then-both_but_not-4-clause-new
returns-then-both_but_not-4-clause-new c =
    ap (λ (p : Membership). p.back) (sym c.place-to.ensures) ∙ (c.both_but_not-4.ensures.yes c.if-both_but_not-4.true).2

pub returns-then-both_but_not-5-clause-new : goal.returns-then-both_but_not-5-clause-new
returns-then-both_but_not-5-clause-new c =
    ap (λ (p : Membership). p.forward) (sym c.place-to.ensures) ∙ (c.both_but_not-5.ensures.yes c.if-both_but_not-5.true).2

pub returns-clause-keeps : goal.returns-clause-keeps
returns-clause-keeps c =
    let forward : Membership → Bool = λ p. p.forward in
    let back : Membership → Bool = λ p. p.back in
    record {
      take_on = λ h f. ap forward (sym c.place-to.ensures) ∙ c.both_but_not-5.ensures.no c.if-both_but_not-5.false (c.has-take.ensures ∙ h) (ap forward c.place-from.ensures ∙ f);
      take_back = λ h f. ap back (sym c.place-from.ensures) ∙ c.both_but_not-2.ensures.no c.if-both_but_not-2.false (c.has-take.ensures ∙ h) (ap back c.place-to.ensures ∙ f);
      grant_on = λ h f. ap back (sym c.place-to.ensures) ∙ c.both_but_not-4.ensures.no c.if-both_but_not-4.false (c.has-grant.ensures ∙ h) (ap forward c.place-from.ensures ∙ f);
      grant_back = λ h f. ap back (sym c.place-from.ensures) ∙ c.both_but_not-3.ensures.no c.if-both_but_not-3.false (c.has-grant.ensures ∙ h) (ap forward c.place-to.ensures ∙ f);
      source = λ h at_y. ap back (sym c.place-from.ensures) ∙ c.both_but_not.ensures.no c.if-both_but_not.false (eq-eqb c.args.edge.now.to c.args.y at_y) (c.has-held.ensures ∙ h);
    }
