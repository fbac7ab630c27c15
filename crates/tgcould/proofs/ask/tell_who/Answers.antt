use Rattle.std.proofs.Common.{◌∙◌, sym, ⊎_elim, arith}
use Rattle.std.proofs.lemmas.Bool.{false≢true}
use Rattle.tgcould.proofs.ask.tell_who.Goals as goal

pub returns-in-Ok : goal.returns-in-Ok
returns-in-Ok c never x =
    let nobody = c.add_holders.ensures never in
    c.in-Ok.ensures x
    (⊎_elim (λ (k, inside, is). absurd (omega (arith, inside, nobody.0))) (λ (is, late). false≢true (sym nobody.1 ∙ is)))
