use Rattle.std.proofs.Common.{◌∙◌, sym, ⊎_elim, arith}
use Rattle.std.proofs.lemmas.Bool.{false≢true}
use Rattle.tg_rights.proofs.RightLaws.{has-none_held}
use Rattle.tgcould.proofs.ask.tell_what.Goals as goal

pub returns-in-Ok : goal.returns-in-Ok
returns-in-Ok c never right y =
    let nothing = c.add_held.ensures never in
    c.in-Ok.ensures right y
    (⊎_elim (λ held. absurd (omega (arith, held.there.1, nothing.0)))
    (λ (is, late). false≢true (sym (has-none_held _ nothing.1 right) ∙ is)))
