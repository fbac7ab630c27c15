use Rattle.std.proofs.Common.{◌≡◌, ◌∙◌, ℕ, List, refl, sym, ap, subst}
use Rattle.tg_could.specs.Names.{number_in, place_in}
use Rattle.tg_could.specs.declared.search.names.Names.{Names}
use Rattle.tg_could.proofs.search.names.Names.number.Goals as goal

pub returns-in-Each : goal.returns-in-Each
unfolding number_in
returns-in-Each c = subst (λ (n : Names). c.args.name ≡ number_in n c.args.name) (sym c.in-Each.is) refl

pub returns-in-Few : goal.returns-in-Few
unfolding number_in
returns-in-Few c =
    subst (λ (n : Names). c.place_of.result ≡ number_in n c.args.name) (sym c.in-Few.is)
    (c.place_of.ensures ∙ ap (λ (l : List ℕ). place_in l c.in-Few.steps c.args.name) c.as_slice.ensures.value)
