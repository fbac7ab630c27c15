use Rattle.std.proofs.Common.{inl, inr, ⊎_elim, ℕ, List, sym, ◌∙◌, subst}
use Rattle.std.specs.List.{Contains}
use Rattle.std.proofs.lemmas.Bool.{false≢true}
use Rattle.tg_model.specs.declared.edge.Edge.{Edge}
use Rattle.tg_could.specs.Reached.{IsLedTo}
use Rattle.tg_could.proofs.reached.is_shown.Goals as goal

pub returns-then-is_among : goal.returns-then-is_among
returns-then-is_among c = (
  λ t. inl (subst (λ (l : List ℕ). Contains l c.args.name) c.subjects.ensures (c.is_among.ensures.0 c.if-is_among.true)),
  λ is. c.if-is_among.true,
)

pub returns-else-is_among : goal.returns-else-is_among
returns-else-is_among c = (
  λ t. inr (subst (λ (es : List Edge). IsLedTo es c.args.name) c.edges.ensures (c.is_led_to.ensures.0 t)),
  λ is. ⊎_elim
      (λ subject. absurd (false≢true (sym c.if-is_among.false ∙ c.is_among.ensures.1 (subst (λ (l : List ℕ). Contains l c.args.name) (sym c.subjects.ensures) subject))))
      (λ led. c.is_led_to.ensures.1 (subst (λ (es : List Edge). IsLedTo es c.args.name) (sym c.edges.ensures) led)) is,
)
