-- Who may read a vertex of a heap, and what is then read, is what the graph says for which the heap stands.
use Rattle.std.proofs.Common.{◌≡◌, ◌↔◌, ℕ, Option, Some, None, IfSome, IsSome, refl, sym, ◌∙◌}
use Rattle.tg_rights.specs.RightSet.{only}
use Rattle.tg_rights.specs.declared.Right.TheVariants as right
use Rattle.tg_model.specs.declared.command.Command.TheVariants.{Read}
use Rattle.tg_model.specs.declared.value.Value.{Value}
use Rattle.tg_model.specs.Graph.{ProtectionGraph, IsSubject}
use Rattle.tg_model.specs.Rules.{Permits, denial_of}
use Rattle.tg_model.proofs.AllowedLaws.{permits-no_denial, no_denial-permits}
use Rattle.tg_model.proofs.ReachLaws.{HasEdge-holds}
use Rattle.tg_rows.specs.Content.{Content}
use Rattle.tg_graph.specs.Standing.{IsContentOf}
use Rattle.tg_graph.proofs.StandingLaws.{StandsFor-values_near, denial_of-stands}

module _ (c : Content) (g : ProtectionGraph) (stands : IsContentOf c g) (x y : ℕ) (subject : IsSubject g x) where
  same_denial : denial_of c.label c.value x (Read y) ≡ denial_of g.label g.value x (Read y)
  same_denial = denial_of-stands c g stands x (Read y) subject

  pub read-permitted : (denial_of c.label c.value x (Read y) ≡ None) ↔ Permits g.label g.value x (Read y)
  read-permitted = (
    λ none. permits-no_denial g.label g.value x (Read y) (sym same_denial ∙ none),
    λ allowed. same_denial ∙ no_denial-permits g.label g.value x (Read y) allowed,
  )

  pub read-same : Permits g.label g.value x (Read y) → c.value y ≡ g.value y
  read-same allowed = StandsFor-values_near c g stands x subject y (HasEdge-holds g.label x y (only right.R) allowed.1 refl)

  -- what is lent is of the graph's value
  pub read-lent : {X : Type 0} (lent : Option X) (value : X → Value) → (IsSome lent → denial_of c.label c.value x (Read y) ≡ None) → IfSome lent (λ a. c.value y ≡ Some (value a)) → IfSome lent (λ a. g.value y ≡ Some (value a))
  read-lent None value served is = tt
  read-lent (Some a) value served is = sym (read-same (read-permitted.0 (served refl))) ∙ is
