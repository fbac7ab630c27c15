-- Who doesn't hold a right over itself never does, and nobody comes to hold one over the only one who acts.
use Rattle.std.proofs.Common.{◌≡◌, ◌⊎◌, inl, inr, ⊎_elim, ℕ, ◌≤◌, List, [], ◌∷◌, length, ◌∙◌, sym, subst, arith}
use Rattle.tg_rights.specs.RightSet.{RightSet}
use Rattle.tg_rights.specs.declared.Right.{Right}
use Rattle.tg_model.specs.declared.opening.TheConstants.{MAX_WORKERS}
use Rattle.tg_model.specs.declared.command.Command.{Command}
use Rattle.tg_model.specs.declared.command.Command.TheVariants.{Take, Grant, Remove, Retire}
use Rattle.tg_model.specs.declared.command.Deed.{Deed}
use Rattle.tg_model.specs.declared.command.Deed.TheVariants.{Create, Spawn, Plain}
use Rattle.tg_model.specs.Graph.{ProtectionGraph, IsSubject, with_rights}
use Rattle.tg_model.specs.Picture.{Holds, IsMade}
use Rattle.tg_model.specs.Rules.{Permits, labels_after, effect, step}
use Rattle.tg_model.proofs.AllowedLaws.{plain_cases, create_cases, spawn_cases}
use Rattle.tg_model.proofs.PictureLaws.{Holds-with_rights}
use Rattle.tg_model.proofs.SubjectLaws.{is_without}
use Rattle.tg_could.specs.Turns.{Turn, Acts, AreTurns, after}
use Rattle.tg_could.proofs.SeparationLaws.{IsMade-step, Holds-without_rights}

-- a right of x over y stands no more than before, where x is y, or y is the one whose turn it is
module _ (g : ProtectionGraph) (made : IsMade g) (p : ℕ) (subject : IsSubject g p) (x : ℕ) (r : Right) (y : ℕ) (one : (x ≡ y) ⊎ (p ≡ y)) where
  -- a new edge from a to b isn't one from x to y, where its ends differ and it isn't one to the one whose turn it is
  not_new : (a b : ℕ) (rights : RightSet) → (a ≡ b → ⊥) → (b ≡ p → ⊥) → Holds (with_rights g.label a b rights) x r y → Holds g.label x r y
  not_new a b rights differ other h =
      ⊎_elim (λ old. old)
      (λ (at_a, at_b, is). ⊎_elim (λ (same : x ≡ y). absurd (differ (sym at_a ∙ (same ∙ at_b)))) (λ (own : p ≡ y). absurd (other (sym at_b ∙ sym own))) one)
      (Holds-with_rights g.label a b rights x r y h)

  no_more : (command : Command) → Permits g.label g.value p command → Holds (labels_after g.label p command) x r y → Holds g.label x r y
  no_more (Take rights via z) allowed h = not_new p z rights allowed.2 (λ e. allowed.2 (sym e)) h
  no_more (Grant rights via z) allowed h = not_new via z rights allowed.1 (λ e. allowed.2 (sym e)) h
  no_more (Remove rights z) allowed h = Holds-without_rights g.label p z rights x r y h
  no_more command allowed h = h

  abbrev Still : ProtectionGraph → Type 0
  Still h = Holds h.label x r y → Holds g.label x r y

  of_new : (rights : RightSet) → Holds (with_rights g.label p g.made rights) x r y → Holds g.label x r y
  of_new rights = let below = made.subjects p subject in not_new p g.made rights (λ e. omega (arith, e, below)) (λ e. omega (arith, e, below))

  pub still-step : (deed : Deed) → Still (step g p deed)
  still-step (Create rights law state) = create_cases g p Still rights law state (λ h. h) (λ room. of_new rights)
  still-step (Spawn rights law state) = spawn_cases g p Still rights law state (λ h. h) (λ room few. of_new rights)
  still-step (Plain command) = plain_cases g p Still command (λ h. h) (λ allowed. no_more command allowed)

module _ (silent : ℕ → Type 0) (x : ℕ) (r : Right) (y : ℕ) where
  pub same-never : x ≡ y → (g : ProtectionGraph) → IsMade g → ¬ Holds g.label x r y → (turns : List Turn) → AreTurns silent g turns → ¬ Holds (after g turns).label x r y
  same-never same g made lacks [] are = lacks
  same-never same g made lacks (turn ∷ turns) are =
      same-never same (step g turn.0 turn.1) (IsMade-step g made turn.0 are.0.0 turn.1)
      (λ h. lacks (still-step g made turn.0 are.0.0 x r y (inl same) turn.1 h)) turns are.1

  -- nobody but y acts, and no subject can be spawned before y retires
  pub record IsAlone (g : ProtectionGraph) : Type 0 where
    pub alone : (p : ℕ) → Acts silent g p → p ≡ y
    pub full : (MAX_WORKERS ≤ length g.subjects) ⊎ ((p : ℕ) → ¬ Acts silent g p)

  module _ (g : ProtectionGraph) (is : IsAlone g) (acts : Acts silent g y) where
    many : MAX_WORKERS ≤ length g.subjects
    many = ⊎_elim (λ full. full) (λ none. absurd (none y acts)) is.full

    alone-after : (command : Command) → IsAlone (effect g y command)
    alone-after Retire =
        let left : (p : ℕ) → Acts silent (effect g y Retire) p → ⊥ = λ p later.
        let was = (is_without g.subjects y p).0 later.0 in
        was.1 (is.alone p (was.0, later.1)) in
        record { alone = λ p later. absurd (left p later); full = inr left }
    alone-after command = record { alone = is.alone; full = is.full }

    pub alone-step : (deed : Deed) → IsAlone (step g y deed)
    alone-step (Create rights law state) = create_cases g y IsAlone rights law state is (λ room. record { alone = is.alone; full = is.full })
    alone-step (Spawn rights law state) = let m = many in spawn_cases g y IsAlone rights law state is (λ room few. absurd (omega (arith, few, m)))
    alone-step (Plain command) = plain_cases g y IsAlone command is (λ allowed. alone-after command)

  pub alone-never : (g : ProtectionGraph) → IsMade g → IsAlone g → ¬ Holds g.label x r y → (turns : List Turn) → AreTurns silent g turns → ¬ Holds (after g turns).label x r y
  alone-never g made is lacks [] are = lacks
  alone-never g made is lacks (turn ∷ turns) are =
      let own : turn.0 ≡ y = is.alone turn.0 are.0 in
      alone-never (step g turn.0 turn.1) (IsMade-step g made turn.0 are.0.0 turn.1)
      (subst (λ (p : ℕ). IsAlone (step g p turn.1)) (sym own) (alone-step g is (subst (Acts silent g) own are.0) turn.1))
      (λ h. lacks (still-step g made turn.0 are.0.0 x r y (inr own) turn.1 h)) turns are.1
