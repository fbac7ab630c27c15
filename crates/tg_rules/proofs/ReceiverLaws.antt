-- A grant by one who holds the rights over the target is denied exactly if the vertices aren't distinct, or grant is missing.
use Rattle.std.proofs.Common.{◌≡◌, ◌∙◌, ℕ, ◌==◌, ◌||◌, ◌&&◌, Bool, true, false, cond, Some, None, refl, sym, ap}
use Rattle.std.specs.Option.{option_or}
use Rattle.std.specs.Prelude.{Option}
use Rattle.std.proofs.lemmas.Bool.{cond-true, eq-eqb, or_parts}
use Rattle.tg_rights.specs.RightSet.{RightSet, holds_all, only, union}
use Rattle.tg_rights.specs.declared.Right.TheVariants as right
use Rattle.tg_rights.proofs.RightLaws.{holds_all-union}
use Rattle.tg_model.specs.declared.command.Command.TheVariants.{Grant}
use Rattle.tg_model.specs.declared.reply.Denial.{Denial}
use Rattle.tg_model.specs.declared.reply.Rule.{Rule}
use Rattle.tg_model.specs.declared.reply.Rule.TheVariants as rule
use Rattle.tg_model.specs.declared.value.Value.{Value}
use Rattle.tg_model.specs.Graph.{with_rights}
use Rattle.tg_model.specs.Rules.{denial_of, unless_distinct, unless_held}

-- ---- checks, one after another

or_nothing : (held : Option Denial) → held ≡ option_or held None
or_nothing None = refl
or_nothing (Some d) = refl

-- where the vertices are distinct the second check comes out the same, and the last one passes
checks : (rule : Rule) (same : Bool) (held then last : Option Denial) → (same ≡ false → then ≡ held) → (same ≡ false → last ≡ None)
    → option_or (unless_distinct rule same) held ≡ option_or (unless_distinct rule same) (option_or then last)
checks rule true held then last kept passes = refl
checks rule false held then last kept passes = or_nothing held ∙ (λ i. option_or (sym (kept refl) i) (sym (passes refl) i))

-- ---- a grant to y over z

module _ (label : ℕ → ℕ → RightSet) (value : ℕ → Option Value) (x y z : ℕ) where
  -- whether two of the three are one
  abbrev same : Bool
  same = (x == y) || (y == z) || (x == z)

  abbrev checked : Option Denial
  checked = option_or (unless_distinct rule.Grant same) (unless_held label rule.Grant x y (only right.G))

  module _ (r : RightSet) where
    abbrev taken : ℕ → ℕ → RightSet
    taken = with_rights label x z r

    to_receiver : same ≡ false → taken x y ≡ label x y
    to_receiver distinct =
        let apart : (y == z) ≡ false = (or_parts (x == y) (y == z) (or_parts ((x == y) || (y == z)) (x == z) distinct).0).1 in
        (λ i. cond ((x == x) && apart i) (union (label x y) r) (label x y)) ∙ ap (λ v. cond (v && false) (union (label x y) r) (label x y)) (eq-eqb x x refl)

    to_target : taken x z ≡ union (label x z) r
    to_target = λ i. cond (eq-eqb x x refl i && eq-eqb z z refl i) (union (label x z) r) (label x z)

    pub receiver_denial : checked ≡ denial_of taken value x (Grant r y z)
    receiver_denial =
        checks rule.Grant same (unless_held label rule.Grant x y (only right.G)) (unless_held taken rule.Grant x y (only right.G)) (unless_held taken rule.Grant x z r)
        (λ distinct. ap (λ (s : RightSet). unless_held (λ a b. s) rule.Grant x y (only right.G)) (to_receiver distinct))
        (λ distinct. cond-true (holds_all (taken x z) r) _ _ (ap (λ (s : RightSet). holds_all s r) to_target ∙ holds_all-union (label x z) r))
