-- A value is taken out of a place in the memory of C, or put into it.
use Rattle.std.specs.Prelude.{◌≡◌, Bool, true, false, Option, None, Some, MatchOption, Result, MatchResult}
use Rattle.std_alloc.specs.declared.boxed.Box.{Box}
use Rattle.tg_c.specs.declared.refusal.CallRefusal.{CallRefusal}
use Rattle.tg_c.specs.declared.refusal.CallRefusal.TheVariants.{NotOpen}

-- the value of this box, or neither a value nor a box
abbrev pub IsBoxOf : {S A : Type 0} → Option S → Option (Box S A) → Type 0
IsBoxOf had boxed = MatchOption boxed (had ≡ None) (λ one. had ≡ Some one.value)

-- an open place holds this, and a closed place holds nothing
abbrev pub Holds : {S : Type 0} → Bool → S → Option S → Type 0
Holds is_open held had = MatchOption had (is_open ≡ false) (λ one. (is_open ≡ true) × (held ≡ one))

-- The value that an open place held was taken out of it. The place is closed then.
pub record IsTakenOut {S A : Type 0} (was_open : Bool) (held : S) (is_open : Bool) (result : Option (Box S A)) : Type 0 where
  pub taken : MatchOption result (was_open ≡ false) (λ opened. (was_open ≡ true) × (opened.value ≡ held))
  pub closed : is_open ≡ false

-- This was put in a place, which is open then.
pub record IsPutBack {S : Type 0} (given : S) (is_open : Bool) (held : S) : Type 0 where
  pub «open» : is_open ≡ true
  pub opened : held ≡ given

-- The value in an open place was asked, and this holds of the answer. A closed place was refused with `NotOpen`. The place stays
-- open or closed.
abbrev pub IsAskedOpen : {R : Type 0} → Bool → Bool → (R → Type 0) → Result R CallRefusal → Type 0
IsAskedOpen was_open is_open holds result =
    MatchResult result (λ answer. (was_open ≡ true) × (is_open ≡ true) × holds answer) (λ why. (was_open ≡ false) × (is_open ≡ false) × (why ≡ NotOpen))
