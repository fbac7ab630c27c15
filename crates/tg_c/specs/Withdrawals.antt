-- The answers in C about rights that are withdrawn.
use Rattle.std.specs.Prelude.{◌≡◌, ℕ, List, Some, None, Result, IfOk, IfErr, OnErr}
use Rattle.tg_rights.specs.RightSet.{RightSet}
use Rattle.tg_store.specs.Store.{StoreState, IsUnchanged}
use Rattle.tg_store.specs.Withdrawing.{IsWithdrawn}
use Rattle.tg_c.specs.declared.place.StorePlace.{StorePlace}
use Rattle.tg_c.specs.declared.refusal.CallRefusal.{CallRefusal}
use Rattle.tg_c.specs.declared.refusal.CallRefusal.TheVariants as refusal
use Rattle.tg_c.specs.Calls.{IsCall, Refuses}
use Rattle.tg_c.specs.Forms.{label_at}

-- the answer to a withdrawal, with the clauses of the store's `withdraw`. It is refused for lack of memory alone
pub record IsWithdrawalAnswered (target : ℕ) (rights : RightSet) (keep : List ℕ) (old new : StoreState) (answer : Result (List ℕ) CallRefusal) : Type 0 where
  pub withdrawn : IfOk answer (IsWithdrawn target rights keep old new)
  pub refused : OnErr answer (IsUnchanged old new)
  pub wanting : IfErr answer (λ why. why ≡ refusal.OutOfMemory)

abbrev pub WithdrawsRights : StorePlace → StorePlace → ℕ → RightSet → List ℕ → (Result (List ℕ) CallRefusal → Type 0) → Type 0
WithdrawsRights old new target rights keep = IsCall (λ why. why) (IsWithdrawalAnswered target rights keep) old new

-- A withdrawal, whose rights C passes as bits. If the bits are no label's, it is refused, and else the store is asked.
pub record WithdrawsBits (old new : StorePlace) (target bits : ℕ) (keep : List ℕ) (tells : Result (List ℕ) CallRefusal → Type 0) : Type 0 where
  pub asked : (label : RightSet) → label_at bits ≡ Some label → WithdrawsRights old new target label keep tells
  pub bad_rights : label_at bits ≡ None → Refuses old new tells refusal.BadRights
