-- What a withdrawal was found to answer is what C gets.
use Rattle.std.proofs.Common.{◌≡◌, ℕ, List, Result, Some, subst}
use Rattle.tg_rights.specs.RightSet.{RightSet}
use Rattle.tg_c.specs.declared.place.StorePlace.{StorePlace}
use Rattle.tg_c.specs.declared.refusal.CallRefusal.{CallRefusal}
use Rattle.tg_c.specs.Forms.{label_at}
use Rattle.tg_c.specs.Withdrawals.{IsWithdrawalAnswered, WithdrawsBits, WithdrawsRights}
use Rattle.tg_c.proofs.CallLaws.{hears_as}

pub withdrawal_told : (old new : StorePlace) (target bits : ℕ) (keep : List ℕ) (label : RightSet) (shown tells : Result (List ℕ) CallRefusal → Type 0)
    → label_at bits ≡ Some label → WithdrawsRights old new target label keep shown → ((answer : Result (List ℕ) CallRefusal) → shown answer → tells answer) → WithdrawsBits old new target bits keep tells
withdrawal_told old new target bits keep label shown tells is call told = record {
  asked = λ asked same.
      let one : label ≡ asked = cc (is, same) in
      subst (λ (l : RightSet). WithdrawsRights old new target l keep tells) one (hears_as (λ why. why) (IsWithdrawalAnswered target label keep) old new shown tells call told);
  bad_rights = λ none. absurd (cc (none, is));
}
