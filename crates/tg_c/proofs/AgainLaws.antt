-- A store whose demands are met goes on from its snapshot, or there is no room.
use Rattle.std.proofs.Common.{◌≡◌, ◌≢◌, inl, inr, refl, sym, subst, ℕ, List, [], IfErr, Result, Err}
use Rattle.tg_snapshot.specs.Snapshot.{Saved}
use Rattle.tg_store.specs.declared.fault.ReopenFault.{ReopenFault}
use Rattle.tg_store.specs.declared.fault.ReopenFault.TheVariants as again
use Rattle.tg_c.specs.declared.forms.LimitsIn.{LimitsIn}
use Rattle.tg_c.specs.declared.refusal.CallRefusal.{CallRefusal}
use Rattle.tg_c.specs.Again.{IsLackOfRoom, IsRefusedAgain, demands_again}
use Rattle.tg_c.specs.Calls.{AreMet}
use Rattle.tg_c.specs.Statuses.{of_reopen}

-- the limits agree and somebody is active, so only room is lacking
pub room_lacking : (why : ReopenFault) (limit shown : ℕ) (subjects : List ℕ) → limit ≡ shown → subjects ≢ [] → (why ≡ again.LimitDiffers → limit ≢ shown)
    → (why ≡ again.NoSubject → (limit ≡ shown) × (subjects ≡ [])) → IsLackOfRoom (of_reopen why)
room_lacking again.LimitDiffers limit shown subjects same some differs none = absurd (differs refl same)
room_lacking again.NoSubject limit shown subjects same some differs none = absurd (some (none refl).1)
room_lacking again.OutOfMemory limit shown subjects same some differs none = inl refl
room_lacking again.HeapFull limit shown subjects same some differs none = inr refl

-- all demands are met, and this is lack of room
pub lacks : {X : Type 0} (p : Saved) (limits : LimitsIn) (r : Result X CallRefusal) (why : CallRefusal) → AreMet (demands_again p limits) → r ≡ Err why
    → IsLackOfRoom why → IfErr r (IsRefusedAgain p limits)
lacks p limits r why met is lack = subst (λ s. IfErr s (IsRefusedAgain p limits)) (sym is) (inr (met, lack))
