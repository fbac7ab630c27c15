-- The calls of C on a store that goes on from a snapshot.
use Rattle.std.specs.Prelude.{◌≡◌, ◌≢◌, ◌⊎◌, ℕ, true, false, [], ◌∷◌, Result, Ok, Err, IfErr, IfOk, List}
use Rattle.tg_model.specs.Opened.{Plan}
use Rattle.tg_snapshot.specs.Snapshot.{Saved}
use Rattle.tg_space.specs.SpaceTable.{AreLimits, limits_of}
use Rattle.tg_store.specs.Again.{Reopens}
use Rattle.tg_store.specs.Store.{StoreState}
use Rattle.tg_c.specs.declared.forms.LimitsIn.{LimitsIn}
use Rattle.tg_c.specs.declared.place.StorePlace.{StorePlace}
use Rattle.tg_c.specs.declared.saved.place.SnapshotPlace.{SnapshotPlace}
use Rattle.tg_c.specs.declared.refusal.CallRefusal.{CallRefusal}
use Rattle.tg_c.specs.declared.refusal.CallRefusal.TheVariants as refusal
use Rattle.tg_c.specs.Calls.{AreMet, Demand, IsFirstUnmet, IsStatusWhere, demand, state_in}
use Rattle.tg_c.specs.Saved.{saved_in}
use Rattle.tg_c.specs.Statuses.{status_of}

-- the demands on a snapshot and on the limits, in the order in which they are checked
abbrev pub demands_again : Saved → LimitsIn → List Demand
demands_again p limits =
    demand (limits.max_vertices ≡ p.picture.limit) refusal.BadLimits
    ∷ demand (AreLimits (limits_of limits.max_blocks limits.max_space_blocks)) refusal.BadLimits
    ∷ demand (p.picture.subjects ≢ []) refusal.BadWorkers
    ∷ []

-- lack of memory, or of blocks
abbrev pub IsLackOfRoom : CallRefusal → Type 0
IsLackOfRoom why = (why ≡ refusal.OutOfMemory) ⊎ (why ≡ refusal.HeapFull)

-- Why it is refused. Either a demand isn't met, and the first one is the reason. Or all are met, and there was no room.
abbrev pub IsRefusedAgain : Saved → LimitsIn → CallRefusal → Type 0
IsRefusedAgain p limits why = IsFirstUnmet (demands_again p limits) why ⊎ (AreMet (demands_again p limits) × IsLackOfRoom why)

-- The store goes on from the snapshot, and all demands are met. The snapshot doesn't have the first opening of all, and no call of
-- C reads it. Therefore some opening is in its place.
pub record IsReopenedStore (p : Saved) (limits : LimitsIn) (s : StoreState) : Type 0 where
  pub met : AreMet (demands_again p limits)
  pub plan : Plan
  pub goes_on : Reopens plan p (limits_of limits.max_blocks limits.max_space_blocks) s

-- A store was to go on from the snapshot in a place, which is the same then.
pub record ReopensFrom (old new : SnapshotPlace) (limits : LimitsIn) (answer : Result StoreState CallRefusal) : Type 0 where
  pub as_open : new.is_open ≡ old.is_open
  pub not_open : old.is_open ≡ false → answer ≡ Err refusal.NotOpen
  pub same : old.is_open ≡ true → saved_in new ≡ saved_in old
  pub reopened : IfOk answer (IsReopenedStore (saved_in old) limits)
  pub refused : old.is_open ≡ true → IfErr answer (IsRefusedAgain (saved_in old) limits)

-- A store was to be opened from a snapshot. Refused, it leaves the store's place as it was.
pub record ReopensStore (old new : StorePlace) (before after : SnapshotPlace) (limits : LimitsIn) (status : ℕ) : Type 0 where
  pub already_open : old.is_open ≡ true → (status ≡ status_of refusal.AlreadyOpen) × (after ≡ before)
  pub reopened : status ≡ 0 → (new.is_open ≡ true) × ReopensFrom before after limits (Ok (state_in new))
  pub refused : old.is_open ≡ false → status ≢ 0 → IsStatusWhere (λ why. ReopensFrom before after limits (Err why)) status
  pub kept : status ≢ 0 → new ≡ old
