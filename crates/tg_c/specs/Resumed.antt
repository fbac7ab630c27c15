-- The calls of C on a store that goes on from entries.
use Rattle.std.specs.Prelude.{◌≡◌, ◌≢◌, ◌⊎◌, ℕ, Bool, true, false, List, [], ◌∷◌, Result, Ok, Err, length}
use Rattle.tg_journal.specs.declared.entry.Entry.{Entry}
use Rattle.tg_journal.specs.History.{IsLegalEntry}
use Rattle.tg_resume.specs.Resuming.{HasNoRoom, Resumes}
use Rattle.tg_store.specs.Store.{StoreState, graph_of_store}
use Rattle.tg_c.specs.declared.forms.EdgeOut.{EdgeOut}
use Rattle.tg_c.specs.declared.place.StorePlace.{StorePlace}
use Rattle.tg_c.specs.declared.records.RecordOut.{RecordOut}
use Rattle.tg_c.specs.declared.refusal.CallRefusal.{CallRefusal}
use Rattle.tg_c.specs.declared.refusal.CallRefusal.TheVariants as refusal
use Rattle.tg_c.specs.declared.refusal.ResumeFault.{ResumeFault}
use Rattle.tg_c.specs.declared.refusal.ResumeFault.TheVariants as fault
use Rattle.tg_c.specs.Calls.{state_in}
use Rattle.tg_c.specs.Entered.{IsEntryOf, IsOfNoEntry}
use Rattle.tg_c.specs.Statuses.{of_resume, refused_as}

-- The outcome for a store that was to go on from an entry at this place. Nothing is said of a store that was fed a bad entry.
abbrev pub GoesOn : ℕ → Entry → StoreState → StoreState → Result (Unit {0}) ResumeFault → Type 0
GoesOn at e old new (Ok done) = (at ≡ length old.entries) × Resumes (e ∷ []) old new
GoesOn at e old new (Err fault.BadPlace) = (at ≢ length old.entries) × (new ≡ old)
GoesOn at e old new (Err fault.Unread) = (at ≡ length old.entries) × (new ≡ old)
GoesOn at e old new (Err fault.BadEntry) = (at ≡ length old.entries) × (¬ IsLegalEntry (graph_of_store old) e)
GoesOn at e old new (Err (fault.NoRoom why)) = (at ≡ length old.entries) × HasNoRoom (e ∷ []) old new at why

-- the store is kept, unless the entry was bad
abbrev pub is_kept : Result (Unit {0}) ResumeFault → Bool
is_kept (Ok done) = true
is_kept (Err fault.BadPlace) = true
is_kept (Err fault.Unread) = true
is_kept (Err fault.BadEntry) = false
is_kept (Err (fault.NoRoom why)) = true

-- The store in an open place was to go on from an entry, and the outcome is reported. The place is closed after a bad entry.
pub record GoesOnOpen (at : ℕ) (e : Entry) (old new : StorePlace) (tells : Result (Unit {0}) CallRefusal → Type 0) : Type 0 where
  pub answer : Result (Unit {0}) ResumeFault
  pub told : tells (refused_as of_resume answer)
  pub stays_open : new.is_open ≡ is_kept answer
  pub goes_on : GoesOn at e (state_in old) (state_in new) answer

-- the same, and a closed place is refused as that, and stays closed
pub record GoesOnIn (at : ℕ) (e : Entry) (old new : StorePlace) (tells : Result (Unit {0}) CallRefusal → Type 0) : Type 0 where
  pub not_open : old.is_open ≡ false → tells (Err refusal.NotOpen) × (new.is_open ≡ false)
  pub served : old.is_open ≡ true → GoesOnOpen at e old new tells

-- The record, the numbers and the edges give no entry, and the place is as it was.
pub record IsNotRead (it : RecordOut) (numbers : List ℕ) (edges : List EdgeOut) (old new : StorePlace) (tells : Result (Unit {0}) CallRefusal → Type 0) : Type 0 where
  pub told : tells (Err refusal.BadValues)
  pub kept : new ≡ old
  pub none : IsOfNoEntry it numbers edges

-- The record, the numbers and the edges give an entry, and the store was to go on from it.
pub record IsReadAs (it : RecordOut) (numbers : List ℕ) (edges : List EdgeOut) (at : ℕ) (old new : StorePlace) (tells : Result (Unit {0}) CallRefusal → Type 0) : Type 0 where
  pub entry : Entry
  pub handed_in : IsEntryOf it numbers edges entry
  pub goes_on : GoesOnIn at entry old new tells

-- C hands in a record, its numbers and its edges, from which the store in a place is to go on.
abbrev pub HandsIn : RecordOut → List ℕ → List EdgeOut → ℕ → StorePlace → StorePlace → (Result (Unit {0}) CallRefusal → Type 0) → Type 0
HandsIn it numbers edges at old new tells = IsNotRead it numbers edges old new tells ⊎ IsReadAs it numbers edges at old new tells
