-- What becomes of the journal of a store by each step.
use Rattle.std.specs.Prelude.{◌≡◌, ◌≤◌, ◌<◌, ◌+◌, ◌++◌, ◌∷◌, [], ℕ, Option, Result, OnOk}
use Rattle.tg_journal.specs.declared.entry.Entry.{Entry}
use Rattle.tg_journal.specs.Journal.{Entries}
use Rattle.tg_store.specs.Counts.{refusal_told}
use Rattle.tg_store.specs.declared.census.Refusal.{Refusal}

-- There is room for so many more entries, unless that is refused; and the journal has and holds the entries that it did.
pub record MakesRoom {T E : Type 0} (more : ℕ) (old new : Entries) (result : Result T E) : Type 0 where
  pub room : OnOk result (more ≤ new.spare)
  pub entries : new.entries ≡ old.entries
  pub start : new.start ≡ old.start

-- There is room for the entry, which tells of this refusal, or of none.
pub record MayBeAdded (entry : Entry) (refusal : Option Refusal) (journal : Entries) : Type 0 where
  pub room : 0 < journal.spare
  pub told : refusal_told entry.reply ≡ refusal

-- Exactly this entry was added, and took the room of one.
pub record Adds (entry : Entry) (old new : Entries) : Type 0 where
  pub entries : new.entries ≡ old.entries ++ entry ∷ []
  pub start : new.start ≡ old.start
  pub spare : new.spare + 1 ≡ old.spare

-- All entries are as they were, and it holds those from a place on.
pub record HoldsFromPlace (first : ℕ) (old new : Entries) : Type 0 where
  pub entries : new.entries ≡ old.entries
  pub start : new.start ≡ first
