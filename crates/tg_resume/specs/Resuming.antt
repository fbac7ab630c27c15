-- What a store has that was resumed from entries, and why it stopped at one of them.
use Rattle.std.specs.Prelude.{◌≡◌, ◌≢◌, ◌+◌, ℕ, List, ◌++◌, take, length, slice_get, Some}
use Rattle.tg_model.specs.Graph.{IsSubject}
use Rattle.tg_model.specs.Rules.{DeedFits}
use Rattle.tg_journal.specs.declared.entry.Entry.{Entry}
use Rattle.tg_journal.specs.History.{IsLegal, IsFirstBad, graph_after}
use Rattle.tg_space.specs.declared.room_fault.RoomFault.{RoomFault}
use Rattle.tg_store.specs.Origin.{start_at}
use Rattle.tg_store.specs.Store.{StoreState, graph_of_store}
use Rattle.tg_resume.specs.declared.part.Halted.{Halted}
use Rattle.tg_resume.specs.declared.part.Halted.TheVariants as halted
use Rattle.tg_resume.specs.declared.stopped.ResumeStopped.{ResumeStopped}
use Rattle.tg_resume.specs.declared.stopped.ResumeStopped.TheVariants.{BadPlace, BadEntry, NoRoom}
use Rattle.tg_resume.specs.Room.{LacksRoom}

-- The store has exactly these entries more. They are a legal history of the graph that it represented, and it represents the graph
-- after them. Opening, limits and what was handed out are as they were.
pub record Resumes (es : List Entry) (old new : StoreState) : Type 0 where
  pub entries : new.entries ≡ old.entries ++ es
  pub legal : IsLegal (graph_of_store old) es
  pub graph : graph_of_store new ≡ graph_after (graph_of_store old) es
  pub opening : new.opening ≡ old.opening
  pub handed : new.handed ≡ old.handed
  pub limits : new.heap.table.limits ≡ old.heap.table.limits

-- the second store has the opening of the first one, and the first entries of its journal, or none
pub record HasFrontOf (first old : StoreState) : Type 0 where
  pub opening : old.opening ≡ first.opening
  pub entries : old.entries ≡ take (length old.entries) first.entries

-- There is no room for the entry at a place of the journal. The store has those before it, and nothing is known to be wrong with it:
-- its worker is a subject, and the state of a vertex that it is to make fits.
pub record HasNoRoom (es : List Entry) (old new : StoreState) (at : ℕ) (why : RoomFault) : Type 0 where
  pub done : ℕ
  pub place : at ≡ length old.entries + done
  pub before : Resumes (take done es) old new
  pub entry : Entry
  pub there : slice_get es done ≡ Some entry
  pub subject : IsSubject (graph_of_store new) entry.worker
  pub fits : DeedFits entry.deed
  pub reason : LacksRoom new entry.worker entry.deed why

-- the first place at which the entries of the store, and then these, aren't a legal history of its opening
abbrev pub IsBadAt : List Entry → StoreState → ℕ → Type 0
IsBadAt es old at = IsFirstBad (start_at old.opening) (old.entries ++ es) at

-- why entries weren't replayed to their end on a store that is lent
abbrev pub IsHalted : List Entry → StoreState → StoreState → Halted → Type 0
IsHalted es old new (halted.BadEntry at) = IsBadAt es old at
IsHalted es old new (halted.NoRoom at why) = HasNoRoom es old new at why

-- why entries from a place on weren't resumed to their end, and what is left of the store
abbrev pub IsStopped : {P : Type 0} → ℕ → List Entry → StoreState → ResumeStopped P → Type 0
IsStopped from es old (BadPlace due was store) = (due ≡ length old.entries) × (was ≡ from) × (from ≢ due) × (store ≡ old)
IsStopped from es old (BadEntry at) = (from ≡ length old.entries) × IsBadAt es old at
IsStopped from es old (NoRoom at why store) = (from ≡ length old.entries) × HasNoRoom es old store at why
