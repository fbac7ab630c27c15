-- What a store is that goes on from a history, and why there is none.
use Rattle.std.specs.Prelude.{◌≡◌, ◌+◌, ◌<◌, ℕ, List, [], length, take, drop, slice_get, Some}
use Rattle.tg_model.specs.Graph.{ProtectionGraph}
use Rattle.tg_model.specs.Opened.{start_of}
use Rattle.tg_snapshot.specs.Snapshot.{graph_shown}
use Rattle.tg_journal.specs.declared.entry.Entry.{Entry}
use Rattle.tg_journal.specs.Auditing.{HasComeTo}
use Rattle.tg_journal.specs.History.{IsLegal, IsFirstBad, graph_after}
use Rattle.tg_entries.specs.declared.kept.HistoryStart.{HistoryStart}
use Rattle.tg_entries.specs.declared.kept.HistoryStart.TheVariants.{Opened, Shown}
use Rattle.tg_space.specs.SpaceTable.{BlockLimits}
use Rattle.tg_space.specs.declared.room_fault.RoomFault.{RoomFault}
use Rattle.tg_space.specs.declared.room_fault.RoomFault.TheVariants.{HeapFull}
use Rattle.tg_store.specs.Origin.{Origin, opened_by}
use Rattle.tg_store.specs.Store.{StoreState, graph_of_store}
use Rattle.tg_resume.specs.Room.{LacksRoom}
use Rattle.tg_resume.specs.declared.part.Halted.{Halted}
use Rattle.tg_resume.specs.declared.part.Halted.TheVariants as halted
use Rattle.tg_revive.specs.declared.fault.ReviveFault.{ReviveFault}
use Rattle.tg_revive.specs.declared.fault.ReviveFault.TheVariants.{NoSubject, NotBegun, BadEntry, NoRoom}

-- the graph that a history begins with
abbrev pub graph_of_start : HistoryStart → ProtectionGraph
graph_of_start (Opened opening) = start_of opening
graph_of_start (Shown snapshot) = graph_shown snapshot

-- how many entries were made before it
abbrev pub entries_made_before : HistoryStart → ℕ
entries_made_before (Opened opening) = 0
entries_made_before (Shown snapshot) = snapshot.entries

-- A store that begins so goes on from a history that begins so. Of the opening that stands in for the first one no more than its limit is
-- known.
abbrev pub IsOriginOf : HistoryStart → Origin → Type 0
IsOriginOf (Opened opening) origin = origin ≡ opened_by opening
IsOriginOf (Shown snapshot) origin = (origin.shown ≡ Some snapshot) × (origin.plan.limit ≡ snapshot.picture.limit)

-- The store goes on from a history. Its journal begins after the entries before the history, and holds exactly those of the history. They
-- are legal, and the store represents the graph after them.
pub record IsRevived (start : HistoryStart) (es : List Entry) (given : BlockLimits) (store : StoreState) : Type 0 where
  pub place : store.handed ≡ entries_made_before start
  pub count : length store.entries ≡ entries_made_before start + length es
  pub held : drop store.handed store.entries ≡ es
  pub legal : IsLegal (graph_of_start start) es
  pub graph : graph_of_store store ≡ graph_after (graph_of_start start) es
  pub origin : IsOriginOf start store.opening
  pub limits : store.heap.table.limits ≡ given

-- The entries are legal after the graph, and the store represents a graph that is alike to the one after them wherever subjects reach.
abbrev pub RepresentsAfter : ProtectionGraph → List Entry → StoreState → Type 0
RepresentsAfter g es store = IsLegal g es × HasComeTo (graph_after g es) (graph_of_store store)

-- nobody can act at the beginning of the history
abbrev pub HasNoSubject : HistoryStart → Type 0
HasNoSubject (Opened opening) = ⊥
HasNoSubject (Shown snapshot) = snapshot.picture.subjects ≡ []

-- The reason for which there is no store before the first entry. Of a snapshot and of memory no clause says more.
abbrev pub IsNotBegun : HistoryStart → BlockLimits → RoomFault → Type 0
IsNotBegun (Opened opening) limits HeapFull = limits.max_blocks < opening.workers
IsNotBegun start limits why = Unit {0}

-- the first entry of the history that isn't legal, by its place in the whole history
pub record IsBadInHistory (start : HistoryStart) (es : List Entry) (at : ℕ) : Type 0 where
  pub done : ℕ
  pub place : at ≡ entries_made_before start + done
  pub bad : IsFirstBad (graph_of_start start) es done

-- There is no room for the entry at a place of the whole history in a store that goes on from the entries before it.
pub record LacksRoomAt (start : HistoryStart) (es : List Entry) (limits : BlockLimits) (at : ℕ) (why : RoomFault) : Type 0 where
  pub done : ℕ
  pub place : at ≡ entries_made_before start + done
  pub store : StoreState
  pub before : IsRevived start (take done es) limits store
  pub entry : Entry
  pub there : slice_get es done ≡ Some entry
  pub reason : LacksRoom store entry.worker entry.deed why

-- what each fault says
abbrev pub IsReviveFault : HistoryStart → List Entry → BlockLimits → ReviveFault → Type 0
IsReviveFault start es limits NoSubject = HasNoSubject start
IsReviveFault start es limits (NotBegun why) = IsNotBegun start limits why
IsReviveFault start es limits (BadEntry at) = IsBadInHistory start es at
IsReviveFault start es limits (NoRoom at why) = LacksRoomAt start es limits at why

-- why no store goes on, by where the entries were no more replayed
abbrev pub fault_of_halted : Halted → ReviveFault
fault_of_halted (halted.BadEntry at) = BadEntry at
fault_of_halted (halted.NoRoom at why) = NoRoom at why
