-- A store and the file that keeps it, and how a batch of commands changes both.
use Rattle.std.specs.Prelude.{◌≡◌, ℕ, ◌≤◌, ◌++◌, Bool, true, false, List, [], length, take, drop, IsTrue, Option, Some, None, Result, Ok, Err}
use Rattle.sqlite_disk.specs.declared.Disk as disk
use Rattle.tg_keep.specs.Files.{AwaitsBatch, LeavesClosed, LeavesOpen, MayBeWritten, first_texts}
use Rattle.tg_keep.specs.Lines.{history_of}
use Rattle.tg_keep.specs.declared.file.LineFile.{LineFile}
use Rattle.tg_model.specs.declared.command.Command.{Command}
use Rattle.tg_model.specs.Opened.{Plan}
use Rattle.tg_snapshot.specs.Snapshot.{Saved}
use Rattle.tg_journal.specs.declared.entry.Entry.{Entry}
use Rattle.tg_journal.specs.History.{IsLegal, graph_after}
use Rattle.tg_store.specs.Batch.{AreOfCommands, Applies, StopsBatch}
use Rattle.tg_store.specs.Origin.{Origin, start_at}
use Rattle.tg_store.specs.Store.{StoreState, graph_of_store}
use Rattle.tg_store.specs.declared.batch.BatchFault.{BatchFault}
use Rattle.tg_kept.specs.Texts.{SaysFront, kept_lines, opening_lines}

-- the store began with its opening, and not with a snapshot
abbrev pub is_shown : Option Saved → Bool
is_shown None = false
is_shown (Some snapshot) = true

abbrev pub BeganByOpening : Origin → Type 0
BeganByOpening origin = is_shown origin.shown ≡ false

-- the store began with its opening, and has no entry
pub record IsFirst (s : StoreState) : Type 0 where
  pub origin : BeganByOpening s.opening
  pub none : s.entries ≡ []

-- The file says exactly the history of the store, unless a wrong answer of the disk was taken as true.
abbrev pub KeepsStore : {D : Type 0} → disk.Ghosts D → StoreState → LineFile D → Type 0
KeepsStore g s file = IsTrue (g.is_clean file.disk) → history_of (g.seen file.disk) ≡ kept_lines s.opening.plan s.entries

-- Each content that a crash may leave says exactly the history of the store.
abbrev pub LeavesStore : {D : Type 0} → disk.Ghosts D → StoreState → D → Type 0
LeavesStore g s disk = IsTrue (g.is_clean disk) → (c : List ℕ) → g.may_leave disk c → history_of c ≡ kept_lines s.opening.plan s.entries

-- The file awaits a batch, and says exactly the history of the store, which began with its opening.
pub record IsKept {D : Type 0} (g : disk.Ghosts D) (s : StoreState) (file : LineFile D) : Type 0 where
  pub opened : BeganByOpening s.opening
  pub writable : MayBeWritten g file
  pub keeps : KeepsStore g s file

-- Each content that a crash may leave says exactly the history of the store, and is that of a closed file.
pub record LeavesClosedStore {D : Type 0} (g : disk.Ghosts D) (s : StoreState) (disk : D) : Type 0 where
  pub says : LeavesStore g s disk
  pub closed : IsTrue (g.is_clean disk) → LeavesClosed g.may_leave disk

-- The file says the history of the store before a place, and may be written. The store holds its entries from there on.
pub record KeepsUpTo {D : Type 0} (g : disk.Ghosts D) (place : ℕ) (s : StoreState) (file : LineFile D) : Type 0 where
  pub opened : BeganByOpening s.opening
  pub writable : MayBeWritten g file
  pub held : s.handed ≤ place
  pub within : place ≤ length s.entries
  pub says : IsTrue (g.is_clean file.disk) → history_of (g.seen file.disk) ≡ kept_lines s.opening.plan (take place s.entries)

-- Each content that a crash may leave says the history of the store before a place, and a front of the entries from there on. These
-- entries are legal. The content isn't the content of a closed file.
pub record LeavesFrom {D : Type 0} (g : disk.Ghosts D) (place : ℕ) (s : StoreState) (old new : D) : Type 0 where
  pub legal : IsLegal (graph_after (start_at s.opening) (take place s.entries)) (drop place s.entries)
  pub crash : IsTrue (g.is_clean new) → (c : List ℕ) → g.may_leave new c → SaysFront s.opening.plan (take place s.entries) (drop place s.entries) (history_of c)
  pub unclosed : IsTrue (g.is_clean new) → LeavesOpen g.may_leave new
  pub calm : g.is_clean new ≡ g.is_clean old

-- A worker's commands changed a store. All were taken, or the commands before the first that was refused.
abbrev pub ServesCommands : ℕ → List Command → StoreState → StoreState → Result ℕ BatchFault → Type 0
ServesCommands worker commands old new (Ok count) = (count ≡ length commands) × Applies worker commands old new
ServesCommands worker commands old new (Err why) = StopsBatch worker commands old new why

-- The store is lost, and the file isn't. Some of these commands, from the first on, made entries that are legal. Each content that a
-- crash may leave says the history of the store, and a front of these entries. It isn't that of a closed file.
pub record LosesCommands {D : Type 0} (g : disk.Ghosts D) (worker : ℕ) (commands : List Command) (s : StoreState) (old new : D) : Type 0 where
  pub made : List Entry
  pub done : ℕ
  pub theirs : AreOfCommands worker (take done commands) made
  pub legal : IsLegal (graph_of_store s) made
  pub crash : IsTrue (g.is_clean new) → (c : List ℕ) → g.may_leave new c → SaysFront s.opening.plan s.entries made (history_of c)
  pub unclosed : IsTrue (g.is_clean new) → LeavesOpen g.may_leave new
  pub calm : g.is_clean new ≡ g.is_clean old

-- The file awaits a batch, and says the lines of an opening. It was empty.
pub record HasBegunHistory {D : Type 0} (g : disk.Ghosts D) (plan : Plan) (old new : LineFile D) : Type 0 where
  pub settled : AwaitsBatch g new
  pub texts : IsTrue (g.is_clean new.disk) → history_of (g.seen new.disk) ≡ (first_texts ++ opening_lines plan)
  pub empty : IsTrue (g.is_clean new.disk) → g.seen old.disk ≡ []
