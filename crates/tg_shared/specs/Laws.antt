-- The words of the laws of a round.
use Rattle.std.specs.Prelude.{◌≡◌, ◌+◌, ℕ, List, ◌++◌, false, length, take}
use Rattle.std.specs.List.{All}
use Rattle.tg_rights.specs.RightSet.{RightSet}
use Rattle.tg_model.specs.declared.command.Deed.TheVariants.{Spawn}
use Rattle.tg_model.specs.declared.law.Law.{Law}
use Rattle.tg_model.specs.declared.reply.Reply.TheVariants.{Name}
use Rattle.tg_model.specs.Graph.{ProtectionGraph, IsReachable, IsSubject}
use Rattle.tg_space.specs.declared.kind.Kind.{Kind}
use Rattle.tg_space.specs.declared.kind.Kind.TheVariants.{Full}
use Rattle.tg_graph.specs.Heap.{content_of}
use Rattle.tg_journal.specs.declared.entry.Entry.{Entry}
use Rattle.tg_journal.specs.History.{IsLegalEntry, graph_after}
use Rattle.tg_journal.specs.Journal.{Entries}
use Rattle.tg_passes.specs.declared.signed.Signed.{Signed}
use Rattle.tg_passes.specs.Passes.{BeginsWith, entries_of, own_entries}
use Rattle.tg_store.specs.Leaving.{left_by}
use Rattle.tg_store.specs.Origin.{start_at}
use Rattle.tg_store.specs.Store.{StoreState, IsCountOf, graph_of_store}
use Rattle.tg_shared.specs.declared.receipt.Receipt.{Receipt}
use Rattle.tg_shared.specs.Receipts.{AreParts}
use Rattle.tg_shared.specs.Sessions.{AreApart, GoesOn, HasGrownBy, IsAnswered, IsOnItsOwn, KeptInParts, SessionState, SharedStart, graph_seen, retired_behind}

-- ---- receipts

-- The receipt's entry was answered by the rules, on the graph after all entries before it.
abbrev pub WasAnswered : ProtectionGraph → List Entry → Receipt → Type 0
WasAnswered g entries r = IsLegalEntry (graph_after g (take r.at entries)) r.entry

-- All parts of these entries from a place on, and all receipts of each of the sessions, were kept. The receipts match part by part, and
-- no two sessions are of one worker.
pub record AreKeptInParts (entries : List Entry) (first : ℕ) (sessions : List SessionState) : Type 0 where
  pub parts : List Entries
  pub are : AreParts first entries parts
  pub each : All (KeptInParts parts) sessions
  pub apart : AreApart sessions

-- The store was shared whole, and has only got more entries since.
pub record StaysWhole (start : SharedStart) (s : StoreState) : Type 0 where
  pub gone_on : GoesOn start s
  pub whole : start.in_parts ≡ false

-- ---- workers

-- The later store has the entries of this store, and then others.
pub record GrowsInto (s later : StoreState) : Type 0 where
  pub entries : List Entry
  pub opening : later.opening ≡ s.opening
  pub all : later.entries ≡ s.entries ++ entries

-- The session is on its own among these entries, and entered no retire.
pub record HasNotLeft (start : SharedStart) (all : List Signed) (session : SessionState) : Type 0 where
  pub alone : IsOnItsOwn start all session
  pub none : retired_behind false session.made ≡ false

-- A session's spawn made this worker, and these entries begin with the entries that the session has then seen.
pub record IsSpawnedIn (start : SharedStart) (all : List Signed) (worker : ℕ) : Type 0 where
  pub before : SessionState
  pub after : SessionState
  pub label : RightSet
  pub law : Law
  pub state : List ℕ
  pub answered : IsAnswered start before after (Spawn label law state) (Name worker)
  pub begins : BeginsWith all after.seen

-- The entries of the session's worker among these entries are exactly the entries that its own calls made. All begin with the
-- entries that it has seen.
pub record KnowsItsOwn (entries : List Entry) (session : SessionState) : Type 0 where
  pub own : own_entries session.worker entries ≡ session.made
  pub begins : BeginsWith entries (entries_of session.seen)

-- The worker was a subject after a front of these entries. The graph after all entries is the graph after the front, without the
-- worker and the rights that it held.
pub record EndsOnly (start : SharedStart) (seen : List Signed) (worker : ℕ) : Type 0 where
  pub before : List Signed
  pub begins : BeginsWith seen before
  pub subject : IsSubject (graph_seen start before) worker
  pub left : graph_seen start seen ≡ left_by (graph_seen start before) worker

-- ---- answers without an entry

-- The store is the shared one, with later entries, with exactly these entries since the start.
pub record HasExactly (start : SharedStart) (seen : List Signed) (s : StoreState) : Type 0 where
  pub gone_on : GoesOn start s
  pub grown : HasGrownBy start s seen

-- The closed store is the shared store, with later entries. Its entries since the start begin with the entries that were seen.
pub record ClosesOver (start : SharedStart) (seen : List Signed) (closed : StoreState) : Type 0 where
  pub signed : List Signed
  pub has : HasExactly start signed closed
  pub begins : BeginsWith signed seen

-- the graph of its journal after as many entries since the start as were seen
abbrev pub graph_up_to : SharedStart → List Signed → StoreState → ProtectionGraph
graph_up_to start seen closed = graph_after (start_at closed.opening) (take (length start.entries + length seen) closed.entries)

-- So many vertices the store has. After a full collection so many can be reached.
pub record IsCountLeft (kind : Kind) (number : ℕ) (s : StoreState) : Type 0 where
  pub vertices : number ≡ length (content_of s.heap).names
  pub reachable : kind ≡ Full → IsCountOf (IsReachable (graph_of_store s)) number
