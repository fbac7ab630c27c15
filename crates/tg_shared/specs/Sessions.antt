-- The parts of a session and of the value in the lock that contracts see, and how a call changes them.
use Rattle.std.specs.Prelude.{◌≡◌, ◌≢◌, ℕ, ◌+◌, ◌<◌, ◌≤◌, ◌==◌, max, min, Bool, true, false, Option, Some, None, List, [], ◌∷◌, ◌++◌, Result, Ok, Err, IfErr, MatchResult, OnOk, length, map, take, drop}
use Rattle.std.specs.List.{All, AllPairs, count_by, filter, sum_by}
use Rattle.tg_rights.specs.RightSet.{RightSet}
use Rattle.tg_model.specs.declared.command.Deed.{Deed}
use Rattle.tg_model.specs.declared.command.Command.{Command}
use Rattle.tg_model.specs.declared.command.Command.TheVariants.{Retire}
use Rattle.tg_model.specs.declared.command.Deed.TheVariants.{Plain, Spawn}
use Rattle.tg_model.specs.declared.reply.Reply.{Reply}
use Rattle.tg_model.specs.declared.reply.Reply.TheVariants.{Name, VerticesFull, WorkersFull}
use Rattle.tg_model.specs.declared.value.Value.{Value}
use Rattle.tg_model.specs.Graph.{IsSubject, ProtectionGraph, listing_of}
use Rattle.tg_model.specs.Rules.{IsAllowed}
use Rattle.tg_word.specs.Word.{nursery_space}
use Rattle.tg_space.specs.SpaceTable.{BlockLimits}
use Rattle.tg_journal.specs.declared.entry.Entry.{Entry}
use Rattle.tg_journal.specs.History.{IsLegal, IsLegalEntry, graph_after}
use Rattle.tg_journal.specs.Journal.{Entries}
use Rattle.tg_graph.specs.Heap.{nursery_of}
use Rattle.tg_rows.specs.Spots.{LacksCellsFor}
use Rattle.tg_rules.specs.Effect.{AddsEdge, LacksCellsToServe}
use Rattle.tg_space.specs.declared.kind.Kind.{Kind}
use Rattle.tg_store.specs.Collecting.{IsSwept}
use Rattle.tg_store.specs.Held.{IsHeldOver}
use Rattle.tg_store.specs.Leaving.{HasLeft, leaving}
use Rattle.tg_store.specs.declared.fault.ApplyFault.{ApplyFault}
use Rattle.tg_store.specs.declared.fault.ApplyFault.TheVariants as apply
use Rattle.tg_store.specs.declared.fault.CreateFault.{CreateFault}
use Rattle.tg_store.specs.declared.fault.CreateFault.TheVariants as fault
use Rattle.tg_store.specs.declared.fault.CreateRefused.{CreateRefused}
use Rattle.tg_store.specs.Origin.{Origin, start_at}
use Rattle.tg_store.specs.Store.{StoreState, Enters, IsFaithful, IsUnchanged, graph_of_store}
use Rattle.tg_passes.specs.declared.signed.Maker.TheVariants.{Keeper, Session}
use Rattle.tg_passes.specs.declared.signed.Signed.{Signed}
use Rattle.tg_passes.specs.Passes.{AreOwn, BeginsWith, PassState, RollState, RoundTable, Sees, entries_by, entries_of, own_entries, sign, sign_all}
use Rattle.tg_shared.specs.declared.receipt.Receipt.{Receipt}
use Rattle.tg_shared.specs.declared.round.Blanks.{Blanks}
use Rattle.tg_shared.specs.Receipts.{MatchParts, MatchesFrom, all_receipts, receipt_of, receipts_from}

-- A session. It has the name of its subject, its receipts in order, and the number of receipts that were handed out before them. It
-- has the number of sessions that it represents, which are itself and the sessions that it took over. It knows whether it entered a
-- retire of its own. It has room for so many more receipts, and the copy of a state that the next receipt may need. It also has the
-- entries that its own calls made, and the entries that it has seen, with the maker of each. It has seen all entries since the
-- start, up to its last call that took the lock, or to its making.
pub record SessionState : Type 0 where
  pub worker : ℕ
  pub receipts : List Receipt
  pub handed : ℕ
  pub parts : ℕ
  pub retired : Bool
  pub spare : ℕ
  pub copy : List ℕ
  pub made : List Entry
  pub seen : List Signed

-- the knowledge that a session has of the entries since the start
abbrev pub knowledge : SessionState → PassState
knowledge s = record { maker = Session s.worker; made = s.made; seen = s.seen }

-- A session may note a receipt of a deed with this state. It has room for a receipt, and a copy of the state.
pub record MayNote (session : SessionState) (state : List ℕ) : Type 0 where
  pub room : 0 < session.spare
  pub copy : session.copy ≡ state

-- The value in the lock. It is the store, how many sessions were made, and how many entries the keeper made for workers. It also
-- has all entries since the start, with the maker of each.
pub record LockedState : Type 0 where
  pub store : StoreState
  pub sessions : ℕ
  pub entered : ℕ
  pub signed : List Signed

-- A keeper. It has the place at which the last part of the journal ended that it took, and the entries that it made for workers. It
-- has the entries that it has seen, with the maker of each, which are all entries since the start, up to its last call.
pub record KeeperState : Type 0 where
  pub next : ℕ
  pub made : List Entry
  pub seen : List Signed

-- the knowledge that a keeper has of the entries since the start
abbrev pub keeper_knowledge : KeeperState → PassState
keeper_knowledge k = record { maker = Keeper; made = k.made; seen = k.seen }

-- A store as it was when it was shared. It has its opening, the entries of its journal, the number of entries that were handed out,
-- and its limits. It also says whether the journal may be handed out in parts while the store is shared, and whether the keeper may
-- end workers.
pub record SharedStart : Type 0 where
  pub opening : Origin
  pub entries : List Entry
  pub handed : ℕ
  pub limits : BlockLimits
  pub in_parts : Bool
  pub may_end : Bool

abbrev pub shared_as : Bool → Bool → StoreState → SharedStart
shared_as in_parts may_end s = record { opening = s.opening; entries = s.entries; handed = s.handed; limits = s.heap.table.limits; in_parts = in_parts; may_end = may_end }

-- The start of a store whose journal stays whole, and of a store whose journal is handed out in parts. Nobody ends a worker of
-- these stores.
abbrev pub start_of_store : StoreState → SharedStart
start_of_store s = shared_as false false s

abbrev pub start_in_parts : StoreState → SharedStart
start_in_parts s = shared_as true false s

-- both starts of a store whose keeper may end workers
abbrev pub start_with_ends : StoreState → SharedStart
start_with_ends s = shared_as false true s

abbrev pub start_in_parts_with_ends : StoreState → SharedStart
start_in_parts_with_ends s = shared_as true true s

-- the names of a keeper's ledger and of the table of the roll, and these names in the blanks with which a round is opened
pub record KeeperNames : Type 0 where
  pub handed : ℕ
  pub roll : RoundTable

abbrev pub ledger_names : Blanks → KeeperNames
ledger_names blanks = record { handed = blanks.handed.name; roll = blanks.roll }

-- A store may be shared with blanks by a round. The round's ledger has this name and so many parts, its keeper's ledger and its
-- roll have these names, and it has this start. The blanks are the round's. The blank of the sessions has one part more than
-- vertices may be made, and the blank of the keeper has two parts. The round starts from the store.
pub record MayShare (ledger whole : ℕ) (keeper : KeeperNames) (first : SharedStart) (blanks : Blanks) (store : StoreState) : Type 0 where
  pub name : blanks.sessions.name ≡ ledger
  pub parts : (blanks.sessions.parts ≡ whole) × (blanks.sessions.parts ≡ store.opening.plan.limit + 1)
  pub handed_name : blanks.handed.name ≡ keeper.handed
  pub keeper_parts : blanks.handed.parts ≡ 2
  pub roll : blanks.roll ≡ keeper.roll
  pub start : shared_as first.in_parts first.may_end store ≡ first

-- ---- how many sessions were made

-- the subjects that were active when the store was shared
abbrev pub subjects_at : SharedStart → List ℕ
subjects_at start = (graph_after (start_at start.opening) start.entries).subjects

-- a deed with this reply made a subject
abbrev pub made_subject : Deed → Reply → Bool
made_subject (Spawn label law state) (Name name) = true
made_subject deed reply = false

abbrev pub is_spawn : Entry → Bool
is_spawn e = made_subject e.deed e.reply

-- how many subjects the entries made
abbrev pub spawned : List Entry → ℕ
spawned entries = count_by is_spawn entries

-- how many sessions were made, with these entries in the journal. There is one for each subject that was active when the store was
-- shared, and one for each subject that was made since
abbrev pub sessions_made : SharedStart → List Entry → ℕ
sessions_made start entries = length (subjects_at start) + spawned (drop (length start.entries) entries)

-- ---- who has retired

-- whether a session has entered a retire of its own after a deed of its worker
abbrev pub retired_by : Bool → Deed → Bool
retired_by retired (Plain Retire) = true
retired_by retired deed = retired

-- whether a session has entered a retire of its own after these entries of its worker
abbrev pub retired_behind : Bool → List Entry → Bool
retired_behind retired [] = retired
retired_behind retired (e ∷ es) = retired_behind (retired_by retired e.deed) es

-- ---- what is in the lock

-- The store is the shared store with more entries. Its opening and limits are as they were, and its journal begins with the entries
-- that it had. If the journal may not be handed out in parts, no entry was handed out since.
pub record GoesOn (start : SharedStart) (s : StoreState) : Type 0 where
  pub opening : s.opening ≡ start.opening
  pub earlier : take (length start.entries) s.entries ≡ start.entries
  pub limits : s.heap.table.limits ≡ start.limits
  pub within : start.handed ≤ length start.entries
  pub whole : start.in_parts ≡ false → s.handed ≡ start.handed

-- This holds of some store that may have been in the lock. It is the shared store with later entries, and it keeps the store's
-- promise.
abbrev pub AtSome : SharedStart → (StoreState → Type 0) → Type 0
AtSome start holds = (s : StoreState) × GoesOn start s × IsFaithful s × holds s

-- the entries that a store has since it was shared
abbrev pub since : SharedStart → StoreState → List Entry
since start s = drop (length start.entries) s.entries

-- Since it was shared, the store got exactly these entries. Each entry was made by the session of its worker, or by the keeper. The
-- keeper made no entry, if it may end nobody.
pub record HasGrownBy (start : SharedStart) (s : StoreState) (signed : List Signed) : Type 0 where
  pub all : s.entries ≡ start.entries ++ entries_of signed
  pub owned : AreOwn signed
  pub none_ended : start.may_end ≡ false → entries_by Keeper signed ≡ []

-- This holds of some store that may have been in the lock, and that got exactly these entries since it was shared. All such stores
-- have the same journal, and so the same graph.
abbrev pub AtSeen : SharedStart → List Signed → (StoreState → Type 0) → Type 0
AtSeen start seen holds = AtSome start (λ s. HasGrownBy start s seen × holds s)

-- The worker was a subject, or was none, when exactly these entries had been made since the start.
abbrev pub IsSubjectAtSeen : SharedStart → List Signed → ℕ → Type 0
IsSubjectAtSeen start seen worker = AtSeen start seen (λ s. IsSubject (graph_of_store s) worker)

abbrev pub IsNobodyAtSeen : SharedStart → List Signed → ℕ → Type 0
IsNobodyAtSeen start seen worker = AtSeen start seen (λ s. ¬ IsSubject (graph_of_store s) worker)

-- The worker held this label over a vertex then.
abbrev pub IsHeldAtSeen : SharedStart → List Signed → ℕ → ℕ → Option RightSet → Type 0
IsHeldAtSeen start seen worker target label = AtSeen start seen (λ s. IsHeldOver (graph_of_store s) worker target label)

-- that graph
abbrev pub graph_seen : SharedStart → List Signed → ProtectionGraph
graph_seen start seen = graph_after (start_at start.opening) (start.entries ++ entries_of seen)

-- After these entries since the start the worker has been made, and is no subject any more.
abbrev pub IsGone : SharedStart → List Signed → ℕ → Type 0
IsGone start seen worker = AtSeen start seen (λ s. (worker < (graph_of_store s).made) × (¬ IsSubject (graph_of_store s) worker))

-- After these entries since the start, and then these entries of its own, the worker has been made, and is no subject any more.
abbrev pub IsGoneAfter : SharedStart → List Signed → ℕ → List Entry → Type 0
IsGoneAfter start all worker entries = IsGone start (all ++ sign_all (Session worker) entries) worker

-- A session that sees these entries has not retired, since it would be gone then.
abbrev pub StillActs : SharedStart → List Signed → SessionState → Type 0
StillActs start all session = Sees all (knowledge session) → session.retired ≡ true → ¬ IsGone start session.seen session.worker

-- A session that sees these entries and has retired, and was gone when it looked last, is gone after all of them.
abbrev pub StaysGone : SharedStart → List Signed → SessionState → Type 0
StaysGone start all session = Sees all (knowledge session) → session.retired ≡ true → IsGone start session.seen session.worker → IsGone start all session.worker

-- The session sees these entries. So it made exactly its own entries among them, and they begin with the entries that it has seen.
-- If the keeper may end workers, it made no entry of this worker among them.
pub record IsOnItsOwn (start : SharedStart) (all : List Signed) (session : SessionState) : Type 0 where
  pub sees : Sees all (knowledge session)
  pub alone : start.may_end ≡ true → own_entries session.worker (entries_by Keeper all) ≡ []

-- A session whose worker was gone when it looked last has no subject in the store either, if it sees all entries.
abbrev pub StaysOut : SharedStart → StoreState → List Signed → SessionState → Type 0
StaysOut start s signed session = Sees signed (knowledge session) → IsGone start session.seen session.worker → ¬ IsSubject (graph_of_store s) session.worker

-- The roll, which is in the lock beside the store, has exactly the entries since the start. So many of these entries are the
-- keeper's. The names of all makers are names of vertices.
pub record IsRolled (start : SharedStart) (store : StoreState) (roll : RollState) (entered : ℕ) : Type 0 where
  pub grown : HasGrownBy start store roll.signed
  pub ended : entered ≡ length (entries_by Keeper roll.signed)
  pub below : roll.below ≤ (graph_of_store store).made

-- The facts that hold of the value in the lock whenever the lock is free. The store keeps its promise. It is the shared store with
-- later entries, and since the start it got exactly the entries that the roll has. The keeper made as many of these entries as were
-- counted for it. One session was made for each subject of the start, and one for each subject that was made since. The keeper made
-- no entry if the start lets nobody be ended.
pub record HoldsWhenFree (start : SharedStart) (locked : LockedState) : Type 0 where
  pub faithful : IsFaithful locked.store
  pub gone_on : GoesOn start locked.store
  pub grown_by : HasGrownBy start locked.store locked.signed
  pub entered : locked.entered ≡ length (entries_by Keeper locked.signed)
  pub sessions : locked.sessions ≡ sessions_made start locked.store.entries
  pub started : length (subjects_at start) ≤ locked.sessions
  pub none_ended : start.may_end ≡ false → locked.entered ≡ 0

-- A collection left so many vertices when exactly these entries had been made since the start. Two stores may have been in the lock
-- then, and it made the second out of the first.
abbrev pub LeavesAtSeen : SharedStart → List Signed → Kind → ℕ → Type 0
LeavesAtSeen start seen kind number = AtSeen start seen (λ old. AtSeen start seen (λ new. IsSwept kind old new number))

-- ---- what a call does

-- the same receipts, and the same entries made and seen
abbrev pub KeepsReceipts : SessionState → SessionState → Type 0
KeepsReceipts old new = (new.worker ≡ old.worker) × (new.receipts ≡ old.receipts) × (new.handed ≡ old.handed) × (new.parts ≡ old.parts) × (new.retired ≡ old.retired) × (new.made ≡ old.made) × (new.seen ≡ old.seen)

-- Room for so many more receipts was made, if memory was not refused. The receipts are the same.
pub record MakesRoom {T E : Type 0} (more : ℕ) (old new : SessionState) (result : Result T E) : Type 0 where
  pub receipts : KeepsReceipts old new
  pub spare : OnOk result (more ≤ new.spare)

-- A session that took the lock and made no entry has seen all entries up to then. It has the same receipts, and made the same
-- entries, which are exactly its own entries among the entries that it has seen.
pub record HasLooked (old new : SessionState) : Type 0 where
  pub kept : KeepsReceipts (record old { seen = new.seen }) new
  pub grown : BeginsWith new.seen old.seen
  pub own : entries_by (Session new.worker) new.seen ≡ new.made

-- A session that asked something under the lock has looked, and is otherwise as it was.
pub record OnlyLooked (old new : SessionState) : Type 0 where
  pub looked : HasLooked old new
  pub same : new ≡ record old { seen = new.seen }

-- A keeper that took the lock and made no entry has seen all entries up to then. It made the same entries, which are exactly the
-- keeper's entries among the entries that it has seen.
pub record KeeperLooked (old new : KeeperState) : Type 0 where
  pub same : new.made ≡ old.made
  pub grown : BeginsWith new.seen old.seen
  pub own : entries_by Keeper new.seen ≡ new.made

-- there is exactly one receipt more, at this place, with the session's worker, this deed and this reply
abbrev pub AddsReceipt : SessionState → SessionState → ℕ → Deed → Reply → Type 0
AddsReceipt old new at deed reply =
    (new.worker ≡ old.worker)
    × (new.receipts ≡ old.receipts ++ receipt_of at (record { worker = old.worker; deed = deed; reply = reply }) ∷ [])
    × (new.handed ≡ old.handed)
    × (new.parts ≡ old.parts)
    × (new.retired ≡ retired_by old.retired deed)
    × (new.made ≡ old.made ++ (record { worker = old.worker; deed = deed; reply = reply }) ∷ [])

-- there are exactly these receipts more, of the entries, one after the other from this place on
abbrev pub AddsReceipts : SessionState → SessionState → ℕ → List Entry → Type 0
AddsReceipts old new at entries =
    (new.worker ≡ old.worker)
    × (new.receipts ≡ old.receipts ++ receipts_from at entries)
    × (new.handed ≡ old.handed)
    × (new.parts ≡ old.parts)
    × (new.retired ≡ retired_behind old.retired entries)
    × (new.made ≡ old.made ++ entries)

-- A session took over a session that ended, and represents both. The receipts that the ended session handed out count as handed out
-- by this session.
pub record TakesOver (old ended new : SessionState) : Type 0 where
  pub worker : new.worker ≡ old.worker
  pub receipts : new.receipts ≡ old.receipts
  pub handed : new.handed ≡ old.handed + ended.handed
  pub parts : new.parts ≡ old.parts + ended.parts
  pub retired : new.retired ≡ old.retired
  pub made : new.made ≡ old.made
  pub seen : new.seen ≡ old.seen

-- There is exactly one receipt more, of an entry with this deed and this reply. The entry came next after these entries since the
-- start, which the session sees. So these entries begin with the entries that it had seen, and its own entries among them are
-- exactly the entries that it had made. The new entry was legal there, so its reply is the answer of the rules on the graph after
-- these entries. The session has then seen the entries before and the new entry.
pub record IsAnswered (start : SharedStart) (old new : SessionState) (deed : Deed) (reply : Reply) : Type 0 where
  pub before : List Signed
  pub sees : Sees before (knowledge old)
  pub receipt : AddsReceipt old new (length start.entries + length before) deed reply
  pub legal : AtSeen start before (λ s. IsLegalEntry (graph_of_store s) (record { worker = old.worker; deed = deed; reply = reply }))
  pub seen : new.seen ≡ before ++ sign (Session old.worker) (record { worker = old.worker; deed = deed; reply = reply }) ∷ []

-- Why a session's command is refused. The first two reasons are reasons of a store with exactly the entries that the session has
-- then seen. Either it had no such worker, or it allowed the command and lacked a cell, or memory ran out.
pub record RefusesCall (start : SharedStart) (command : Command) (old new : SessionState) (why : ApplyFault) : Type 0 where
  pub looked : HasLooked old new
  pub no_such_worker : why ≡ apply.NoSuchWorker → IsNobodyAtSeen start new.seen old.worker
  pub full : why ≡ apply.HeapFull → AtSeen start new.seen (λ s.
      IsAllowed (graph_of_store s) old.worker (Plain command) × AddsEdge command × LacksCellsToServe s.heap.table (nursery_of s.heap old.worker) old.worker command)

-- The answer shows the reply of an entry, which has its receipt, or the command is refused.
abbrev pub AnswersCall : {T : Type 0} → Result T ApplyFault → (T → Reply) → SharedStart → Command → SessionState → SessionState → Type 0
AnswersCall result shown start command old new = MatchResult result (λ reply. IsAnswered start old new (Plain command) (shown reply)) (RefusesCall start command old new)

-- The entries of a leave came next after these entries since the start. They are a remove for each edge that the worker has in this
-- graph, by rising name, and a retire. They were legal there, and the worker gave up so many edges.
pub record IsLegalLeave (g : ProtectionGraph) (worker count : ℕ) : Type 0 where
  pub legal : IsLegal g (leaving g worker)
  pub edges : count ≡ length (listing_of g.label g.made worker)

-- The session's worker left, and gave up so many edges. Exactly the receipts of its leave were added, whose entries came next after
-- these entries since the start. The session sees these entries, and has then seen them and the new entries.
pub record HasLeftAtSeen (start : SharedStart) (old new : SessionState) (count : ℕ) : Type 0 where
  pub before : List Signed
  pub sees : Sees before (knowledge old)
  pub receipts : AddsReceipts old new (length start.entries + length before) (leaving (graph_seen start before) old.worker)
  pub legal : AtSeen start before (λ s. IsLegalLeave (graph_of_store s) old.worker count)
  pub seen : new.seen ≡ before ++ sign_all (Session old.worker) (leaving (graph_seen start before) old.worker)

-- The keeper ended a worker, which gave up so many edges. The worker left a store that may have been in the lock when exactly these
-- entries had been made since the start. It left by entries that were legal there, and this made a store that may have been in the
-- lock next. The keeper sees the entries before. It has made exactly the new entries, and has then seen both.
pub record HasEnded (start : SharedStart) (worker : ℕ) (old new : KeeperState) (count : ℕ) : Type 0 where
  pub before : List Signed
  pub sees : Sees before (keeper_knowledge old)
  pub left : AtSeen start before (λ s. IsLegalLeave (graph_of_store s) worker count × AtSeen start new.seen (HasLeft worker s))
  pub made : new.made ≡ old.made ++ leaving (graph_seen start before) worker
  pub seen : new.seen ≡ before ++ sign_all Keeper (leaving (graph_seen start before) worker)
  pub next : new.next ≡ old.next

-- exactly one entry more, and exactly one receipt of it, at the place of the entry
pub record Records (old new : StoreState) (before after : SessionState) (deed : Deed) (reply : Reply) : Type 0 where
  pub entry : Enters old new before.worker deed reply
  pub receipt : AddsReceipt before after (length old.entries) deed reply

-- only the room of the store may have changed, and the receipts are the same
abbrev pub RecordsNothing : StoreState → StoreState → SessionState → SessionState → Type 0
RecordsNothing old new before after = IsUnchanged old new × KeepsReceipts before after

-- The reasons for which a session's deed makes no vertex. They are reasons of a store that may have been in the lock, with exactly
-- the entries that the session has then seen. The draft is handed back. If as many vertices were made as may be, a receipt is
-- added. The clauses of a spawn say so too, if as many subjects are active as may be.
pub record MayRefuseAtSeen {P T : Type 0} (start : SharedStart) (deed : Deed) (value : Value) (old new : SessionState) (result : Result T (CreateRefused P)) : Type 0 where
  pub full : IfErr result (λ refused. refused.why ≡ fault.VerticesFull → IsAnswered start old new deed VerticesFull)
  pub no_such_worker : IfErr result (λ refused. refused.why ≡ fault.NoSuchWorker → IsNobodyAtSeen start new.seen old.worker)
  pub heap_full : IfErr result (λ refused. refused.why ≡ fault.HeapFull → AtSeen start new.seen (λ s.
      IsAllowed (graph_of_store s) old.worker deed × LacksCellsFor s.heap.table (nursery_space (nursery_of s.heap old.worker)) 1 old.worker (graph_of_store s).made))
  pub handed_back : IfErr result (λ refused. refused.draft ≡ value)

-- a new session, which never had a receipt, took over no other session, and made no entry, so no retire either
abbrev pub IsFresh : SessionState → Type 0
IsFresh s = (s.receipts ≡ []) × (s.handed ≡ 0) × (s.parts ≡ 1) × (s.retired ≡ false) × (s.made ≡ [])

-- there is one session for each of the subjects, and no session ever had a receipt
abbrev pub AreFresh : List ℕ → List SessionState → Type 0
AreFresh subjects sessions = (map (λ s. s.worker) sessions ≡ subjects) × All IsFresh sessions

-- The numbers of the value in the lock agree. The book has counted the entries since the start. The parts of the ledger are the
-- sessions' parts and the rest. There are enough parts for a session of each vertex that may ever be made.
pub record IsBalanced (store : StoreState) (start sessions total rest parts : ℕ) : Type 0 where
  pub counted : length store.entries ≡ start + total
  pub cut : sessions + rest ≡ parts
  pub enough : parts ≡ store.opening.plan.limit + 1
  pub made : sessions ≤ (graph_of_store store).made

-- the reply that a refusal has in the journal, if it makes an entry
abbrev pub reply_entered : CreateFault → Option Reply
reply_entered fault.NoSuchWorker = None
reply_entered fault.VerticesFull = Some VerticesFull
reply_entered fault.WorkersFull = Some WorkersFull
reply_entered fault.HeapFull = None
reply_entered fault.OutOfMemory = None

-- the reply that the answer of a make has in the journal, if it made an entry
abbrev pub reply_made : {P : Type 0} → Result ℕ (CreateRefused P) → Option Reply
reply_made (Ok name) = Some (Name name)
reply_made (Err refused) = reply_entered refused.why

-- ---- the facts that a close finds

-- the session's receipts match the journal, and none is of an entry before the start
unfoldable pub MatchesSince : List Entry → ℕ → SessionState → Type 0
MatchesSince entries start s = MatchesFrom start entries s.worker s.receipts

-- no two sessions are of one worker
abbrev pub AreApart : List SessionState → Type 0
AreApart sessions = AllPairs (λ s t. s.worker ≢ t.worker) sessions

-- The place from which on a store holds its entries, after the entries before a place were given up. It never goes back, and never
-- goes past the last entry.
abbrev pub held_after : ℕ → StoreState → ℕ
held_after upto s = max s.handed (min upto (length s.entries))

-- the place from which on a store holds the entries that were made since it was shared
abbrev pub held_from : SharedStart → StoreState → ℕ
held_from start s = max (length start.entries) s.handed

-- Sessions may close: the receipts of each match the journal since the start, and no two are of one worker.
pub record MayClose (entries : List Entry) (start : ℕ) (sessions : List SessionState) : Type 0 where
  pub matching : All (MatchesSince entries start) sessions
  pub apart : AreApart sessions

-- Sessions may close with a store: the receipts of each match what its journal holds of the entries since the start.
abbrev pub MayCloseWith : SharedStart → StoreState → List SessionState → Type 0
MayCloseWith start s sessions = MayClose s.entries (held_from start s) sessions

-- how many receipts the sessions have
abbrev pub count_of : List SessionState → ℕ
count_of sessions = sum_by (λ s. length s.receipts) sessions

-- how many they have handed out
abbrev pub handed_of : List SessionState → ℕ
handed_of sessions = sum_by (λ s. s.handed) sessions

-- how many sessions they represent
abbrev pub parts_of : List SessionState → ℕ
parts_of sessions = sum_by (λ s. s.parts) sessions

-- Each entry that the store got since it was shared has its receipt, which the sessions have or handed out.
abbrev pub CountsAll : SharedStart → List SessionState → StoreState → Type 0
CountsAll start sessions s = length s.entries ≡ length start.entries + handed_of sessions + count_of sessions

-- The counts of a close agree for so many entries. There were so many entries when the store was shared, so many sessions were
-- made, and the keeper made so many entries for workers.
pub record AddsUp (start entries made entered : ℕ) (sessions : List SessionState) : Type 0 where
  -- the sessions represent no more than were made
  pub within : parts_of sessions ≤ made
  -- no entry is counted twice
  pub least : start + entered + handed_of sessions + count_of sessions ≤ entries
  -- each entry is counted, if no session is missing
  pub count : parts_of sessions ≡ made → entries ≡ start + entered + handed_of sessions + count_of sessions

-- A session that handed out no receipt and took over nobody has receipts of all entries of its worker among these entries, in their
-- order.
abbrev pub HasAll : List Entry → SessionState → Type 0
HasAll entries s = s.handed ≡ 0 → s.parts ≡ 1 → map (λ r. r.entry) s.receipts ≡ own_entries s.worker entries

-- the session has these receipts if the keeper, which made these entries, made no entry of its worker
abbrev pub HasAllUnlessEnded : List Entry → List Entry → SessionState → Type 0
HasAllUnlessEnded ended entries s = own_entries s.worker ended ≡ [] → HasAll entries s

-- a session that handed out no receipt and took over nobody has receipts of all entries that its own calls made
abbrev pub HasMade : SessionState → Type 0
HasMade s = s.handed ≡ 0 → s.parts ≡ 1 → map (λ r. r.entry) s.receipts ≡ s.made

-- The session has all its receipts, part by part, each of which matches its part of the journal.
pub record KeptInParts (parts : List Entries) (s : SessionState) : Type 0 where
  pub lists : List (List Receipt)
  pub each : MatchParts parts s.worker lists
  pub all : s.receipts ≡ all_receipts lists

-- The entries are shared out. Each entry is of exactly one of the sessions. The receipts of each session are all its entries, in
-- their order, each once.
pub record AreSharedOut (entries : List Entry) (sessions : List SessionState) : Type 0 where
  pub each_of_one : All (λ e. count_by (λ s. s.worker == e.worker) sessions ≡ 1) entries
  pub own : All (λ s. map (λ r. r.entry) s.receipts ≡ filter (λ e. e.worker == s.worker) entries) sessions

-- The facts about the receipts of sessions, if no session is missing and the keeper made no entry.
pub record SharesOut (start : SharedStart) (s : StoreState) (sessions : List SessionState) : Type 0 where
  -- if as many receipts were handed out as entries, the receipts that are left are of exactly the entries that the store holds
  pub shared_out : length start.entries + handed_of sessions ≡ held_from start s → AreSharedOut (drop (held_from start s) s.entries) sessions
  -- if no receipt was handed out, no entry was
  pub none_handed : handed_of sessions ≡ 0 → held_from start s ≡ length start.entries
  -- of a store that was shared whole, the receipts are of all entries since
  pub whole : start.in_parts ≡ false → AreSharedOut (since start s) sessions
