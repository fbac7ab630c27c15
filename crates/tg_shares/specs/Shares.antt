-- What is paid out of a purse, and what holds in the lock of a store whose vertices are shared out.
use Rattle.std.specs.Prelude.{◌≡◌, ◌≢◌, ◌↔◌, ◌<◌, ◌≤◌, ◌+◌, ℕ, Result, Err, IfErr, IfOk, OnErr, OnOk, length}
use Rattle.tg_model.specs.Graph.{ProtectionGraph, IsSubject, listing_of}
use Rattle.tg_model.specs.declared.command.Deed.{Deed}
use Rattle.tg_model.specs.declared.reply.Reply.{Reply}
use Rattle.tg_store.specs.Leaving.{HasLeft, leaving}
use Rattle.tg_store.specs.Store.{StoreState, StandsFor, graph_of_store}
use Rattle.tg_store.specs.declared.fault.ApplyFault.TheVariants.{HeapFull, NoSuchWorker}
use Rattle.tg_store.specs.declared.fault.CreateFault.TheVariants as fault
use Rattle.tg_store.specs.declared.fault.CreateRefused.{CreateRefused}
use Rattle.tg_shared.specs.Sessions.{AddsReceipts, AtSeen, IsAnswered, RecordsNothing, SessionState, SharedStart}
use Rattle.tg_shares.specs.declared.fault.LeaveFault.{LeaveFault}
use Rattle.tg_shares.specs.declared.fault.LeaveFault.TheVariants.{Share, Store}
use Rattle.tg_shares.specs.declared.fault.ShareFault.{ShareFault}
use Rattle.tg_shares.specs.declared.fault.Lack.{Lack}
use Rattle.tg_shares.specs.declared.fault.Lack.TheVariants.{Entries, Vertices}
use Rattle.tg_shares.specs.declared.purse.Portion.{Portion}
use Rattle.tg_shares.specs.declared.purse.PurseBlanks.{PurseBlanks}

-- ---- purses

-- so many entries and no vertex
abbrev pub entries_alone : ℕ → Portion
entries_alone count = record { vertices = 0; entries = count }

abbrev pub one_entry : Portion
one_entry = entries_alone 1

-- so many vertices, and the entry by which each is made
abbrev pub vertices_with_entries : ℕ → Portion
vertices_with_entries count = record { vertices = count; entries = count }

abbrev pub one_vertex : Portion
one_vertex = vertices_with_entries 1

-- exactly this was taken out of a purse
pub record Pays (part old new : Portion) : Type 0 where
  pub vertices : new.vertices + part.vertices ≡ old.vertices
  pub entries : new.entries + part.entries ≡ old.entries

-- exactly this part was taken for the call, and nothing if the call was refused
pub record PaysFor {T E : Type 0} (part old new : Portion) (result : Result T E) : Type 0 where
  pub paid : OnOk result (Pays part old new)
  pub unpaid : OnErr result (new ≡ old)

-- A spawn costs a vertex and its entry. A spawn that is refused because too many subjects are active costs the entry that it made.
pub record PaysForSpawn {P T : Type 0} (old new : Portion) (result : Result T (CreateRefused P)) : Type 0 where
  pub paid : OnOk result (Pays one_vertex old new)
  pub crowded : IfErr result (λ refused. refused.why ≡ fault.WorkersFull → Pays one_entry old new)
  pub unpaid : IfErr result (λ refused. refused.why ≢ fault.WorkersFull → new ≡ old)

-- a purse can pay for a vertex with its entry
abbrev pub CanPayForVertex : Portion → Type 0
CanPayForVertex purse = (0 < purse.vertices) × (0 < purse.entries)

-- A purse has too few vertices or entries for a vertex with its entry, and for handing a part on besides. A lack of vertices is
-- reported first.
abbrev pub LacksToMake : Portion → Portion → Lack → Type 0
LacksToMake part purse Vertices = purse.vertices ≤ part.vertices
LacksToMake part purse Entries = (part.vertices < purse.vertices) × (purse.entries ≤ part.entries)

-- A purse has too few entries for a worker to leave this graph. A leave takes an entry for each of its edges, and an entry for its
-- retire.
abbrev pub LacksToLeave : ProtectionGraph → ℕ → Portion → Type 0
LacksToLeave g worker purse = purse.entries ≤ length (listing_of g.label g.made worker)

-- ---- in the lock

-- Either a worker leaves, and pays an entry for each edge that it gives up and an entry for its retire. Or nothing is changed and
-- nothing is paid. Then there is no such worker, the purse has too few entries, or memory ran out.
pub record LeavesPaying (old new : StoreState) (before after : SessionState) (full rest : Portion) (result : Result ℕ LeaveFault) : Type 0 where
  pub left : OnOk result (HasLeft before.worker old new)
  pub count : (g : ProtectionGraph) → StandsFor old g → IfOk result (λ count. count ≡ length (listing_of g.label g.made before.worker))
  pub receipts : OnOk result (AddsReceipts before after (length old.entries) (leaving (graph_of_store old) before.worker))
  pub paid : IfOk result (λ count. Pays (entries_alone (count + 1)) full rest)
  pub lacks : (g : ProtectionGraph) (why : ShareFault) → StandsFor old g → result ≡ Err (Share why) →
      LacksToLeave g before.worker full × (why ≡ record { worker = before.worker; lacks = Entries })
  pub no_such_worker : (g : ProtectionGraph) → StandsFor old g → (result ≡ Err (Store NoSuchWorker)) ↔ (¬ IsSubject g before.worker)
  pub never_full : result ≢ Err (Store HeapFull)
  pub refused : OnErr result (RecordsNothing old new before after × (rest ≡ full))

-- So many vertices and entries may be shared out of a store with these blanks. The ledgers have these names and so many parts. The
-- blanks are the ledgers'. There is a part for each vertex and each entry, and so many vertices may still be made.
pub record MayShareOut (vertices vertex_parts entries entry_parts : ℕ) (blanks : PurseBlanks) (whole : Portion) (store : StoreState) : Type 0 where
  pub of_vertices : (blanks.vertices.name ≡ vertices) × (blanks.vertices.parts ≡ vertex_parts) × (blanks.vertices.parts ≡ whole.vertices)
  pub of_entries : (blanks.entries.name ≡ entries) × (blanks.entries.parts ≡ entry_parts) × (blanks.entries.parts ≡ whole.entries)
  pub within : (graph_of_store store).made + whole.vertices ≤ (graph_of_store store).limit

-- so many vertices, which are left in all purses, may still be made
abbrev pub IsCovered : ℕ → StoreState → Type 0
IsCovered left s = (graph_of_store s).made + left ≤ (graph_of_store s).limit

-- ---- under the lock

-- A command of the session's subject has exactly one receipt more, with some reply, as `IsAnswered` says.
abbrev pub IsAnsweredSomehow : SharedStart → SessionState → SessionState → Deed → Type 0
IsAnsweredSomehow start old new deed = (reply : Reply) × IsAnswered start old new deed reply

-- The purse has too few entries for the session's worker to leave a store. That store may have been in the lock, and has exactly
-- the entries that the session has seen. The fault says so.
abbrev pub LacksToLeaveAtSeen : SharedStart → SessionState → Portion → ShareFault → Type 0
LacksToLeaveAtSeen start session purse why =
    (why ≡ record { worker = session.worker; lacks = Entries }) × AtSeen start session.seen (λ s. LacksToLeave (graph_of_store s) session.worker purse)
