-- The calls of C on a place and its store. Each but the opening is a call on a place. A closed place is refused with `NotOpen`. On
-- an open place the store's answer is reported, of which the clauses of the store's own call hold.
use Rattle.std.specs.Prelude.{◌≡◌, ◌≢◌, ◌↔◌, ◌⊎◌, ◌≤◌, ◌<◌, ◌-◌, ◌==◌, ℕ, true, false, List, [], ◌∷◌, Some, None, Result, Ok, Err, IfOk, IfErr, OnOk, OnErr, length, map, IsSome}
use Rattle.std.specs.List.{IsDistinct}
use Rattle.tg_rights.specs.RightSet.{RightSet, bits_of}
use Rattle.tg_model.specs.Graph.{ProtectionGraph, IsSubject}
use Rattle.tg_model.specs.Near.{reply_on_none}
use Rattle.tg_model.specs.Rules.{IsAllowed, step, answer_of}
use Rattle.tg_model.specs.Opened.{HasLimitsTo, HasWorkers, start_of}
use Rattle.tg_model.specs.declared.opening.TheConstants.{MAX_LASTING_VERTICES}
use Rattle.tg_model.specs.declared.command.Command.{Command}
use Rattle.tg_model.specs.declared.command.Command.TheVariants as command
use Rattle.tg_model.specs.declared.command.Deed.TheVariants.{Plain}
use Rattle.tg_model.specs.declared.opening.TheConstants.{MAX_WORKERS}
use Rattle.tg_model.specs.declared.reply.Denial.{Denial}
use Rattle.tg_model.specs.declared.reply.Reply.{Reply}
use Rattle.tg_model.specs.declared.reply.Reply.TheVariants as reply
use Rattle.tg_model.specs.declared.value.Value.{Value}
use Rattle.tg_space.specs.declared.kind.Kind.{Kind}
use Rattle.tg_space.specs.SpaceList.{block_count}
use Rattle.tg_space.specs.SpaceTable.{AreLimits, limits_of}
use Rattle.tg_payload.specs.Table.{count}
use Rattle.tg_word.specs.Word.{nursery_space}
use Rattle.tg_graph.specs.Heap.{content_of, nursery_of}
use Rattle.tg_graph.specs.Shown.{shown_in}
use Rattle.tg_rows.specs.Spots.{LacksCellsFor}
use Rattle.tg_rules.specs.Effect.{AddsEdge, LacksCellsToServe}
use Rattle.tg_space.specs.declared.room_fault.RoomFault.{RoomFault}
use Rattle.tg_space.specs.declared.room_fault.RoomFault.TheVariants as no_room
use Rattle.tg_journal.specs.declared.entry.Entry.{Entry}
use Rattle.tg_store.specs.Collecting.{IsSwept, KeepsHistory}
use Rattle.tg_store.specs.Made.{IsMadeFor}
use Rattle.tg_model.specs.Making.{deed_making}
use Rattle.tg_store.specs.Room.{LacksRoomToCollect}
use Rattle.tg_store.specs.Counts.{no_collections, refusals_in}
use Rattle.tg_store.specs.Origin.{opened_by}
use Rattle.tg_store.specs.Store.{StoreState, StandsFor, Enters, HasFewBlocks, HoldsFrom, OnlyEnters, IsUnchanged}
use Rattle.tg_store.specs.declared.census.Census.{Census}
use Rattle.tg_store.specs.declared.fault.ApplyFault.{ApplyFault}
use Rattle.tg_store.specs.declared.fault.ApplyFault.TheVariants as apply
use Rattle.tg_store.specs.declared.fault.CreateFault.{CreateFault}
use Rattle.tg_store.specs.declared.fault.CreateFault.TheVariants as create
use Rattle.tg_model.specs.declared.making.Making.{Making}
use Rattle.tg_model.specs.declared.making.Making.TheVariants.{Subject}
use Rattle.tg_c.specs.declared.place.StorePlace.{StorePlace}
use Rattle.tg_c.specs.declared.refusal.CallRefusal.{CallRefusal}
use Rattle.tg_c.specs.declared.refusal.CallRefusal.TheVariants as refusal
use Rattle.tg_c.specs.declared.forms.EdgeIn.{EdgeIn}
use Rattle.tg_c.specs.declared.forms.LimitsIn.{LimitsIn}
use Rattle.tg_c.specs.declared.forms.ValueIn.{ValueIn}
use Rattle.tg_c.specs.declared.opening.Asked.{Asked}
use Rattle.tg_c.specs.Forms.{AreValues, HaveLabels, JoinWorkers, label_at, plan_given, value_at, value_in}
use Rattle.tg_c.specs.Records.{entry_at}
use Rattle.tg_c.specs.Statuses.{of_apply, of_collect, of_create, refused_as, status_of}

-- the state of the store in an open place
abbrev pub state_in : StorePlace → StoreState
state_in place = place.handle.opened.store

-- ---- a call on a place

-- On an open place the store has an answer of which `holds`, and this answer is reported. The place stays open.
pub record ServesCall {T E : Type 0} (name : E → CallRefusal) (holds : StoreState → StoreState → Result T E → Type 0)
    (old new : StorePlace) (tells : Result T CallRefusal → Type 0) : Type 0 where
  pub answer : Result T E
  pub told : tells (refused_as name answer)
  pub stays_open : new.is_open ≡ true
  pub holds_of : holds (state_in old) (state_in new) answer

-- On an open place the store answers. On a closed place the call is refused with `NotOpen`, and the place stays closed.
pub record IsCall {T E : Type 0} (name : E → CallRefusal) (holds : StoreState → StoreState → Result T E → Type 0)
    (old new : StorePlace) (tells : Result T CallRefusal → Type 0) : Type 0 where
  pub not_open : old.is_open ≡ false → tells (Err refusal.NotOpen) × (new.is_open ≡ false)
  pub served : old.is_open ≡ true → ServesCall name holds old new tells

-- the call is refused for its arguments, before the store is looked at
abbrev pub Refuses : {T : Type 0} → StorePlace → StorePlace → (Result T CallRefusal → Type 0) → CallRefusal → Type 0
Refuses old new tells why = (new ≡ old) × tells (Err why)

-- ---- commands

-- the answer to a command of a worker, with the clauses of the store's `apply`
pub record Applies (worker : ℕ) (asked : Command) (old new : StoreState) (answer : Result Reply ApplyFault) : Type 0 where
  pub entry : IfOk answer (λ r. Enters old new worker (Plain asked) r)
  pub replied : (g : ProtectionGraph) → StandsFor old g → IfOk answer (λ r. r ≡ answer_of g worker (Plain asked))
  pub next : (g : ProtectionGraph) → StandsFor old g → OnOk answer (StandsFor new (step g worker (Plain asked)))
  pub denied : (denial : Denial) → answer ≡ Ok (reply.Denied denial) → OnlyEnters old new worker (Plain asked) (reply.Denied denial)
  pub no_such_worker : (g : ProtectionGraph) → StandsFor old g → (answer ≡ Err apply.NoSuchWorker) ↔ (¬ IsSubject g worker)
  pub full : (g : ProtectionGraph) → StandsFor old g → answer ≡ Err apply.HeapFull →
      IsAllowed g worker (Plain asked) × AddsEdge asked × LacksCellsToServe old.heap.table (nursery_of old.heap worker) worker asked
  pub refused : OnErr answer (IsUnchanged old new)
  pub opening : new.opening ≡ old.opening
  pub limits : new.heap.table.limits ≡ old.heap.table.limits
  pub collections : new.collections ≡ old.collections

abbrev pub Asks : StorePlace → StorePlace → ℕ → Command → (Result Reply CallRefusal → Type 0) → Type 0
Asks old new worker asked = IsCall of_apply (Applies worker asked) old new

-- A command with a label, whose bits C passes. If the bits are no label's, it is refused, and else the store is asked.
pub record AsksWithRights (old new : StorePlace) (worker rights : ℕ) (with_label : RightSet → Command) (tells : Result Reply CallRefusal → Type 0) : Type 0 where
  pub asked : (label : RightSet) → label_at rights ≡ Some label → Asks old new worker (with_label label) tells
  pub bad_rights : label_at rights ≡ None → Refuses old new tells refusal.BadRights

-- which replies a command can have
abbrev pub IsDoneOrDenied : Reply → Type 0
IsDoneOrDenied reply.Done = Unit {0}
IsDoneOrDenied (reply.Denied denial) = Unit {0}
IsDoneOrDenied (reply.Name name) = ⊥
IsDoneOrDenied (reply.Values values) = ⊥
IsDoneOrDenied (reply.Edges edges) = ⊥
IsDoneOrDenied reply.VerticesFull = ⊥
IsDoneOrDenied reply.WorkersFull = ⊥

abbrev pub IsReadOrDenied : Reply → Type 0
IsReadOrDenied (reply.Values values) = Unit {0}
IsReadOrDenied (reply.Denied denial) = Unit {0}
IsReadOrDenied reply.Done = ⊥
IsReadOrDenied (reply.Name name) = ⊥
IsReadOrDenied (reply.Edges edges) = ⊥
IsReadOrDenied reply.VerticesFull = ⊥
IsReadOrDenied reply.WorkersFull = ⊥

abbrev pub IsListReply : Reply → Type 0
IsListReply (reply.Edges edges) = Unit {0}
IsListReply reply.Done = ⊥
IsListReply (reply.Denied denial) = ⊥
IsListReply (reply.Name name) = ⊥
IsListReply (reply.Values values) = ⊥
IsListReply reply.VerticesFull = ⊥
IsListReply reply.WorkersFull = ⊥

abbrev pub IsListedOrDenied : Reply → Type 0
IsListedOrDenied (reply.Edges edges) = Unit {0}
IsListedOrDenied (reply.Denied denial) = Unit {0}
IsListedOrDenied reply.Done = ⊥
IsListedOrDenied (reply.Name name) = ⊥
IsListedOrDenied (reply.Values values) = ⊥
IsListedOrDenied reply.VerticesFull = ⊥
IsListedOrDenied reply.WorkersFull = ⊥

abbrev pub IsDoneReply : Reply → Type 0
IsDoneReply reply.Done = Unit {0}
IsDoneReply (reply.Denied denial) = ⊥
IsDoneReply (reply.Name name) = ⊥
IsDoneReply (reply.Values values) = ⊥
IsDoneReply (reply.Edges edges) = ⊥
IsDoneReply reply.VerticesFull = ⊥
IsDoneReply reply.WorkersFull = ⊥

-- a reply that shows as much as this reply, or a denial
abbrev pub IsAlikeOrDenied : Reply → Reply → Type 0
IsAlikeOrDenied (reply.Values values) r = IsReadOrDenied r
IsAlikeOrDenied (reply.Edges edges) r = IsListedOrDenied r
IsAlikeOrDenied one r = IsDoneOrDenied r

-- A list and a retire are never denied. Each other command shows a reply of one form on every graph on which it is served.
-- Therefore its form on a graph without edges is enough.
abbrev pub IsReplyTo : Command → Reply → Type 0
IsReplyTo command.List r = IsListReply r
IsReplyTo command.Retire r = IsDoneReply r
IsReplyTo asked r = IsAlikeOrDenied (reply_on_none asked) r

-- ---- creates and spawns

-- the answer to a create of a worker, or to its spawn, with the clauses of the store's `make`
pub record Makes (kind : Making) (worker : ℕ) (label : RightSet) (value : Value) (old new : StoreState) (answer : Result ℕ CreateFault) : Type 0 where
  pub entry : IfOk answer (λ name. Enters old new worker (deed_making kind label value) (reply.Name name))
  pub made : IfOk answer (IsMadeFor (deed_making kind label value) worker label value old new)
  pub no_such_worker : (g : ProtectionGraph) → StandsFor old g → (answer ≡ Err create.NoSuchWorker) ↔ (¬ IsSubject g worker)
  pub no_more : (g : ProtectionGraph) → StandsFor old g → answer ≡ Err create.VerticesFull → IsSubject g worker × (g.limit ≤ g.made)
  pub exhausted : (g : ProtectionGraph) → StandsFor old g → IsSubject g worker → g.limit ≤ g.made →
      (answer ≡ Err create.VerticesFull) ⊎ (answer ≡ Err create.OutOfMemory)
  pub no_more_entry : answer ≡ Err create.VerticesFull → OnlyEnters old new worker (deed_making kind label value) reply.VerticesFull
  pub full : (g : ProtectionGraph) → StandsFor old g → answer ≡ Err create.HeapFull →
      IsAllowed g worker (deed_making kind label value) × LacksCellsFor old.heap.table (nursery_space (nursery_of old.heap worker)) 1 worker g.made
  pub too_many : (g : ProtectionGraph) → StandsFor old g → answer ≡ Err create.WorkersFull →
      (kind ≡ Subject) × IsSubject g worker × (g.made < g.limit) × (MAX_WORKERS ≤ length g.subjects)
  pub crowded : kind ≡ Subject → (g : ProtectionGraph) → StandsFor old g → IsSubject g worker → g.made < g.limit → MAX_WORKERS ≤ length g.subjects →
      (answer ≡ Err create.WorkersFull) ⊎ (answer ≡ Err create.OutOfMemory)
  pub too_many_entry : answer ≡ Err create.WorkersFull → OnlyEnters old new worker (deed_making kind label value) reply.WorkersFull
  pub refused : IfErr answer (λ why. why ≢ create.VerticesFull → why ≢ create.WorkersFull → IsUnchanged old new)
  pub same_graph : (g : ProtectionGraph) → StandsFor old g → OnErr answer (StandsFor new g)
  pub opening : new.opening ≡ old.opening
  pub limits : new.heap.table.limits ≡ old.heap.table.limits
  pub collections : new.collections ≡ old.collections

-- A call that makes a vertex which stores this value, and over which the worker is to have the rights of these bits. It is refused
-- if the bits are no label's, and else if the value is of no law. Else the store is asked.
pub record MakesOfForms (kind : Making) (old new : StorePlace) (worker rights : ℕ) (value : ValueIn) (tells : Result ℕ CallRefusal → Type 0) : Type 0 where
  pub bad_rights : label_at rights ≡ None → Refuses old new tells refusal.BadRights
  pub bad_law : (label : RightSet) → label_at rights ≡ Some label → value_at value ≡ None → Refuses old new tells refusal.BadLaw
  pub made : (label : RightSet) → label_at rights ≡ Some label → (stored : Value) → value_at value ≡ Some stored →
      IsCall of_create (Makes kind worker label stored) old new tells

-- ---- collections

-- the answer to a collection, with the clauses of the store's `collect`
pub record CollectsHeap (kind : Kind) (old new : StoreState) (answer : Result ℕ RoomFault) : Type 0 where
  pub swept : IfOk answer (IsSwept kind old new)
  pub blocks : OnOk answer (HasFewBlocks kind 0 old.heap.table new.heap.table)
  pub full : answer ≡ Err no_room.HeapFull → LacksRoomToCollect kind 1 old.heap
  pub history : KeepsHistory old new answer

abbrev pub Sweeps : StorePlace → StorePlace → Kind → (Result ℕ CallRefusal → Type 0) → Type 0
Sweeps old new kind = IsCall of_collect (CollectsHeap kind) old new

-- ---- calls that only look

-- the store is the same, and the call is always served
abbrev pub Looks : {T : Type 0} → (StoreState → T) → StoreState → StoreState → Result T CallRefusal → Type 0
Looks what old new answer = (new ≡ old) × (answer ≡ Ok (what old))

abbrev pub census_of : StoreState → Census
census_of s = record {
  vertices = length (content_of s.heap).names;
  payloads = count s.heap.payloads;
  blocks = block_count s.heap.table.spaces;
  entries = length s.entries;
  held = length s.entries - s.handed;
  refusals = refusals_in s.entries;
  collections = s.collections;
}

abbrev pub Counts : StorePlace → StorePlace → (Result Census CallRefusal → Type 0) → Type 0
Counts old new = IsCall (λ why. why) (Looks census_of) old new

-- the place of the first entry that the store holds, or else of the next
abbrev pub AsksFirst : StorePlace → StorePlace → (Result ℕ CallRefusal → Type 0) → Type 0
AsksFirst old new = IsCall (λ why. why) (Looks (λ s. s.handed)) old new

abbrev pub CountsEntries : StorePlace → StorePlace → (Result ℕ CallRefusal → Type 0) → Type 0
CountsEntries old new = IsCall (λ why. why) (Looks (λ s. length s.entries)) old new

-- the names of the vertices that the heap has, each once
pub record AreNames (old new : StoreState) (answer : Result (List ℕ) CallRefusal) : Type 0 where
  pub same : new ≡ old
  pub names : answer ≡ Ok (content_of old.heap).names
  pub once : IsDistinct (λ a b. a == b) (content_of old.heap).names

abbrev pub AsksNames : StorePlace → StorePlace → (Result (List ℕ) CallRefusal → Type 0) → Type 0
AsksNames old new = IsCall (λ why. why) AreNames old new

-- the names of the active subjects, rising
pub record AreSubjectNames (old new : StoreState) (answer : Result (List ℕ) CallRefusal) : Type 0 where
  pub same : new ≡ old
  pub names : (g : ProtectionGraph) → StandsFor old g → answer ≡ Ok g.subjects

abbrev pub AsksSubjects : StorePlace → StorePlace → (Result (List ℕ) CallRefusal → Type 0) → Type 0
AsksSubjects old new = IsCall (λ why. why) AreSubjectNames old new

-- Either names were put into a room as far as it goes, and the answer is how many there are. Or the call was refused, and the room
-- is as it was.
abbrev pub IsShown : List ℕ → List ℕ → Result ℕ CallRefusal → Result (List ℕ) CallRefusal → Type 0
IsShown old new answer (Ok names) = (answer ≡ Ok (length names)) × (new ≡ shown_in names old)
IsShown old new answer (Err why) = (answer ≡ Err why) × (new ≡ old)

-- the journal's entry at a place, if the store holds it
abbrev pub IsEntryAt : ℕ → StoreState → StoreState → Result Entry CallRefusal → Type 0
IsEntryAt at old new answer = (new ≡ old) × (answer ≡ entry_at old.handed old.entries at)

abbrev pub AsksEntry : StorePlace → StorePlace → ℕ → (Result Entry CallRefusal → Type 0) → Type 0
AsksEntry old new at = IsCall (λ why. why) (IsEntryAt at) old new

-- The answer to a worker that asks for its rights over a vertex. It is the label as bits, or 0 for no label. It is refused exactly
-- if no worker has the name.
pub record IsHeldAt (worker target : ℕ) (old new : StoreState) (answer : Result ℕ CallRefusal) : Type 0 where
  pub same : new ≡ old
  pub held : (g : ProtectionGraph) → StandsFor old g → IsSubject g worker → answer ≡ Ok (bits_of (g.label worker target))
  pub no_such_worker : (g : ProtectionGraph) → StandsFor old g → (answer ≡ Err refusal.NoSuchWorker) ↔ (¬ IsSubject g worker)

abbrev pub AsksRights : StorePlace → StorePlace → ℕ → ℕ → (Result ℕ CallRefusal → Type 0) → Type 0
AsksRights old new worker target = IsCall (λ why. why) (IsHeldAt worker target) old new

-- An audit of the store's own journal. It is refused with `NotWhole` exactly if entries were given up, or if the store was opened
-- again from a snapshot. Else it is refused only if memory ran out.
pub record StoreIsAudited (old new : StoreState) (answer : Result ℕ CallRefusal) : Type 0 where
  pub same : new ≡ old
  pub count : IfOk answer (λ n. n ≡ length old.entries)
  pub not_whole : (answer ≡ Err refusal.NotWhole) ↔ ((0 < old.handed) ⊎ IsSome old.opening.shown)
  pub fault : IfErr answer (λ why. (why ≡ refusal.NotWhole) ⊎ (why ≡ refusal.OutOfMemory))

abbrev pub Audits : StorePlace → StorePlace → (Result ℕ CallRefusal → Type 0) → Type 0
Audits old new = IsCall (λ why. why) StoreIsAudited old new

-- The entries before a place are given up. The call is refused exactly if the place lies before the first entry that is held, or
-- after the last by more than one.
pub record ForgetsUpto (upto : ℕ) (old new : StoreState) (answer : Result (Unit {0}) CallRefusal) : Type 0 where
  pub forgotten : OnOk answer (HoldsFrom upto old new)
  pub bad_place : (answer ≡ Err refusal.BadPlace) ↔ ((upto < old.handed) ⊎ (length old.entries < upto))
  pub refused : IfErr answer (λ why. (why ≡ refusal.BadPlace) × (new ≡ old))

abbrev pub Forgets : StorePlace → StorePlace → ℕ → (Result (Unit {0}) CallRefusal → Type 0) → Type 0
Forgets old new upto = IsCall (λ why. why) (ForgetsUpto upto) old new

-- ---- the opening

-- a demand of an opening, and the refusal if it doesn't hold
pub record Demand : Type 1 where
  pub holds : Type 0
  pub told : CallRefusal

abbrev pub demand : Type 0 → CallRefusal → Demand
demand holds told = record { holds = holds; told = told }

-- the demands of an opening, in the order in which they are checked
abbrev pub demands_of : List ValueIn → List EdgeIn → LimitsIn → List Demand
demands_of workers edges limits =
    demand (AreValues workers) refusal.BadLaw
    ∷ demand (HaveLabels edges) refusal.BadRights
    ∷ demand (HasWorkers (plan_given workers edges limits.max_vertices)) refusal.BadWorkers
    ∷ demand (HasLimitsTo MAX_LASTING_VERTICES (plan_given workers edges limits.max_vertices)) refusal.BadLimits
    ∷ demand (JoinWorkers (length workers) edges) refusal.BadEdge
    ∷ demand (AreLimits (limits_of limits.max_blocks limits.max_space_blocks)) refusal.BadLimits
    ∷ demand (length workers ≤ limits.max_blocks) refusal.HeapFull
    ∷ []

abbrev pub AreMet : List Demand → Type 0
AreMet [] = Unit {0}
AreMet (d ∷ ds) = d.holds × AreMet ds

-- this is the refusal of the first demand that doesn't hold
abbrev pub IsFirstUnmet : List Demand → CallRefusal → Type 0
IsFirstUnmet [] why = ⊥
IsFirstUnmet (d ∷ ds) why = ((¬ d.holds) × (why ≡ d.told)) ⊎ (d.holds × IsFirstUnmet ds why)

-- Why an opening is refused. Either a demand isn't met, and the first one is the reason. Or all are met, and memory ran out.
abbrev pub IsRefusedFor : List ValueIn → List EdgeIn → LimitsIn → CallRefusal → Type 0
IsRefusedFor workers edges limits why =
    IsFirstUnmet (demands_of workers edges limits) why
    ⊎ (AreMet (demands_of workers edges limits) × (why ≡ refusal.OutOfMemory))

-- the values that were made from the arguments of an opening, all of whose demands are met
pub record IsAskedFor (workers : List ValueIn) (edges : List EdgeIn) (limits : LimitsIn) (asked : Asked) : Type 0 where
  pub met : AreMet (demands_of workers edges limits)
  pub opening : asked.opening ≡ plan_given workers edges limits.max_vertices
  pub blocks : asked.blocks ≡ limits_of limits.max_blocks limits.max_space_blocks
  pub drafts : asked.drafts.items ≡ map value_in workers

-- The store of an opening, all of whose demands are met. It has no entry, and represents the graph that C asked for.
pub record IsOpenedStore (s : StoreState) (workers : List ValueIn) (edges : List EdgeIn) (limits : LimitsIn) : Type 0 where
  pub met : AreMet (demands_of workers edges limits)
  pub opening : s.opening ≡ opened_by (plan_given workers edges limits.max_vertices)
  pub stands : StandsFor s (start_of (plan_given workers edges limits.max_vertices))
  pub no_entry : s.entries ≡ []
  pub none_collected : s.collections ≡ no_collections
  pub limits_kept : s.heap.table.limits ≡ limits_of limits.max_blocks limits.max_space_blocks

-- the refusal is lack of memory, or else this refusal, and then its reason holds
abbrev pub IsMemoryOr : CallRefusal → Type 0 → CallRefusal → Type 0
IsMemoryOr fault says why = (why ≡ refusal.OutOfMemory) ⊎ ((why ≡ fault) × says)

-- the status of a refusal of which this holds
abbrev pub IsStatusWhere : (CallRefusal → Type 0) → ℕ → Type 0
IsStatusWhere which status = (why : CallRefusal) × which why × (status ≡ status_of why)

-- An opening of C changes the place. If it is refused, it leaves the place as it was.
pub record Opens (old new : StorePlace) (workers : List ValueIn) (edges : List EdgeIn) (limits : LimitsIn) (status : ℕ) : Type 0 where
  pub already_open : old.is_open ≡ true → status ≡ status_of refusal.AlreadyOpen
  pub opened : status ≡ 0 → (new.is_open ≡ true) × IsOpenedStore (state_in new) workers edges limits
  pub refused : old.is_open ≡ false → status ≢ 0 → IsStatusWhere (IsRefusedFor workers edges limits) status
  pub kept : status ≢ 0 → new ≡ old
