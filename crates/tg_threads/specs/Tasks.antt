-- The results of a worker's lines on its thread, and how the parts of a race agree with the report on it.
use Rattle.std.specs.Prelude.{◌≡◌, ◌≢◌, ℕ, ◌+◌, ◌<◌, ◌≤◌, Bool, true, false, if◌then◌else◌, List, [], ◌∷◌, ◌++◌, length, map, slice_index, Option, Some, None, Result, IfOk, IfErr}
use Rattle.std.specs.List.{All, flat_map, range_with_len}
use Rattle.std.specs.Vec.{vec_capacity, vec_len}
use Rattle.std.specs.declared.vec.Vec.{Vec}
use Rattle.tg_model.specs.declared.value.Value.{Value}
use Rattle.tg_model.specs.declared.command.Deed.{Deed}
use Rattle.tg_model.specs.declared.command.Deed.TheVariants as deed
use Rattle.tg_model.specs.declared.reply.Reply.{Reply}
use Rattle.tg_model.specs.declared.reply.Reply.TheVariants as reply
use Rattle.tg_model.specs.Graph.{IsSubject}
use Rattle.tg_space.specs.declared.kind.Kind.{Kind}
use Rattle.tg_journal.specs.declared.entry.Entry.{Entry}
use Rattle.tg_store.specs.Store.{graph_of_store}
use Rattle.tg_text.specs.declared.line.Line.{Line}
use Rattle.tg_text.specs.declared.line.Line.TheVariants as line
use Rattle.tg_text.specs.declared.answer.Answer.TheVariants as answer
use Rattle.tg_text.specs.declared.answer.Refusal.TheVariants as refusal
use Rattle.tg_shared.specs.declared.receipt.Receipt.{Receipt}
use Rattle.tg_shared.specs.Receipts.{receipt_of}
use Rattle.tg_passes.specs.Passes.{BeginsWith, entries_of}
use Rattle.tg_shared.specs.Sessions.{AddsReceipt, AreFresh, AtSeen, HasLooked, KeepsReceipts, SessionState, SharedStart}
use Rattle.std.specs.declared.thread.PromisedHandle.{PromisedHandle}
use Rattle.tg_threads.specs.declared.threads.Assigned.{Assigned}
use Rattle.tg_threads.specs.declared.threads.ThreadsFault.{ThreadsFault}
use Rattle.tg_threads.specs.declared.threads.ThreadsFault.TheVariants as threads
use Rattle.tg_threads.specs.declared.task.Task.{Task}
use Rattle.tg_threads.specs.declared.task.Told.{Told}
use Rattle.tg_threads.specs.declared.task.Told.TheVariants as came
use Rattle.tg_threads.specs.declared.work.Work.{Work}
use Rattle.tg_threads.specs.declared.work.Finished.{Finished}
use Rattle.tg_threads.specs.Boxes.{Boxed, boxed_of}
use Rattle.tg_threads.specs.Shares.{is_among, share_of, lines_in}
use Rattle.tg_threads.specs.Telling.{IsThere, text_of_told}
use Rattle.tg_threads.specs.Output.{Arena, Tells, IsCountTold, IsOfStore, IsUncollected, AreTold, HasEach, arena_of, is_retire_of}

-- ---- the result of a line

-- the workers whose lines are run after this line, which had this result
abbrev pub served_past : (ℕ → Bool) → Line → Told → ℕ → Bool
served_past served l (came.Entered at) = λ x. if is_retire_of x l then false else served x
served_past served l (came.Collected kept) = served
served_past served l (came.Refused r) = served

-- the line asks for a deed of its worker
abbrev pub is_deed : Line → Bool
is_deed (line.Edge edge) = false
is_deed (line.Create x label) = true
is_deed (line.Spawn x label) = true
is_deed (line.Plain x command) = true
is_deed line.Full = false
is_deed line.Minor = false

-- the line of the task may make a subject
abbrev pub is_spawn_line : Line → Bool
is_spawn_line (line.Spawn x label) = true
is_spawn_line l = false

abbrev pub may_make_subject : {P : Type 0} → Task P → Bool
may_make_subject t = is_spawn_line t.line

-- the receipt that the session got for the line, with the report on the line
abbrev pub RunsOne : Arena → (ℕ → Bool) → Boxed → Told → List Receipt → Type 0
RunsOne arena served b (came.Entered at) more = (e : Entry) × (more ≡ receipt_of at e ∷ []) × Tells arena served b.line b.value (Some e) (answer.Reply e.reply)
RunsOne arena served b (came.Collected kept) more = (more ≡ []) × Tells arena served b.line b.value None (answer.Collected kept)
RunsOne arena served b (came.Refused r) more = (more ≡ []) × Tells arena served b.line b.value None (answer.Refused r)

-- A session asked for the deed. Either it has exactly one receipt more, with the deed and the reply. Or the store refused, which
-- had the entries that the session has then seen. The entries that the session has seen begin with the entries that it had seen
-- before.
abbrev pub HasAsked : SharedStart → Deed → Told → SessionState → SessionState → Type 0
HasAsked shared d (came.Entered at) old new = (reply : Reply) × AddsReceipt old new at d reply × BeginsWith new.seen old.seen
HasAsked shared d (came.Collected kept) old new = ⊥
HasAsked shared d (came.Refused r) old new = IsOfStore shared (entries_of new.seen) old.worker d r × HasLooked old new

-- A session asked for a vertex, an object or a subject, with this box. Without a box it asked for nothing.
abbrev pub HasMadeVertex : SharedStart → (Value → Deed) → Option Value → Told → SessionState → SessionState → Type 0
HasMadeVertex shared making (Some value) t old new = HasAsked shared (making value) t old new
HasMadeVertex shared making None t old new = (t ≡ came.Refused refusal.Stock) × KeepsReceipts old new

-- the heap was collected, or memory, room or threads were lacking
abbrev pub HasCollected : Arena → Kind → Told → Type 0
HasCollected arena k (came.Entered at) = ⊥
HasCollected arena k (came.Collected kept) = IsCountTold arena.shared arena.entries k kept
HasCollected arena k (came.Refused r) = IsUncollected arena k r

-- A session ran the line, if the lines of these workers are run. The entries that it has seen begin with the entries that it had
-- seen before.
abbrev pub HasRun : Arena → (ℕ → Bool) → Boxed → Told → SessionState → SessionState → Type 0
HasRun arena served b t old new = (more : List Receipt) × (new.worker ≡ old.worker) × (new.receipts ≡ old.receipts ++ more) × (new.handed ≡ old.handed) × RunsOne arena served b t more × BeginsWith new.seen old.seen

-- these lines were run one after the other, with these results and these receipts
abbrev pub Runs : Arena → (ℕ → Bool) → List Boxed → List Told → List Receipt → Type 0
Runs arena served [] ts rs = (ts ≡ []) × (rs ≡ [])
Runs arena served (b ∷ bs) ts rs =
    (t : Told) × (ts' : List Told) × (more : List Receipt) × (rs' : List Receipt) × (ts ≡ t ∷ ts') × (rs ≡ more ++ rs') × RunsOne arena served b t more
    × Runs arena (served_past served b.line t) bs ts' rs'

-- the line is x's own, or a collection
abbrev pub IsRunFor : ℕ → Line → Type 0
IsRunFor x (line.Edge edge) = ⊥
IsRunFor x (line.Create y label) = y ≡ x
IsRunFor x (line.Spawn y label) = y ≡ x
IsRunFor x (line.Plain y command) = y ≡ x
IsRunFor x line.Full = Unit {0}
IsRunFor x line.Minor = Unit {0}

-- If the task's line is the session's, the session ran it. This holds whichever workers' lines are run.
abbrev pub RunsTask : {P : Type 0} → SharedStart → ℕ → Bool → Task P → SessionState → SessionState → Result Told ThreadsFault → Type 0
RunsTask start helpers served task old new result =
    (before : ℕ → Bool) → before old.worker ≡ served → IsRunFor old.worker task.line →
    IfOk result (λ told. HasRun (arena_of start helpers (entries_of new.seen)) before (boxed_of task) told old new)

-- Either this is the report on a line of a session's worker. Or there is a fault, and the worker is no subject of a store that may
-- have been in the lock. That store has exactly the entries that the session has then seen.
pub record IsToldOrGone (start : SharedStart) (old new : SessionState) (IsTold : Told → Type 0) (result : Result Told ThreadsFault) : Type 0 where
  pub asked : IfOk result IsTold
  pub gone : IfErr result (λ why. (why ≡ threads.NoSuchWorker) × AtSeen start new.seen (λ s. ¬ IsSubject (graph_of_store s) old.worker))

-- the session never had a receipt
abbrev pub HadNone : SessionState → Type 0
HadNone s = (s.receipts ≡ []) × (s.handed ≡ 0)

-- the subject that a deed with this reply made, if it made one
abbrev pub subject_spawned : Deed → Reply → List ℕ
subject_spawned (deed.Spawn label law state) (reply.Name name) = name ∷ []
subject_spawned d r = []

-- the subjects that the entries of these receipts made, in their order
abbrev pub subjects_spawned : List Receipt → List ℕ
subjects_spawned receipts = flat_map (λ r. subject_spawned r.entry.deed r.entry.reply) receipts

-- Suppose that there is a fresh session for each subject that a worker's session made, by its receipts, and no other session. Then
-- this still holds after a line that has a result, so no session is lost. The new sessions went into the room that there was, and
-- are at most so many.
pub record KeepsSpawned {A E : Type 0} (most : ℕ) (before after : SessionState) (sessions sessions' : Vec SessionState A) (result : Result Told E) : Type 0 where
  pub each : IfOk result (λ told. AreFresh (subjects_spawned before.receipts) sessions.items → AreFresh (subjects_spawned after.receipts) sessions'.items)
  pub kept : vec_capacity sessions' ≡ vec_capacity sessions
  pub fits : vec_len sessions' ≤ vec_len sessions + most

-- The session of x ran all lines that its thread was given, with these results, if its lines are run. There is a session for each
-- subject that the lines made, which ran no line. None of the sessions handed out a receipt.
abbrev pub Brings : Arena → ℕ → List Boxed → Finished SessionState → Type 0
Brings arena x bs f =
    (served : ℕ → Bool) → served x ≡ true → All (λ b. IsRunFor x b.line) bs → (f.session.worker ≡ x) × Runs arena served bs f.told.items f.session.receipts × AreFresh (subjects_spawned f.session.receipts) f.spawned.items × (f.session.handed ≡ 0)

-- the arena of a session that came back, which has the entries that the session has seen
abbrev pub arena_seen : SharedStart → ℕ → Finished SessionState → Arena
arena_seen shared helpers f = arena_of shared helpers (entries_of f.session.seen)

-- The session ran these lines, or else there is a fault, which isn't the lack of a thread.
pub record RunsTasks (shared : SharedStart) (helpers x : ℕ) (bs : List Boxed) (result : Result (Finished SessionState) ThreadsFault) : Type 0 where
  pub brought : IfOk result (λ finished. Brings (arena_seen shared helpers finished) x bs finished)
  pub fault : IfErr result (λ fault. fault ≢ threads.NoThread)

-- the worker, and the lines that its thread is given
abbrev pub assigned_of : {P : Type 0} → Work SessionState P → ℕ × List Boxed
assigned_of w = (w.session.worker, lines_in w)

-- each worker, by thread, and the lines that its thread is given, which are all lines that it runs
abbrev pub all_assigned : List ℕ → List Boxed → List (ℕ × List Boxed)
all_assigned names bs = map (λ k. (slice_index names k, share_of names k bs)) (range_with_len 0 (length names))

-- the same, as a thread's handle has it
abbrev pub promised_by : {T P : Type 0} → PromisedHandle T (Assigned P) → ℕ × List Boxed
promised_by h = (h.promise.worker, map boxed_of h.promise.tasks.value.items)

-- each of them ran its lines
abbrev pub AllBring : SharedStart → ℕ → List (ℕ × List Boxed) → List (Finished SessionState) → Type 0
AllBring shared helpers [] all = all ≡ []
AllBring shared helpers (a ∷ given) all =
    (f : Finished SessionState) × (more : List (Finished SessionState)) × (all ≡ f ∷ more) × Brings (arena_seen shared helpers f) a.0 a.1 f
    × AllBring shared helpers given more

-- ---- the results with the entries of the journal

-- The lines had these results, with these entries in the journal, where the workers with these names have a thread. Each entry is at
-- the place that its result says. The lines made the entries since the store was shared, in script order, and no others.
pub record AreRaced (arena : Arena) (names : List ℕ) (bs : List Boxed) (entries : List Entry) (ts : List Told) : Type 0 where
  pub made : List Entry
  pub told : AreTold arena (is_among names) bs made (text_of_told entries ts)
  pub each : HasEach arena.entries made
  pub there : All (IsThere arena.shared.handed entries) ts

-- each place in the results is the place of an entry that the journal holds, and so is the first entry of a race, or it is its end
pub record MayTellOn (start first : ℕ) (entries : List Entry) (ts : List Told) : Type 0 where
  pub held : start ≤ first
  pub within : first ≤ length entries
  pub there : All (IsThere start entries) ts

-- the journal is whole and was audited, and each place in the results is the place of one of its entries
pub record MayTell (start : ℕ) (entries : List Entry) (ts : List Told) (audited : ℕ) : Type 0 where
  pub whole : start ≡ 0
  pub there : All (IsThere start entries) ts
  pub number : audited ≡ length entries
