-- What a session's calls come to, line by line.
use Rattle.std.proofs.Common.{◌≡◌, ◌≢◌, ◌⊎◌, inl, inr, ℕ, Bool, true, false, if◌then◌else◌, List, [], ◌∷◌, ◌++◌, Option, Some, None, Result, Ok, Err, refl, sym, ap, ◌∙◌, subst, append-nil, append_assoc, length, ◌+◌, ◌<◌, arith}
use Rattle.std.specs.Prelude.{◌↔◌, IfOk, map}
use Rattle.std.proofs.lemmas.Bool.{false≢true}
use Rattle.std.specs.List.{All}
use Rattle.std.proofs.lemmas.Grind.{flat_map-append}
use Rattle.std.proofs.lemmas.List.{length_push}
use Rattle.std.proofs.lemmas.List.Concat.{flat_map-cons}
use Rattle.std.proofs.lemmas.List.Elements.{All-head, All-nil, All-tail}
use Rattle.tg_rights.specs.RightSet.{RightSet}
use Rattle.tg_model.specs.declared.value.Value.{Value}
use Rattle.tg_model.specs.declared.command.Command.{Command}
use Rattle.tg_model.specs.declared.command.Deed.{Deed}
use Rattle.tg_model.specs.declared.command.Deed.TheVariants as deed
use Rattle.tg_model.specs.declared.reply.Reply.{Reply}
use Rattle.tg_model.specs.declared.reply.Reply.TheVariants as reply
use Rattle.tg_journal.specs.declared.entry.Entry.{Entry}
use Rattle.tg_space.specs.declared.kind.Kind.{Kind}
use Rattle.tg_text.specs.declared.line.Line.{Line}
use Rattle.tg_text.specs.declared.line.Line.TheVariants as line
use Rattle.tg_text.specs.declared.answer.Answer.{Answer}
use Rattle.tg_text.specs.declared.answer.Answer.TheVariants as answer
use Rattle.tg_text.specs.declared.answer.Refusal.{Refusal}
use Rattle.tg_text.specs.declared.answer.Refusal.TheVariants as refusal
use Rattle.tg_store.specs.Store.{StoreState}
use Rattle.tg_shared.specs.declared.receipt.Receipt.{Receipt}
use Rattle.tg_shared.specs.Receipts.{receipt_of}
use Rattle.tg_store.specs.declared.fault.CreateFault.{CreateFault}
use Rattle.tg_store.specs.declared.fault.CreateFault.TheVariants as create
use Rattle.tg_script.specs.Refusals.{create_answer}
use Rattle.tg_script.specs.Script.{create_of}
use Rattle.tg_passes.specs.declared.signed.Maker.TheVariants as maker
use Rattle.tg_passes.specs.declared.signed.Signed.{Signed}
use Rattle.tg_passes.specs.Passes.{BeginsWith, entries_of, sign}
use Rattle.tg_passes.proofs.Signing.{begins_entries, longer, whole}
use Rattle.tg_shared.specs.Sessions.{AddsReceipt, AreFresh, AtSeen, HasLooked, IsAnswered, IsFresh, KeepsReceipts, SessionState, SharedStart}
use Rattle.tg_shared.proofs.Fresh.{fresh_push}
use Rattle.tg_threads.specs.declared.threads.ThreadsFault.{ThreadsFault}
use Rattle.tg_threads.specs.declared.threads.ThreadsFault.TheVariants as threads
use Rattle.tg_threads.specs.declared.task.Told.{Told}
use Rattle.tg_threads.specs.declared.task.Told.TheVariants as came
use Rattle.tg_threads.specs.Boxes.{Boxed}
use Rattle.tg_threads.proofs.FrontLaws.{front_seen, runs_wider}
use Rattle.tg_threads.proofs.AssignedLaws.{mapped_each}
use Rattle.tg_threads.specs.Output.{Arena, AtFront, EntersOrRefuses, TellsCollection, TellsMade, IsOfStore, IsServed, Tells, arena_of}
use Rattle.tg_threads.specs.Tasks.{IsRunFor, HasAsked, HasMadeVertex, HasCollected, HasRun, RunsOne, Runs, is_deed, served_past, subject_spawned, subjects_spawned}

-- ---- why a session refuses

-- only the answers that there may be no more vertices, or no more subjects, are replies, and none is of a collection
pub replied : (why : CreateFault) (r : Reply) → create_answer why ≡ answer.Reply r → ((why ≡ create.VerticesFull) × (reply.VerticesFull ≡ r)) ⊎ ((why ≡ create.WorkersFull) × (reply.WorkersFull ≡ r))
replied create.VerticesFull r is = inl (refl, cc)
replied create.WorkersFull r is = inr (refl, cc)
replied why r is = absurd cc

pub never_collected : (why : CreateFault) (kept : Option ℕ) → answer.Collected kept ≡ create_answer why → ⊥
never_collected create.NoSuchWorker kept is = cc
never_collected why kept is = cc

-- what the session has seen after an answer begins with what it had seen
answer_grows : (start : SharedStart) (old new : SessionState) (d : Deed) (r : Reply) → IsAnswered start old new d r → BeginsWith new.seen old.seen
answer_grows start old new d r h =
    let more : List Signed = sign (maker.Session old.worker) (record { worker = old.worker; deed = d; reply = r }) ∷ [] in
    subst (λ l. BeginsWith l old.seen) (sym h.seen) (longer h.before old.seen more h.sees.front)

-- what holds of a store with exactly the entries that a session has seen holds of one with the first of these
pub heap_front : {A : Type 0} (start : SharedStart) (seen : List Signed) (P : StoreState → Type 0) → (A → AtSeen start seen P) → A → AtFront start (entries_of seen) P
heap_front start seen P told is = front_seen start seen P (told is)

-- what is reported of an answer, with its place
pub told_of_answer : (start : SharedStart) (old new : SessionState) (d : Deed) (r : Reply) (t : Told) → IsAnswered start old new d r → ((front : List Receipt) (last : Receipt) → new.receipts ≡ front ++ last ∷ [] → t ≡ came.Entered last.at) → HasAsked start d t old new
told_of_answer start old new d r t h entered =
    let e : Entry = record { worker = old.worker; deed = d; reply = r } in
    subst (λ (a : Told). HasAsked start d a old new) (sym (entered old.receipts (receipt_of (length start.entries + length h.before) e) h.receipt.1)) (r, h.receipt, answer_grows start old new d r h)

-- What a deed comes to that made no vertex, of a worker that is a subject: what a script gets, and no receipt, or the
-- entry.
pub vertex_not_made : (start : SharedStart) (d : Deed) (why : CreateFault) (t : Told) (old new : SessionState) → (why ≡ create.HeapFull → IsOfStore start (entries_of new.seen) old.worker d refusal.Heap) → why ≢ create.NoSuchWorker →
    (why ≡ create.VerticesFull → IsAnswered start old new d reply.VerticesFull) → (why ≡ create.WorkersFull → IsAnswered start old new d reply.WorkersFull) → (why ≢ create.VerticesFull → why ≢ create.WorkersFull → HasLooked old new) →
    ((r : Refusal) → create_answer why ≡ answer.Refused r → t ≡ came.Refused r) →
    ((r : Reply) → create_answer why ≡ answer.Reply r → (front : List Receipt) (last : Receipt) → new.receipts ≡ front ++ last ∷ [] → t ≡ came.Entered last.at) → HasAsked start d t old new
vertex_not_made start d create.NoSuchWorker t old new makes there full crowded kept refused entered = absurd (there refl)
vertex_not_made start d create.VerticesFull t old new makes there full crowded kept refused entered = told_of_answer start old new d reply.VerticesFull t (full refl) (entered reply.VerticesFull refl)
vertex_not_made start d create.WorkersFull t old new makes there full crowded kept refused entered = told_of_answer start old new d reply.WorkersFull t (crowded refl) (entered reply.WorkersFull refl)
vertex_not_made start d create.OutOfMemory t old new makes there full crowded kept refused entered =
    subst (λ (a : Told). HasAsked start d a old new) (sym (refused refusal.Memory refl)) (tt, kept (λ e. let no : ⊥ = cc in no) (λ e. let no : ⊥ = cc in no))
vertex_not_made start d create.HeapFull t old new makes there full crowded kept refused entered =
    subst (λ (a : Told). HasAsked start d a old new) (sym (refused refusal.Heap refl)) (makes refl, kept (λ e. let no : ⊥ = cc in no) (λ e. let no : ⊥ = cc in no))

-- the same of what a session that made no vertex gets, where it gets anything
pub not_made_asked : (start : SharedStart) (d : Deed) (why : CreateFault) (r : Result Told ThreadsFault) (old new : SessionState) → (why ≡ create.HeapFull → IsOfStore start (entries_of new.seen) old.worker d refusal.Heap) → ((r ≡ Err threads.NoSuchWorker) ↔ (why ≡ create.NoSuchWorker)) →
    (why ≡ create.VerticesFull → IsAnswered start old new d reply.VerticesFull) → (why ≡ create.WorkersFull → IsAnswered start old new d reply.WorkersFull) → (why ≢ create.VerticesFull → why ≢ create.WorkersFull → HasLooked old new) →
    ((x : Refusal) → create_answer why ≡ answer.Refused x → IfOk r (λ t. t ≡ came.Refused x)) →
    ((x : Reply) → create_answer why ≡ answer.Reply x → (front : List Receipt) (last : Receipt) → new.receipts ≡ front ++ last ∷ [] → IfOk r (λ t. t ≡ came.Entered last.at)) → IfOk r (λ t. HasAsked start d t old new)
not_made_asked start d why (Err f) old new makes fault full crowded kept refused entered = tt
not_made_asked start d why (Ok t) old new makes fault full crowded kept refused entered =
    vertex_not_made start d why t old new makes (λ is. let same : ◌≡◌ {A = Result Told ThreadsFault} (Ok t) (Err threads.NoSuchWorker) = fault.1 is in let no : ⊥ = cc in no) full crowded kept refused entered

-- ---- the subjects that a worker made

-- one receipt more tells of the subject that its deed made
pub more_subjects : (old new : SessionState) (at : ℕ) (d : Deed) (r : Reply) → AddsReceipt old new at d r → subjects_spawned new.receipts ≡ subjects_spawned old.receipts ++ subject_spawned d r
more_subjects old new at d r adds =
    let made : Receipt → List ℕ = λ x. subject_spawned x.entry.deed x.entry.reply in
    let last : Receipt = receipt_of at (record { worker = old.worker; deed = d; reply = r }) in
    ap subjects_spawned adds.1 ∙ flat_map-append made old.receipts (last ∷ []) ∙ ap (λ (l : List ℕ). subjects_spawned old.receipts ++ l) (flat_map-cons made last [] ∙ append-nil (subject_spawned d r))

-- and of none where it made none
no_subject : (old new : SessionState) (at : ℕ) (d : Deed) (r : Reply) → subject_spawned d r ≡ [] → AddsReceipt old new at d r → subjects_spawned new.receipts ≡ subjects_spawned old.receipts
no_subject old new at d r none adds = more_subjects old new at d r adds ∙ ap (λ (l : List ℕ). subjects_spawned old.receipts ++ l) none ∙ append-nil (subjects_spawned old.receipts)

full_none : (d : Deed) → subject_spawned d reply.VerticesFull ≡ []
full_none (deed.Create label law state) = refl
full_none d = refl

crowded_none : (d : Deed) → subject_spawned d reply.WorkersFull ≡ []
crowded_none (deed.Create label law state) = refl
crowded_none d = refl

asked_none : (start : SharedStart) (d : Deed) → ((r : Reply) → subject_spawned d r ≡ []) → (t : Told) (old new : SessionState) → HasAsked start d t old new → subjects_spawned new.receipts ≡ subjects_spawned old.receipts
asked_none start d none (came.Entered at) old new h = no_subject old new at d h.0 (none h.0) h.1
asked_none start d none (came.Collected kept) old new h = absurd h
asked_none start d none (came.Refused r) old new h = ap subjects_spawned h.1.kept.1

made_none : (start : SharedStart) (making : Value → Deed) → ((value : Value) (r : Reply) → subject_spawned (making value) r ≡ []) → (box : Option Value) (t : Told) (old new : SessionState) → HasMadeVertex start making box t old new → subjects_spawned new.receipts ≡ subjects_spawned old.receipts
made_none start making none None t old new h = ap subjects_spawned h.1.1
made_none start making none (Some value) t old new h = asked_none start (making value) (none value) t old new h

-- a spawn that made no subject leaves them
pub not_spawned : (start : SharedStart) (d : Deed) (why : CreateFault) (old new : SessionState) → (why ≡ create.VerticesFull → IsAnswered start old new d reply.VerticesFull) → (why ≡ create.WorkersFull → IsAnswered start old new d reply.WorkersFull) →
    (why ≢ create.VerticesFull → why ≢ create.WorkersFull → HasLooked old new) → subjects_spawned new.receipts ≡ subjects_spawned old.receipts
not_spawned start d create.VerticesFull old new full crowded kept = let h = full refl in no_subject old new _ d reply.VerticesFull (full_none d) h.receipt
not_spawned start d create.WorkersFull old new full crowded kept = let h = crowded refl in no_subject old new _ d reply.WorkersFull (crowded_none d) h.receipt
not_spawned start d why old new full crowded kept = ap subjects_spawned (kept (λ e. let no : ⊥ = cc in no) (λ e. let no : ⊥ = cc in no)).kept.1

pub ok_where : {T E : Type 0} (r : Result T E) (Q : Type 0) → Q → IfOk r (λ _. Q)
ok_where (Ok t) Q held = held
ok_where (Err e) Q held = tt

-- their sessions are those that there were
pub still_each : (old new : SessionState) (sessions : List SessionState) → subjects_spawned new.receipts ≡ subjects_spawned old.receipts → AreFresh (subjects_spawned old.receipts) sessions → AreFresh (subjects_spawned new.receipts) sessions
still_each old new sessions same fresh = subst (λ (names : List ℕ). AreFresh names sessions) (sym same) fresh

pub plain_each : (start : SharedStart) (command : Command) (t : Told) (old new : SessionState) (sessions : List SessionState) → HasAsked start (deed.Plain command) t old new → AreFresh (subjects_spawned old.receipts) sessions → AreFresh (subjects_spawned new.receipts) sessions
plain_each start command t old new sessions h = still_each old new sessions (asked_none start (deed.Plain command) (λ r. refl) t old new h)

pub create_each : (start : SharedStart) (label : RightSet) (box : Option Value) (t : Told) (old new : SessionState) (sessions : List SessionState) → HasMadeVertex start (create_of label) box t old new → AreFresh (subjects_spawned old.receipts) sessions → AreFresh (subjects_spawned new.receipts) sessions
create_each start label box t old new sessions h = still_each old new sessions (made_none start (create_of label) (λ value r. refl) box t old new h)

-- one more of a subject that was made
pub one_spawned : (old new fresh : SessionState) (at : ℕ) (d : Deed) (r : Reply) (sessions : List SessionState) → subject_spawned d r ≡ fresh.worker ∷ [] → AddsReceipt old new at d r → IsFresh fresh → AreFresh (subjects_spawned old.receipts) sessions →
    AreFresh (subjects_spawned new.receipts) (sessions ++ fresh ∷ [])
one_spawned old new fresh at d r sessions made adds none had =
    subst (λ (names : List ℕ). AreFresh names (sessions ++ fresh ∷ [])) (sym (more_subjects old new at d r adds ∙ ap (λ (l : List ℕ). subjects_spawned old.receipts ++ l) made))
    (fresh_push (subjects_spawned old.receipts) fresh.worker sessions fresh had refl none)

-- who was answered has a receipt
pub has_receipt : (old new : List Receipt) (r : Receipt) → new ≡ old ++ r ∷ [] → 0 < length new
has_receipt old new r is = subst (λ (rs : List Receipt). 0 < length rs) (sym is) (omega (arith, length_push old r))

-- at first there is none
pub none_spawned : (receipts : List Receipt) (sessions : List SessionState) → receipts ≡ [] → sessions ≡ [] → AreFresh (subjects_spawned receipts) sessions
none_spawned receipts sessions none empty =
    subst (λ (rs : List Receipt). AreFresh (subjects_spawned rs) sessions) (sym none) (subst (λ (ss : List SessionState). AreFresh [] ss) (sym empty) (refl, All-nil IsFresh))

-- ---- one line

-- a session that keeps its receipts gets none
none_more : (old new : SessionState) → KeepsReceipts old new → (new.worker ≡ old.worker) × (new.receipts ≡ old.receipts ++ []) × (new.handed ≡ old.handed)
none_more old new keeps = (keeps.0, keeps.1 ∙ sym (append-nil old.receipts), keeps.2)

looked_none : (old new : SessionState) → HasLooked old new → (new.worker ≡ old.worker) × (new.receipts ≡ old.receipts ++ []) × (new.handed ≡ old.handed)
looked_none old new looked = (looked.kept.0, looked.kept.1 ∙ sym (append-nil old.receipts), looked.kept.2)

-- the line's worker is the session's, whose lines are run
served_by : (x : ℕ) (served : ℕ → Bool) (old : SessionState) → x ≡ old.worker → served old.worker ≡ true → served x ≡ true
served_by x served old by is = subst (λ n. served n ≡ true) (sym by) is

as_served : (b : Bool) (asked : Type 0) (e : Option Entry) (a : Answer) → b ≡ true → asked → IsServed b asked e a
as_served true asked e a is h = h
as_served false asked e a is h = absurd (false≢true is)

-- the entry of a deed, and a refusal of the store, as a line of x is reported of them
asked_told : (arena : Arena) (x : ℕ) (served : ℕ → Bool) (d : Deed) (e : Option Entry) (a : Answer) (old : SessionState) → x ≡ old.worker → served old.worker ≡ true → EntersOrRefuses arena.shared arena.entries old.worker d e a → IsServed (served x) (EntersOrRefuses arena.shared arena.entries x d e a) e a
asked_told arena x served d e a old by is h =
    as_served (served x) (EntersOrRefuses arena.shared arena.entries x d e a) e a (served_by x served old by is) (subst (λ n. EntersOrRefuses arena.shared arena.entries n d e a) (sym by) h)

-- the arena as the session has it
abbrev pub arena_now : SharedStart → ℕ → SessionState → Arena
arena_now shared helpers s = arena_of shared helpers (entries_of s.seen)

-- a line for which the session asked for a deed
told_runs : (shared : SharedStart) (helpers : ℕ) (served : ℕ → Bool) (b : Boxed) (d : Deed) (t : Told) (old new : SessionState) →
    ((e : Option Entry) (a : Answer) → EntersOrRefuses shared (entries_of new.seen) old.worker d e a → Tells (arena_now shared helpers new) served b.line b.value e a) →
    HasAsked shared d t old new → HasRun (arena_now shared helpers new) served b t old new
told_runs shared helpers served b d (came.Entered at) old new tells h =
    let e : Entry = record { worker = old.worker; deed = d; reply = h.0 } in
    (receipt_of at e ∷ [], h.1.0, h.1.1, h.1.2, (e, refl, tells (Some e) (answer.Reply h.0) (refl, refl, refl)), h.2)
told_runs shared helpers served b d (came.Collected kept) old new tells h = absurd h
told_runs shared helpers served b d (came.Refused r) old new tells h =
    let k = looked_none old new h.1 in
    ([], k.0, k.1, k.2, (refl, tells None (answer.Refused r) (r, h.0, refl)), h.1.grown)

pub asked_runs : (shared : SharedStart) (helpers x : ℕ) (served : ℕ → Bool) (command : Command) (box : Option Value) (t : Told) (old new : SessionState) → served old.worker ≡ true → x ≡ old.worker →
    HasAsked shared (deed.Plain command) t old new → HasRun (arena_now shared helpers new) served (record { line = line.Plain x command; value = box }) t old new
asked_runs shared helpers x served command box t old new is by =
    told_runs shared helpers served (record { line = line.Plain x command; value = box }) (deed.Plain command) t old new
    (λ e a told. asked_told (arena_now shared helpers new) x served (deed.Plain command) e a old by is told)

-- the same of a deed that makes a vertex
pub made_runs : (shared : SharedStart) (helpers x : ℕ) (served : ℕ → Bool) (b : Boxed) (making : Value → Deed) (t : Told) (old new : SessionState) → served old.worker ≡ true → x ≡ old.worker →
    ((e : Option Entry) (a : Answer) → IsServed (served x) (TellsMade shared (entries_of new.seen) x making b.value e a) e a → Tells (arena_now shared helpers new) served b.line b.value e a) →
    HasMadeVertex shared making b.value t old new → HasRun (arena_now shared helpers new) served b t old new
made_runs shared helpers x served b making t old new is same tells h = by_box b.value refl h where
  on : served x ≡ true
  on = served_by x served old same is

  by_box : (box : Option Value) → b.value ≡ box → HasMadeVertex shared making box t old new → HasRun (arena_now shared helpers new) served b t old new
  by_box None none h =
      let k = none_more old new h.1 in
      let told : Tells (arena_now shared helpers new) served b.line b.value None (answer.Refused refusal.Stock) = tells None (answer.Refused refusal.Stock)
      (as_served (served x) (TellsMade shared (entries_of new.seen) x making b.value None (answer.Refused refusal.Stock)) None (answer.Refused refusal.Stock) on
      (subst (λ box. TellsMade shared (entries_of new.seen) x making box None (answer.Refused refusal.Stock)) (sym none) (refl, refl))) in
      ([], k.0, k.1, k.2, subst (λ a. RunsOne (arena_now shared helpers new) served b a []) (sym h.0) (refl, told), subst (λ l. BeginsWith l old.seen) (sym h.1.6) (whole old.seen))
  by_box (Some value) some h = told_runs shared helpers served b (making value) t old new as_told h where
    as_told : (e : Option Entry) (a : Answer) → EntersOrRefuses shared (entries_of new.seen) old.worker (making value) e a → Tells (arena_now shared helpers new) served b.line b.value e a
    as_told e a h =
        tells e a (as_served (served x) (TellsMade shared (entries_of new.seen) x making b.value e a) e a on
        (subst (λ box. TellsMade shared (entries_of new.seen) x making box e a) (sym some) (subst (λ n. EntersOrRefuses shared (entries_of new.seen) n (making value) e a) (sym same) h)))

-- a line that isn't refused, and asks for a deed, is of a worker whose lines are run
pub served_of : (served : Bool) (l : Line) (refused : Bool) → refused ≡ (if served then false else is_deed l) → refused ≡ false → is_deed l ≡ true → served ≡ true
served_of true l refused is not_refused asks = refl
served_of false l refused is not_refused asks = absurd (false≢true (sym not_refused ∙ is ∙ asks))

-- a collection
pub collected_runs : (arena : Arena) (served : ℕ → Bool) (b : Boxed) (k : Kind) (t : Told) (old new : SessionState) → ((e : Option Entry) (a : Answer) → TellsCollection arena k e a → Tells arena served b.line b.value e a) → HasCollected arena k t → HasLooked old new → HasRun arena served b t old new
collected_runs arena served b k (came.Entered at) old new tells h looked = absurd h
collected_runs arena served b k (came.Collected kept) old new tells h looked = let n = looked_none old new looked in ([], n.0, n.1, n.2, (refl, tells None (answer.Collected kept) (refl, inl (kept, h, refl))), looked.grown)
collected_runs arena served b k (came.Refused r) old new tells h looked = let n = looked_none old new looked in ([], n.0, n.1, n.2, (refl, tells None (answer.Refused r) (refl, inr (r, h, refl))), looked.grown)

-- and it made no subject
pub looked_each : (old new : SessionState) (sessions : List SessionState) → HasLooked old new → AreFresh (subjects_spawned old.receipts) sessions → AreFresh (subjects_spawned new.receipts) sessions
looked_each old new sessions looked = still_each old new sessions (ap subjects_spawned looked.kept.1)

-- ---- many lines

-- whose lines are run after all of them
abbrev pub served_after : (ℕ → Bool) → List Boxed → List Told → ℕ → Bool
served_after served (b ∷ bs) (t ∷ ts) = served_after (served_past served b.line t) bs ts
served_after served bs ts = served

-- one line more
pub runs_more : (arena : Arena) (served : ℕ → Bool) (bs : List Boxed) (ts : List Told) (rs : List Receipt) (b : Boxed) (t : Told) (more : List Receipt) → Runs arena served bs ts rs → RunsOne arena (served_after served bs ts) b t more →
    Runs arena served (bs ++ b ∷ []) (ts ++ t ∷ []) (rs ++ more) × (served_after served (bs ++ b ∷ []) (ts ++ t ∷ []) ≡ served_past (served_after served bs ts) b.line t)
runs_more arena served [] ts rs b t more h one = (
  (t, [], more, [], ap (λ x. x ++ t ∷ []) h.0, ap (λ x. x ++ more) h.1 ∙ sym (append-nil more), one, (refl, refl)),
  ap (λ us. served_after served (b ∷ []) (us ++ t ∷ [])) h.0,
)
runs_more arena served (b' ∷ bs) ts rs b t more h one =
    let one' : RunsOne arena (served_after (served_past served b'.line h.0) bs h.1) b t more = subst (λ us. RunsOne arena (served_after served (b' ∷ bs) us) b t more) h.4 one in
    let rest = runs_more arena (served_past served b'.line h.0) bs h.1 h.3 b t more h.7 one' in (
      (h.0, h.1 ++ t ∷ [], h.2, h.3 ++ more, ap (λ x. x ++ t ∷ []) h.4, ap (λ x. x ++ more) h.5 ∙ append_assoc h.2 h.3 more, h.6, rest.0),
      ap (λ us. served_after served (b' ∷ (bs ++ b ∷ [])) (us ++ t ∷ [])) h.4 ∙ rest.1 ∙ ap (λ us. served_past (served_after served (b' ∷ bs) us) b.line t) (sym h.4),
    )

-- what holds of all of them holds of the one that comes next
pub all_next : {X : Type 0} (P : X → Type 0) (xs : List X) (x : X) (ys all : List X) → (xs ++ x ∷ []) ++ ys ≡ all → All P all → P x
all_next {X = X} P xs x ys all is h = go xs (subst (All P) (sym is) h) where
  go : (xs : List X) → All P ((xs ++ x ∷ []) ++ ys) → P x
  go [] all = All-head P x ys all
  go (y ∷ xs) all = go xs (All-tail P y ((xs ++ x ∷ []) ++ ys) all)

pub mapped_at : {X Y : Type 0} (f : X → Y) (P : Y → Type 0) (xs : List X) (x : X) (ys all : List X) → (xs ++ x ∷ []) ++ ys ≡ all → All P (map f all) → P (f x)
mapped_at f P xs x ys all is h = all_next (λ x. P (f x)) xs x ys all is (mapped_each f P all h)

-- Lines of worker x were run, came to this, and its lines are run after them or not. At first the lines of these workers were run.
pub record HasRunSo (shared : SharedStart) (helpers : ℕ) (first : ℕ → Bool) (x : ℕ) (served : Bool) (bs : List Boxed) (ts : List Told) (s : SessionState) : Type 0 where
  pub worker : s.worker ≡ x
  pub handed : s.handed ≡ 0
  pub runs : Runs (arena_now shared helpers s) first bs ts s.receipts
  pub behind : served_after first bs ts x ≡ served

-- a session ran one line more
pub run_more : (shared : SharedStart) (helpers : ℕ) (first : ℕ → Bool) (x : ℕ) (served next : Bool) (bs : List Boxed) (ts : List Told) (old new : SessionState) (b : Boxed) (t : Told) → HasRunSo shared helpers first x served bs ts old → IsRunFor x b.line →
    ((before : ℕ → Bool) → before old.worker ≡ served → IsRunFor old.worker b.line → HasRun (arena_now shared helpers new) before b t old new) →
    ((before : ℕ → Bool) → before new.worker ≡ served → next ≡ served_past before b.line t new.worker) → HasRunSo shared helpers first x next (bs ++ b ∷ []) (ts ++ t ∷ []) new
run_more shared helpers first x served next bs ts old new b t held by step past =
    let before : ℕ → Bool = served_after first bs ts in
    let h = step before (ap before held.worker ∙ held.behind) (subst (λ n. IsRunFor n b.line) (sym held.worker) by) in
    let worker : new.worker ≡ x = h.1 ∙ held.worker in
    let runs = runs_wider shared helpers (entries_of old.seen) (entries_of new.seen) (begins_entries new.seen old.seen h.5) first bs ts old.receipts held.runs in
    let more = runs_more (arena_now shared helpers new) first bs ts old.receipts b t h.0 runs h.4 in
    record {
      worker = worker;
      handed = h.3 ∙ held.handed;
      runs = subst (λ r. Runs (arena_now shared helpers new) first (bs ++ b ∷ []) (ts ++ t ∷ []) r) (sym h.2) more.0;
      behind = (λ i. more.1 i x) ∙ ap (λ n. served_past before b.line t n) (sym worker) ∙ sym (past before (ap before worker ∙ held.behind));
    }
