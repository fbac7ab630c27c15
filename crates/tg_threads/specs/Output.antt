-- The text that is written for a script whose workers run their lines side by side. These definitions leave out threads, and how
-- replies are kept and written. Of the lock they say only that some store may have been in it.
use Rattle.std.specs.Prelude.{◌≡◌, ◌≢◌, ◌⊎◌, ℕ, ◌+◌, ◌-◌, ◌==◌, Bool, true, false, if◌then◌else◌, nat_lt, List, [], ◌∷◌, ◌++◌, length, Option, Some, None}
use Rattle.std.specs.List.{All, filter, flat_map}
use Rattle.std.specs.Option.{option_to_list}
use Rattle.tg_model.specs.declared.value.Value.{Value}
use Rattle.tg_model.specs.declared.command.Command.TheVariants.{Retire}
use Rattle.tg_model.specs.declared.command.Deed.{Deed}
use Rattle.tg_model.specs.declared.command.Deed.TheVariants as deed
use Rattle.tg_model.specs.declared.reply.Reply.TheVariants as reply
use Rattle.tg_model.specs.Graph.{ProtectionGraph}
use Rattle.tg_model.specs.Opened.{IsPlan, Plan}
use Rattle.tg_model.specs.Rules.{IsAllowed}
use Rattle.tg_word.specs.Word.{nursery_space}
use Rattle.tg_space.specs.declared.kind.Kind.{Kind}
use Rattle.tg_space.specs.declared.kind.Kind.TheVariants as kind
use Rattle.tg_graph.specs.Heap.{nursery_of}
use Rattle.tg_rows.specs.Spots.{LacksCellsFor}
use Rattle.tg_rules.specs.Effect.{AddsEdge, LacksCellsToServe}
use Rattle.tg_store.specs.Collecting.{IsSwept}
use Rattle.tg_store.specs.Room.{LacksRoomToCollect}
use Rattle.tg_store.specs.Origin.{Origin, opened_by}
use Rattle.tg_store.specs.Store.{StoreState, graph_of_store}
use Rattle.tg_passes.specs.Passes.{BeginsWith}
use Rattle.tg_shared.specs.Sessions.{AtSome, SharedStart, since, start_of_store}
use Rattle.tg_journal.specs.declared.entry.Entry.{Entry}
use Rattle.tg_journal.specs.History.{IsLegal}
use Rattle.tg_entries.specs.Texts.{entry_text, history_text}
use Rattle.tg_entries.specs.Texts as history
use Rattle.tg_text.specs.declared.line.Line.{Line}
use Rattle.tg_text.specs.declared.line.Line.TheVariants as line
use Rattle.tg_text.specs.declared.answer.Answer.{Answer}
use Rattle.tg_text.specs.declared.answer.Answer.TheVariants as told
use Rattle.tg_text.specs.declared.answer.Refusal.{Refusal}
use Rattle.tg_text.specs.declared.answer.Refusal.TheVariants as refusal
use Rattle.tg_text.specs.Texts.{answer_text}
use Rattle.tg_script.specs.declared.going.RunOn.{RunOn}
use Rattle.tg_script.specs.Entering.{plan_of}
use Rattle.tg_script.specs.Script.{IsOutput, MayWant, Start, commands_of, create_of, scene_of, spawn_of}
use Rattle.tg_threads.specs.Boxes.{Boxed, boxed}
use Rattle.tg_threads.specs.Shares.{is_among}
use Rattle.tg_threads.specs.Telling.{end_text}

-- ---- what the lines are run in

-- a store that was shared, of which each collection is made by so many helpers, and the entries that it got since
pub record Arena : Type 0 where
  pub shared : SharedStart
  pub helpers : ℕ
  pub entries : List Entry

abbrev pub arena_of : SharedStart → ℕ → List Entry → Arena
arena_of shared helpers entries = record { shared = shared; helpers = helpers; entries = entries }

-- This holds of some store that may have been in the lock. Its entries since it was shared are the first of these entries.
abbrev pub AtFront : SharedStart → List Entry → (StoreState → Type 0) → Type 0
AtFront shared entries holds = AtSome shared (λ s. BeginsWith entries (since shared s) × holds s)

-- A collection left so many vertices. Two stores with the same entries may have been in the lock, and it made the second out of the
-- first.
abbrev pub LeavesAtFront : SharedStart → List Entry → Kind → ℕ → Type 0
LeavesAtFront shared entries k number = AtFront shared entries (λ old. AtFront shared entries (λ new. (new.entries ≡ old.entries) × IsSwept k old new number))

-- the store had this opening, so many blocks at most, and no entry when it was shared
pub record IsNewStore (opening : Origin) (blocks : ℕ) (shared : SharedStart) : Type 0 where
  pub opened : shared.opening ≡ opening
  pub limits : shared.limits.max_blocks ≡ blocks
  pub none : shared.entries ≡ []

-- ---- whose lines are run

-- the opening workers have a thread each, and nobody else has one
abbrev pub has_thread : ℕ → ℕ → Bool
has_thread workers x = nat_lt x workers

-- the line is a retire of x
abbrev pub is_retire_of : ℕ → Line → Bool
is_retire_of x (line.Plain y Retire) = y == x
is_retire_of x l = false

-- The workers whose lines are run after this line. A worker's lines aren't run any more if this line is its retire and has its
-- entry.
abbrev pub served_behind : (ℕ → Bool) → Line → Option Entry → ℕ → Bool
served_behind served l None = served
served_behind served l (Some e) = λ x. if is_retire_of x l then false else served x

-- ---- the report on one line, which is the entry that it made, if any, and the answer

-- refused, without an entry
abbrev pub IsRefused : Refusal → Option Entry → Answer → Type 0
IsRefused r e a = (e ≡ None) × (a ≡ told.Refused r)

-- the nursery of x lacks the cells that the deed asks for, and can't get them. Only a deed that adds an edge or makes a vertex asks
-- for cells
abbrev pub LacksCellsOf : StoreState → ℕ → Deed → Type 0
LacksCellsOf s x (deed.Create label law state) = LacksCellsFor s.heap.table (nursery_space (nursery_of s.heap x)) 1 x (graph_of_store s).made
LacksCellsOf s x (deed.Spawn label law state) = LacksCellsFor s.heap.table (nursery_space (nursery_of s.heap x)) 1 x (graph_of_store s).made
LacksCellsOf s x (deed.Plain command) = AddsEdge command × LacksCellsToServe s.heap.table (nursery_of s.heap x) x command

-- The store refused this deed of a worker that is a subject. Either memory ran out, or room in the heap ran out. In the second case
-- a store with the first of these entries allowed the deed, and lacked cells for it.
abbrev pub IsOfStore : SharedStart → List Entry → ℕ → Deed → Refusal → Type 0
IsOfStore shared entries x d refusal.Memory = Unit {0}
IsOfStore shared entries x d refusal.Heap = AtFront shared entries (λ s. IsAllowed (graph_of_store s) x d × LacksCellsOf s x d)
IsOfStore shared entries x d refusal.Worker = ⊥
IsOfStore shared entries x d refusal.Vertices = ⊥
IsOfStore shared entries x d refusal.Workers = ⊥
IsOfStore shared entries x d refusal.Threads = ⊥
IsOfStore shared entries x d refusal.Stock = ⊥

-- x asked for the deed. Either its entry has both, and the answer is the entry's reply, or the store refused
abbrev pub EntersOrRefuses : SharedStart → List Entry → ℕ → Deed → Option Entry → Answer → Type 0
EntersOrRefuses shared entries x d (Some e) a = (e.worker ≡ x) × (e.deed ≡ d) × (a ≡ told.Reply e.reply)
EntersOrRefuses shared entries x d None a = (r : Refusal) × IsOfStore shared entries x d r × (a ≡ told.Refused r)

-- x asked for a vertex, an object or a subject, with this box or with none
abbrev pub TellsMade : SharedStart → List Entry → ℕ → (Value → Deed) → Option Value → Option Entry → Answer → Type 0
TellsMade shared entries x making (Some value) e a = EntersOrRefuses shared entries x (making value) e a
TellsMade shared entries x making None e a = IsRefused refusal.Stock e a

-- this is reported if the worker's lines are run, and else that there is no such worker
abbrev pub IsServed : Bool → Type 0 → Option Entry → Answer → Type 0
IsServed true asked e a = asked
IsServed false asked e a = IsRefused refusal.Worker e a

-- the number of vertices that a collection reports. A full collection reports how many it left of a store with the first of these
-- entries. A nursery collection reports none
abbrev pub IsCountTold : SharedStart → List Entry → Kind → Option ℕ → Type 0
IsCountTold shared entries kind.Full kept = (n : ℕ) × LeavesAtFront shared entries kind.Full n × (kept ≡ Some n)
IsCountTold shared entries kind.Nursery kept = kept ≡ None

-- A collection was refused: a store with the first of the arena's entries lacked room in the heap, or else memory or threads were lacking.
pub record IsUncollected (arena : Arena) (k : Kind) (r : Refusal) : Type 0 where
  pub want : MayWant arena.helpers r
  pub full : r ≡ refusal.Heap → AtFront arena.shared arena.entries (λ s. LacksRoomToCollect k arena.helpers s.heap)

-- a collection has no entry
abbrev pub TellsCollection : Arena → Kind → Option Entry → Answer → Type 0
TellsCollection arena k e a =
    (e ≡ None) × (((kept : Option ℕ) × IsCountTold arena.shared arena.entries k kept × (a ≡ told.Collected kept)) ⊎ ((r : Refusal) × IsUncollected arena k r × (a ≡ told.Refused r)))

-- The report on a line, if the lines of these workers are run.
abbrev pub Tells : Arena → (ℕ → Bool) → Line → Option Value → Option Entry → Answer → Type 0
Tells arena served (line.Edge edge) box e a = ⊥
Tells arena served (line.Create x label) box e a = IsServed (served x) (TellsMade arena.shared arena.entries x (create_of label) box e a) e a
Tells arena served (line.Spawn x label) box e a = IsServed (served x) (TellsMade arena.shared arena.entries x (spawn_of label) box e a) e a
Tells arena served (line.Plain x command) box e a = IsServed (served x) (EntersOrRefuses arena.shared arena.entries x (deed.Plain command) e a) e a
Tells arena served line.Full box e a = TellsCollection arena kind.Full e a
Tells arena served line.Minor box e a = TellsCollection arena kind.Nursery e a

-- ---- what is written for all of them

-- these are the entries that the lines made, in script order, and this is the text, if the lines of these workers are run
abbrev pub AreTold : Arena → (ℕ → Bool) → List Boxed → List Entry → List ℕ → Type 0
AreTold arena served [] made text = (made ≡ []) × (text ≡ [])
AreTold arena served (b ∷ bs) made text =
    (e : Option Entry) × (a : Answer) × (more : List Entry) × (rest : List ℕ) × Tells arena served b.line b.value e a
    × (made ≡ option_to_list e ++ more) × (text ≡ answer_text a ++ rest) × AreTold arena (served_behind served b.line e) bs more rest

-- The history has exactly these entries, and the entries of each worker in this order. Entries of different workers may be in any
-- order.
abbrev pub HasEach : List Entry → List Entry → Type 0
HasEach entries made = (x : ℕ) → filter (λ e. e.worker == x) entries ≡ filter (λ e. e.worker == x) made

-- the text that is written of a race, by its opening, its entries and the replies to its lines
abbrev pub RaceText : Type 0
RaceText = Plan → List Entry → List ℕ → List ℕ

-- the text that is written of a race from a history on, by how many entries there are with those of the history, by the entries of
-- the race, and by the replies to its lines
abbrev pub RaceTextOn : Type 0
RaceTextOn = ℕ → List Entry → List ℕ → List ℕ

-- the replies, and after them how many entries there are
abbrev pub reply_race : RaceText
reply_race p entries replies = replies ++ end_text (length entries)

-- the text of the history
abbrev pub entry_race : RaceText
entry_race p entries replies = history_text p entries

-- the replies, and after them how many entries there are with those of the history
abbrev pub reply_race_on : RaceTextOn
reply_race_on total entries replies = replies ++ end_text total

-- the text of the entries, which goes on with the text of the history
abbrev pub entry_race_on : RaceTextOn
entry_race_on total entries replies = flat_map entry_text entries ++ history.end_text total

-- The lines were raced from this graph on. The entries since then are a legal history. Each command line has one of them or none,
-- and there are no other entries. The entries of each worker are in script order. The replies are in script order too. A command
-- line with an entry has the reply of its entry, and a command line without an entry has a refusal. A collection has one line. A
-- refusal for room in the heap comes from a store that may have been in the lock with the first of these entries. So does the number
-- of a collection. These workers have a thread, and nobody else has one.
pub record IsRaceRun (graph : ProtectionGraph) (arena : Arena) (served : ℕ → Bool) (bs : List Boxed) (made : List Entry) (replies : List ℕ) : Type 0 where
  pub legal : IsLegal graph arena.entries
  pub told : AreTold arena served bs made replies
  pub each : HasEach arena.entries made

-- The text may be written for these lines. Their opening is accepted, and the lines were raced in a store of it. The store was a new
-- store of that opening when it was shared. The text is made of the entries and the replies.
pub record IsRaceOutput (race_text : RaceText) (start : Start) (lines : List Line) (text : List ℕ) : Type 0 where
  pub shared : SharedStart
  pub entries : List Entry
  pub made : List Entry
  pub replies : List ℕ
  pub new : IsNewStore (opened_by (plan_of start lines)) start.blocks shared
  pub plan : IsPlan (plan_of start lines)
  pub run : IsRaceRun (scene_of start lines).graph (arena_of shared start.helpers entries) (has_thread start.workers) (boxed start.stock (commands_of lines)) made replies
  pub text_is : text ≡ race_text (plan_of start lines) entries replies

-- how many entries a history has after which a run goes on
abbrev pub count_before : {P : Type 0} → RunOn P → ℕ
count_before from = length from.store.entries - from.skipped

-- The text may be written for these command lines after a history. The lines were raced in the store after the history, each of whose
-- active subjects has a thread. The text counts the entries of the history too.
pub record IsRaceOutputOn {P : Type 0} (race_text : RaceTextOn) (from : RunOn P) (lines : List Line) (text : List ℕ) : Type 0 where
  pub entries : List Entry
  pub made : List Entry
  pub replies : List ℕ
  pub run : IsRaceRun (graph_of_store from.store) (arena_of (start_of_store from.store) from.helpers entries) (is_among (graph_of_store from.store).subjects) (boxed from.stock.items lines) made replies
  pub text_is : text ≡ race_text (count_before from + length entries) entries replies

-- ---- if there is one worker

-- a command line of worker 0
abbrev pub IsOfFirst : Line → Type 0
IsOfFirst (line.Edge edge) = ⊥
IsOfFirst (line.Create x label) = x ≡ 0
IsOfFirst (line.Spawn x label) = x ≡ 0
IsOfFirst (line.Plain x command) = x ≡ 0
IsOfFirst line.Full = ⊥
IsOfFirst line.Minor = ⊥

-- All lines are commands of worker 0, and each has its entry. No answer is that no more vertices may be made, or that no more
-- subjects may be active.
pub record IsOfOneThread (lines : List Line) (made : List Entry) : Type 0 where
  pub first : All IsOfFirst lines
  pub entered : length made ≡ length lines
  pub room : All (λ e. (e.reply ≢ reply.VerticesFull) × (e.reply ≢ reply.WorkersFull)) made

-- Suppose that all lines are commands of worker 0, that each has its entry, and that there was room for each vertex and each
-- subject. Then the replies are the output of the plain run.
abbrev pub OneWorkerIsThePlainRun : Type 0
OneWorkerIsThePlainRun =
    (start : Start) (arena : Arena) (lines : List Line) (entries made : List Entry) (replies : List ℕ) → IsLegal (scene_of start lines).graph entries →
    AreTold arena (has_thread start.workers) (boxed start.stock (commands_of lines)) made replies → HasEach entries made → IsOfOneThread (commands_of lines) made →
    IsOutput (scene_of start lines) (commands_of lines) replies
