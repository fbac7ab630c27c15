-- What is written for the lines of a script. Nothing here knows how lines are fetched or replies are put out.
use Rattle.std.specs.Prelude.{◌≡◌, ◌≢◌, ◌⊎◌, ℕ, ◌+◌, ◌<◌, ◌≤◌, List, [], ◌∷◌, ◌++◌, length, Option, Some, None}
use Rattle.tg_rights.specs.RightSet.{RightSet}
use Rattle.tg_model.specs.declared.value.Value.{Value}
use Rattle.tg_model.specs.declared.edge.Edge.{Edge}
use Rattle.tg_model.specs.declared.command.Deed.{Deed}
use Rattle.tg_model.specs.declared.command.Deed.TheVariants as deed
use Rattle.tg_model.specs.declared.opening.TheConstants.{MAX_WORKERS}
use Rattle.tg_model.specs.declared.reply.Reply.{Reply}
use Rattle.tg_model.specs.declared.reply.Reply.TheVariants as reply
use Rattle.tg_model.specs.Graph.{ProtectionGraph, IsSubject, IsReachable}
use Rattle.tg_model.specs.Rules.{IsAllowed, step, answer_of}
use Rattle.tg_model.specs.Opened.{HasLimits, start_of}
use Rattle.tg_rules.specs.Effect.{AddsEdge}
use Rattle.tg_store.specs.Store.{IsCountOf}
use Rattle.tg_text.specs.declared.line.Line.{Line}
use Rattle.tg_text.specs.declared.line.Line.TheVariants as line
use Rattle.tg_text.specs.declared.answer.Answer.{Answer}
use Rattle.tg_text.specs.declared.answer.Answer.TheVariants as told
use Rattle.tg_text.specs.declared.answer.Refusal.{Refusal}
use Rattle.tg_text.specs.declared.answer.Refusal.TheVariants as refusal
use Rattle.tg_text.specs.declared.fault.ScriptFault.{ScriptFault}
use Rattle.tg_text.specs.Reading.{ReadsScript}
use Rattle.tg_text.specs.Texts.{answer_text}
use Rattle.tg_script.specs.declared.run_script.RunSetup.{RunSetup}
use Rattle.tg_script.specs.declared.run_script.Settings.{Settings}

-- ---- the answer to one line

-- the graph, the values that are left in the stock, and how many helpers a collection has
pub record Scene : Type 0 where
  pub graph : ProtectionGraph
  pub stock : List Value
  pub helpers : ℕ

-- the deeds that make a vertex with a value of the stock: an object, or a subject
abbrev pub create_of : RightSet → Value → Deed
create_of label value = deed.Create label value.law value.state

abbrev pub spawn_of : RightSet → Value → Deed
spawn_of label value = deed.Spawn label value.law value.state

-- What is left of a stock after such a deed, of which this is the rest after its first value. That is taken where a vertex was made,
-- which then is named.
abbrev pub stock_left : Reply → List Value → List Value → List Value
stock_left (reply.Name name) rest stock = rest
stock_left other rest stock = stock

-- The answer to a line by which x makes a vertex, and the scene after it, where this is in the stock.
abbrev pub AnswersMaking : Scene → ℕ → (Value → Deed) → List Value → Answer → Scene → Type 0
AnswersMaking s x making [] a t = (a ≡ told.Refused refusal.Stock) × (t ≡ s)
AnswersMaking s x making (value ∷ rest) a t =
    (IsSubject s.graph x × (a ≡ told.Reply (answer_of s.graph x (making value)))
    × (t ≡ record s { graph = step s.graph x (making value); stock = stock_left (answer_of s.graph x (making value)) rest s.stock }))
    ⊎ ((¬ IsSubject s.graph x) × (a ≡ told.Refused refusal.Worker) × (t ≡ s))

-- The answer to a line and the scene after it, where nothing is lacking. A full collection answers the number of the
-- vertices that can be reached, a collection of the nurseries no number, and neither changes anything that another line is
-- answered by. Edge lines have no answer.
abbrev pub Answers : Scene → Line → Answer → Scene → Type 0
Answers s (line.Edge edge) a t = ⊥
Answers s (line.Create x label) a t = AnswersMaking s x (create_of label) s.stock a t
Answers s (line.Spawn x label) a t = AnswersMaking s x (spawn_of label) s.stock a t
Answers s (line.Plain x command) a t =
    (IsSubject s.graph x × (a ≡ told.Reply (answer_of s.graph x (deed.Plain command))) × (t ≡ record s { graph = step s.graph x (deed.Plain command) }))
    ⊎ ((¬ IsSubject s.graph x) × (a ≡ told.Refused refusal.Worker) × (t ≡ s))
Answers s line.Full a t = (n : ℕ) × IsCountOf (IsReachable s.graph) n × (a ≡ told.Collected (Some n)) × (t ≡ s)
Answers s line.Minor a t = (a ≡ told.Collected None) × (t ≡ s)

-- what a collection by so many helpers may be refused for: threads can be lacking only where there is more than one
abbrev pub MayWant : ℕ → Refusal → Type 0
MayWant helpers refusal.Memory = Unit {0}
MayWant helpers refusal.Heap = Unit {0}
MayWant helpers refusal.Threads = 1 < helpers
MayWant helpers refusal.Worker = ⊥
MayWant helpers refusal.Vertices = ⊥
MayWant helpers refusal.Workers = ⊥
MayWant helpers refusal.Stock = ⊥

-- What may be answered in place of that, with nothing changed: memory may run out for each line that reaches the store, one of a
-- subject or a collection; room in the heap for a collection, and for a create, a spawn, a take or a grant that is allowed;
-- threads for a collection by several helpers.
abbrev pub MayAnswerRefused : Scene → Line → Refusal → Type 0
MayAnswerRefused s (line.Create x label) refusal.Memory = IsSubject s.graph x × (s.stock ≢ [])
MayAnswerRefused s (line.Spawn x label) refusal.Memory = IsSubject s.graph x × (s.stock ≢ [])
MayAnswerRefused s (line.Plain x command) refusal.Memory = IsSubject s.graph x
MayAnswerRefused s (line.Create x label) refusal.Heap = IsSubject s.graph x × (s.stock ≢ []) × (s.graph.made < s.graph.limit)
MayAnswerRefused s (line.Spawn x label) refusal.Heap =
    IsSubject s.graph x × (s.stock ≢ []) × (s.graph.made < s.graph.limit) × (length s.graph.subjects < MAX_WORKERS)
MayAnswerRefused s (line.Plain x command) refusal.Heap = IsSubject s.graph x × IsAllowed s.graph x (deed.Plain command) × AddsEdge command
MayAnswerRefused s line.Full r = MayWant s.helpers r
MayAnswerRefused s line.Minor r = MayWant s.helpers r
MayAnswerRefused s l r = ⊥

-- the line is answered, or refused for lack with the scene as it was
abbrev pub Serves : Scene → Line → Answer → Scene → Type 0
Serves s l a t = Answers s l a t ⊎ ((r : Refusal) × MayAnswerRefused s l r × (a ≡ told.Refused r) × (t ≡ s))

-- ---- the text for many lines

-- The text for the lines, where nothing is lacking.
abbrev pub IsOutput : Scene → List Line → List ℕ → Type 0
IsOutput s [] text = text ≡ []
IsOutput s (l ∷ lines) text =
    (a : Answer) × (t : Scene) × (rest : List ℕ) × Answers s l a t × (text ≡ answer_text a ++ rest) × IsOutput t lines rest

-- The text for the lines, where memory or room may be lacking, and was for so many of them.
abbrev pub IsAdmissible : Scene → List Line → ℕ → List ℕ → Type 0
IsAdmissible s [] wants text = (wants ≡ 0) × (text ≡ [])
IsAdmissible s (l ∷ lines) wants text =
    ((a : Answer) × (t : Scene) × (rest : List ℕ) × Answers s l a t × (text ≡ answer_text a ++ rest) × IsAdmissible t lines wants rest)
    ⊎ ((r : Refusal) × (fewer : ℕ) × (rest : List ℕ) × MayAnswerRefused s l r × (wants ≡ fewer + 1) × (text ≡ answer_text (told.Refused r) ++ rest)
    × IsAdmissible s lines fewer rest)

-- What stands of the text for the lines where writing came to an error: the whole of each reply but the last, and a front of that.
abbrev pub IsCut : Scene → List Line → List ℕ → Type 0
IsCut s [] front = ⊥
IsCut s (l ∷ []) front = (a : Answer) × (t : Scene) × (rest : List ℕ) × Serves s l a t × (answer_text a ≡ front ++ rest)
IsCut s (l ∷ m ∷ lines) front = (a : Answer) × (t : Scene) × (rest : List ℕ) × Serves s l a t × (front ≡ answer_text a ++ rest) × IsCut t (m ∷ lines) rest

-- ---- the whole of a script

-- the edges of the edge lines in front
abbrev pub edges_of : List Line → List Edge
edges_of [] = []
edges_of (line.Edge edge ∷ lines) = edge ∷ edges_of lines
edges_of (line.Create x label ∷ lines) = []
edges_of (line.Spawn x label ∷ lines) = []
edges_of (line.Plain x command ∷ lines) = []
edges_of (line.Full ∷ lines) = []
edges_of (line.Minor ∷ lines) = []

-- the lines after them
abbrev pub commands_of : List Line → List Line
commands_of [] = []
commands_of (line.Edge edge ∷ lines) = commands_of lines
commands_of (line.Create x label ∷ lines) = line.Create x label ∷ lines
commands_of (line.Spawn x label ∷ lines) = line.Spawn x label ∷ lines
commands_of (line.Plain x command ∷ lines) = line.Plain x command ∷ lines
commands_of (line.Full ∷ lines) = line.Full ∷ lines
commands_of (line.Minor ∷ lines) = line.Minor ∷ lines

-- what a run is given beside the script: the number of workers, how many helpers a collection has, the most vertices, the most
-- blocks of the heap, the workers' values, and the stock
pub record Start : Type 0 where
  pub workers : ℕ
  pub helpers : ℕ
  pub limit : ℕ
  pub blocks : ℕ
  pub values : List Value
  pub stock : List Value

-- the start with these settings, of workers and a stock with these values
abbrev pub start_with : Settings → List Value → List Value → Start
start_with settings values stock = record {
  workers = settings.workers;
  helpers = settings.helpers;
  limit = settings.max_vertices;
  blocks = settings.limits.max_blocks;
  values = values;
  stock = stock;
}

-- the start from a setup
abbrev pub start_of_setup : {P : Type 0} → RunSetup P → Start
start_of_setup setup = start_with setup.settings setup.workers.items setup.stock.items

-- a run may start with these settings, and with payloads of these values for its workers: one for each of from 1 to 64
pub record MayStart (settings : Settings) (values : List Value) : Type 0 where
  pub number : (1 ≤ settings.workers) × (settings.workers ≤ 64)
  pub workers : length values ≡ settings.workers

-- the same, and the collector is ready, as this says
pub record MayRun (Ready : Type 0) (settings : Settings) (values : List Value) : Type 0 where
  pub ready : Ready
  pub startable : MayStart settings values

-- the scene that the edge lines of a script make
abbrev pub scene_of : Start → List Line → Scene
scene_of start lines = record {
  graph = start_of (record { workers = start.workers; edges = edges_of lines; values = start.values; limit = start.limit });
  stock = start.stock;
  helpers = start.helpers;
}

-- the limit leaves room for the workers
abbrev pub HasRoomForWorkers : Start → Type 0
HasRoomForWorkers start = HasLimits (record { workers = start.workers; edges = []; values = start.values; limit = start.limit })

-- a store can be opened: there is room for the workers, and there may be a block for each
abbrev pub CanOpen : Start → Type 0
CanOpen start = HasRoomForWorkers start × (start.workers ≤ start.blocks)

-- where a line is no edge line the store was opened
abbrev pub MayAnswer : Start → List Line → Type 0
MayAnswer start lines = (commands_of lines ≡ []) ⊎ CanOpen start

-- the text is what may be written for a script of these bytes, which is read up to this fault, or to its end, so that these
-- bytes are left
abbrev pub IsScriptOutput : Start → List ℕ → Option ScriptFault → List ℕ → List ℕ → Type 0
IsScriptOutput start bytes end left text =
    (lines : List Line) × (wants : ℕ) × ReadsScript start.workers bytes lines end left × MayAnswer start lines × IsAdmissible (scene_of start lines) (commands_of lines) wants text
