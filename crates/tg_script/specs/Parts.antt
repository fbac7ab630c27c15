-- A script that is run part by part, on one store: what each part is answered, and where the next part goes on.
use Rattle.std.specs.Prelude.{◌≡◌, ℕ, ◌+◌, Bool, false, List, [], ◌∷◌, ◌++◌, drop, length, Option, Some, None, Result, Ok, Err, IfSome}
use Rattle.std.specs.List.{flat_map}
use Rattle.tg_model.specs.declared.command.Deed.{Deed}
use Rattle.tg_model.specs.declared.command.Deed.TheVariants as deed
use Rattle.tg_model.specs.declared.edge.Edge.{Edge}
use Rattle.tg_model.specs.declared.reply.Reply.{Reply}
use Rattle.tg_model.specs.declared.value.Value.{Value}
use Rattle.tg_model.specs.Opened.{Plan, start_of}
use Rattle.tg_journal.specs.declared.entry.Entry.{Entry}
use Rattle.tg_journal.specs.History.{IsLegal, graph_after}
use Rattle.tg_store.specs.Origin.{opened_by}
use Rattle.tg_store.specs.Store.{HoldsFrom, StoreState, StandsFor, graph_of_store}
use Rattle.tg_text.specs.declared.line.Line.{Line}
use Rattle.tg_text.specs.declared.answer.Answer.{Answer}
use Rattle.tg_text.specs.declared.fault.ScriptFault.{ScriptFault}
use Rattle.tg_text.specs.declared.fault.ScriptFault.TheVariants as fault
use Rattle.tg_text.specs.declared.fetch.TheConstants.{MOST_BYTES}
use Rattle.tg_text.specs.Reading.{Reads, ReadsScript}
use Rattle.tg_text.specs.Texts.{answer_text}
use Rattle.tg_script.specs.declared.parts.OpenedScript.{OpenedScript}
use Rattle.tg_script.specs.declared.parts.ScriptLeft.{ScriptLeft}
use Rattle.tg_script.specs.declared.parts.ScriptRun.{ScriptRun}
use Rattle.tg_script.specs.declared.script.Script.{Script}
use Rattle.tg_script.specs.Inner.Supply.{values_left}
use Rattle.tg_script.specs.Opening.{IsCommand, edge_lines}
use Rattle.tg_script.specs.Running.{Ran}
use Rattle.tg_script.specs.Script.{Scene, Start, CanOpen, stock_left}
use Rattle.tg_script.specs.Watching.{AreAnswered, SeesAll}

-- ---- the scene after entries

-- what is left of a stock after an entry: a vertex that was made has taken the first value
abbrev pub stock_after_deed : Deed → Reply → List Value → List Value
stock_after_deed (deed.Create label law state) r stock = stock_left r (drop 1 stock) stock
stock_after_deed (deed.Spawn label law state) r stock = stock_left r (drop 1 stock) stock
stock_after_deed (deed.Plain command) r stock = stock

-- and after many
abbrev pub stock_after : List Value → List Entry → List Value
stock_after stock [] = stock
stock_after stock (e ∷ es) = stock_after (stock_after_deed e.deed e.reply stock) es

-- the scene after lines that made these entries
abbrev pub scene_after : Scene → List Entry → Scene
scene_after s es = record { graph = graph_after s.graph es; stock = stock_after s.stock es; helpers = s.helpers }

-- ---- where a script is

-- the script reads its further lines like this: first the line that came before, if it wasn't run
abbrev pub ReadsPartAfter : Option Line → Script → List ℕ → List Line → Option ScriptFault → List ℕ → Type 0
ReadsPartAfter None s bytes lines end left = Reads s.workers s.lines.room s.count false bytes lines end left
ReadsPartAfter (Some l) s bytes lines end left = (more : List Line) × (lines ≡ l ∷ more) × Reads s.workers s.lines.room s.count false bytes more end left

-- the further lines of the script are these bytes: these lines, and then the fault, or the end, and these bytes are left
abbrev pub ReadsPart : {P : Type 0} → ScriptRun P → List ℕ → List Line → Option ScriptFault → List ℕ → Type 0
ReadsPart r bytes lines end left = ReadsPartAfter r.begun.first r.begun.script bytes lines end left

-- the same of what is left of a script
abbrev pub ReadsLeft : {P : Type 0} → ScriptLeft P → List ℕ → List Line → Option ScriptFault → List ℕ → Type 0
ReadsLeft l bytes lines end left = ReadsPartAfter l.first l.script bytes lines end left

-- how many bytes may still come
abbrev pub may_come : {P : Type 0} → ScriptRun P → ℕ
may_come r = r.begun.script.lines.room

-- The line that came and wasn't run is no edge line, and no edge line may come after it.
abbrev pub IsWaiting : Script → Option Line → Type 0
IsWaiting s first = IfSome first (λ l. IsCommand l × (s.opening ≡ false))

-- the graph that the store represents, the stock that is left, and the helpers
abbrev pub scene_in : {P : Type 0} → ScriptRun P → Scene
scene_in r = record { graph = graph_of_store r.begun.run.store; stock = values_left r.begun.run.supply; helpers = r.begun.run.helpers }

-- no line was read of the script, which has no workers of an opening, and this is its stock
pub record StartsParts {P : Type 0} (number : ℕ) (values : List Value) (l : ScriptLeft P) : Type 0 where
  pub reads : (bytes : List ℕ) (lines : List Line) (end : Option ScriptFault) (left : List ℕ) → ReadsLeft l bytes lines end left → Reads 0 MOST_BYTES 0 false bytes lines end left
  pub first : l.first ≡ None
  pub stock : values_left l.supply ≡ values
  pub helpers : l.helpers ≡ number

-- the script goes on so on this store
pub record IsOnStore {P : Type 0} (l : ScriptLeft P) (s : StoreState) (r : ScriptRun P) : Type 0 where
  pub store : r.begun.run.store ≡ s
  pub supply : r.begun.run.supply ≡ l.supply
  pub helpers : r.begun.run.helpers ≡ l.helpers
  pub script : r.begun.script ≡ l.script
  pub first : r.begun.first ≡ l.first

-- The entries before this place were given up, and nothing else changed.
pub record GivesUp {P : Type 0} (upto : ℕ) (old new : ScriptRun P) : Type 0 where
  pub store : HoldsFrom upto old.begun.run.store new.begun.run.store
  pub supply : new.begun.run.supply ≡ old.begun.run.supply
  pub helpers : new.begun.run.helpers ≡ old.begun.run.helpers
  pub script : new.begun.script ≡ old.begun.script
  pub first : new.begun.first ≡ old.begun.first

-- ---- an opening

-- the opening from this start, with these edges
abbrev pub opening_with : Start → List Edge → Plan
opening_with start edges = record { workers = start.workers; edges = edges; values = start.values; limit = start.limit }

-- The store was opened with edges, and has no entry. The whole stock is left.
pub record HasOpenedScript {P : Type 0} (start : Start) (o : OpenedScript P) : Type 0 where
  pub can : CanOpen start
  pub opening : o.store.opening ≡ opened_by (opening_with start o.store.opening.plan.edges)
  pub graph : StandsFor o.store (start_of (opening_with start o.store.opening.plan.edges))
  pub none : o.store.entries ≡ []
  pub stock : values_left o.left.supply ≡ start.stock
  pub helpers : o.left.helpers ≡ start.helpers
  pub waits : IsWaiting o.left.script o.left.first

-- These edge lines were read. If a line came after them, what is read from there on comes after them. Else the script has ended.
abbrev pub ReadsAfterEdges : ℕ → List ℕ → List Edge → Option Line → Script → List ℕ → Type 0
ReadsAfterEdges workers bytes edges None s rest = ReadsScript workers bytes (edge_lines edges) None rest
ReadsAfterEdges workers bytes edges (Some l) s rest =
    (lines : List Line) (end : Option ScriptFault) (left : List ℕ) → ReadsPartAfter (Some l) s rest lines end left → ReadsScript workers bytes (edge_lines edges ++ lines) end left

-- What was read of the bytes, and what is left of them. If there is no store, the script ended as a run of it does that writes nothing.
abbrev pub OpensFrom : {P : Type 0} → Start → List ℕ → Result (OpenedScript P) ScriptFault → List ℕ → Type 0
OpensFrom start bytes (Ok o) rest = ReadsAfterEdges start.workers bytes o.store.opening.plan.edges o.left.first o.left.script rest
OpensFrom start bytes (Err f) rest = (before : List ℕ) → Ran {T = Unit {0}} start bytes before (Err f) rest (Some before)

-- the same by what a source tells
abbrev pub OpensScript : {S P : Type 0} → (S → Option (List ℕ)) → S → S → Start → Result (OpenedScript P) ScriptFault → Type 0
OpensScript left source source' start result = (bytes : List ℕ) → left source ≡ Some bytes → (rest : List ℕ) × (left source' ≡ Some rest) × OpensFrom start bytes result rest

-- ---- a part

-- These lines were read of a part, with their answers and their entries, which are legal. The store has these entries more.
pub record GoesPart {P : Type 0} (old new : ScriptRun P) (bytes : List ℕ) (end : Option ScriptFault) (left : List ℕ) (answers : List Answer) (es : List Entry) : Type 0 where
  pub lines : List Line
  pub reads : ReadsPart old bytes lines end left
  pub answered : AreAnswered (scene_in old) lines answers es
  pub legal : IsLegal (graph_of_store old.begun.run.store) es
  pub entries : new.begun.run.store.entries ≡ old.begun.run.store.entries ++ es
  pub opening : new.begun.run.store.opening ≡ old.begun.run.store.opening

-- The next part goes on where this one has ended: from the scene after its entries, with its lines before.
pub record GoesFurther {P : Type 0} (old new : ScriptRun P) (bytes : List ℕ) (lines : List Line) (es : List Entry) : Type 0 where
  pub scene : scene_in new ≡ scene_after (scene_in old) es
  pub further : (more : List ℕ) (others : List Line) (end : Option ScriptFault) (left : List ℕ) → ReadsPart new more others end left → ReadsPart old (bytes ++ more) (lines ++ others) end left
  pub first : new.begun.first ≡ None
  pub room : may_come new + length bytes ≡ may_come old

-- What is in the sink after a part with these bytes, where `before` was in it, what is left of them, and what a watch has seen: the
-- replies to all lines, or to those before a fault, or a front of the replies if the sink failed.
abbrev pub PartRan : {P T : Type 0} → ScriptRun P → ScriptRun P → List ℕ → List ℕ → Option Bool → Result T ScriptFault → List ℕ → Option (List ℕ) → Option Bool → Type 0
PartRan old new bytes before saw (Ok done) left after saw' =
    (answers : List Answer) × (es : List Entry) × (gone : GoesPart old new bytes None left answers es) × GoesFurther old new bytes gone.lines es
    × (after ≡ Some (before ++ flat_map answer_text answers)) × SeesAll saw answers saw'
PartRan old new bytes before saw (Err fault.WriteFailed) left after saw' =
    (answers : List Answer) × (es : List Entry) × (front : List ℕ) × (rest : List ℕ) × GoesPart old new bytes (Some fault.WriteFailed) left answers es
    × (flat_map answer_text answers ≡ front ++ rest) × (after ≡ Some (before ++ front))
PartRan old new bytes before saw (Err f) left after saw' =
    (answers : List Answer) × (es : List Entry) × GoesPart old new bytes (Some f) left answers es × (after ≡ Some (before ++ flat_map answer_text answers))

-- the same by what source, sink and watch tell
abbrev pub RunsPart : {S K W P T : Type 0} → (S → Option (List ℕ)) → (K → Option (List ℕ)) → (W → Option Bool) → S → S → K → K → W → W → ScriptRun P → ScriptRun P → Result T ScriptFault → Type 0
RunsPart left taken refused source source' sink sink' watch watch' old new result =
    (bytes before : List ℕ) → left source ≡ Some bytes → taken sink ≡ Some before →
    (rest : List ℕ) × (left source' ≡ Some rest) × PartRan old new bytes before (refused watch) result rest (taken sink') (refused watch')
