-- The graph that the lines of a script leave, with no collection, how many boxes of its stock they take, and which of them are denied
-- or refused.
use Rattle.std.specs.Prelude.{◌≡◌, ◌⊎◌, ℕ, ◌+◌, ◌<◌, ◌≤◌, ◌-◌, Bool, true, false, List, [], ◌∷◌, ◌++◌, Option, Some, None, length, slice_index_or, map, replicate, nat_lt, if◌then◌else◌, is_none}
use Rattle.std.specs.Borrow.{Bor}
use Rattle.tg_model.specs.declared.command.Deed.{Deed}
use Rattle.tg_model.specs.declared.command.Deed.TheVariants as deed
use Rattle.tg_model.specs.declared.value.Value.{Value}
use Rattle.tg_model.specs.Graph.{ProtectionGraph, IsSubject}
use Rattle.tg_model.specs.declared.making.Making.TheVariants.{Object, Subject}
use Rattle.tg_model.specs.Making.{deed_making}
use Rattle.tg_model.specs.Rules.{answer_of, step}
use Rattle.tg_model.specs.Picture.{IsPictureOf}
use Rattle.tg_model.specs.Plain.{graph_of}
use Rattle.tg_model.specs.Opened.{start_of}
use Rattle.tg_plain.specs.Boxes.{value_of_box}
use Rattle.tg_plain.specs.declared.options.PlainOptions.{PlainOptions}
use Rattle.tg_plain.specs.declared.outcome.Outcome.{Outcome}
use Rattle.tg_plain.specs.declared.run.PlainRun.{PlainRun}
use Rattle.tg_plain.specs.declared.refused.RefusedLine.{RefusedLine}
use Rattle.tg_plain.specs.declared.script.Script.{Script}
use Rattle.tg_plain.specs.declared.script.ScriptLine.{ScriptLine}
use Rattle.tg_plain.specs.Refused.{noted}
use Rattle.tg_text.specs.declared.answer.Answer.{Answer}
use Rattle.tg_text.specs.declared.answer.Answer.TheVariants.{Reply, Collected, Refused}
use Rattle.tg_text.specs.declared.answer.Refusal.TheVariants as refusal
use Rattle.tg_text.specs.declared.line.Line.{Line}
use Rattle.tg_text.specs.declared.line.Line.TheVariants as line
use Rattle.tg_text.specs.declared.stock.StockItem.{StockItem}
use Rattle.tg_text.specs.declared.stock.StockItem.TheVariants.{Cell}
use Rattle.tg_text.specs.Reading.{ReadsScript}
use Rattle.tg_text.specs.Stock.{IsStockText}

-- a graph, and how many boxes of the stock were taken
pub record Stage : Type 0 where
  pub graph : ProtectionGraph
  pub taken : ℕ

-- the boxes of a script: those of its stock, and then cells without end, or none
pub record Boxes : Type 0 where
  pub stock : List StockItem
  pub endless : Bool

-- an active subject's deed is answered this, and leads from one graph to the other; who is none is refused, and changes nothing
abbrev pub Steps : ProtectionGraph → ℕ → Deed → Answer → ProtectionGraph → Type 0
Steps g x d a h =
    (IsSubject g x × (h ≡ step g x d) × (a ≡ Reply (answer_of g x d)))
    ⊎ ((¬ IsSubject g x) × (h ≡ g) × (a ≡ Refused refusal.Worker))

-- the next box is of this kind, where so many were taken
abbrev pub IsNextItem : List StockItem → ℕ → StockItem → Type 0
IsNextItem stock taken kind = (taken < length stock) × (kind ≡ slice_index_or stock taken kind)

-- a vertex is made with the next box of the stock, which is taken where one was made
abbrev pub MakesOfStock : List StockItem → Stage → ℕ → (Value → Deed) → Answer → Stage → Type 0
MakesOfStock stock s x making a t =
    (kind : StockItem) × IsNextItem stock s.taken kind × Steps s.graph x (making (value_of_box kind)) a t.graph
    × (t.taken ≡ (if nat_lt s.graph.made t.graph.made then s.taken + 1 else s.taken))

-- a vertex is made with a cell that is none of the stock's
abbrev pub MakesOfCell : Stage → ℕ → (Value → Deed) → Answer → Stage → Type 0
MakesOfCell s x making a t = Steps s.graph x (making (value_of_box Cell)) a t.graph × (t.taken ≡ s.taken)

-- The stock is used up. Where boxes have no end, a vertex is made with a cell; else the line is refused, and changes nothing.
abbrev pub MakesBehindStock : Bool → Stage → ℕ → (Value → Deed) → Answer → Stage → Type 0
MakesBehindStock true s x making a t = MakesOfCell s x making a t
MakesBehindStock false s x making a t = (t ≡ s) × (a ≡ Refused refusal.Stock)

-- a vertex is made with the next box, where there is one
abbrev pub MakesOfBoxes : Boxes → Stage → ℕ → (Value → Deed) → Answer → Stage → Type 0
MakesOfBoxes boxes s x making a t =
    MakesOfStock boxes.stock s x making a t
    ⊎ ((length boxes.stock ≤ s.taken) × MakesBehindStock boxes.endless s x making a t)

-- a line is answered this, and leads from one stage to the other; a collection changes nothing, and neither does an edge line, which the
-- graph began with
abbrev pub Leads : Boxes → Stage → Line → Answer → Stage → Type 0
Leads boxes s (line.Edge edge) a t = (t ≡ s) × (a ≡ Collected None)
Leads boxes s (line.Create x label) a t = MakesOfBoxes boxes s x (deed_making Object label) a t
Leads boxes s (line.Spawn x label) a t = MakesOfBoxes boxes s x (deed_making Subject label) a t
Leads boxes s (line.Plain x command) a t = Steps s.graph x (deed.Plain command) a t.graph × (t.taken ≡ s.taken)
Leads boxes s line.Full a t = (t ≡ s) × (a ≡ Collected None)
Leads boxes s line.Minor a t = (t ≡ s) × (a ≡ Collected None)

-- these lines lead from one stage to the other, one after the other, and exactly these of them are denied or refused
abbrev pub RunsLines : Boxes → Stage → List ScriptLine → List RefusedLine → Stage → Type 0
RunsLines boxes s [] refused t = (t ≡ s) × (refused ≡ [])
RunsLines boxes s (l ∷ lines) refused t =
    (m : Stage) × (a : Answer) × (rest : List RefusedLine) × Leads boxes s l.line a m × (refused ≡ noted l a ++ rest) × RunsLines boxes m lines rest t

-- ---- the run of a script

-- the boxes are those that the text names, or none without a text
abbrev pub NamesBoxes : Option (Bor (List ℕ)) → List StockItem → Type 0
NamesBoxes (Some text) stock = IsStockText text.now stock
NamesBoxes None stock = stock ≡ []

-- the boxes are exactly those that this text names; without a text they are cells without end
abbrev pub HasBoxes : Option (Bor (List ℕ)) → Script → Type 0
HasBoxes text s = NamesBoxes text s.stock.items × (s.is_endless ≡ is_none text)

-- it has no line and no fault, and runs on what the options say
abbrev pub IsEmptyScript : PlainOptions → Script → Type 0
IsEmptyScript options s =
    (s.workers ≡ options.workers) × (s.max_vertices ≡ options.max_vertices) × HasBoxes options.stock s
    × (s.edges.items ≡ []) × (s.lines.items ≡ []) × (s.fault ≡ None)

-- it runs on what the options say
pub record RunsOn (options : PlainOptions) (s : Script) : Type 0 where
  pub workers : s.workers ≡ options.workers
  pub max_vertices : s.max_vertices ≡ options.max_vertices
  pub boxes : HasBoxes options.stock s

-- the graph of a run, and how many boxes it took
abbrev pub stage_of : PlainRun → Stage
stage_of run = record { graph = graph_of run.graph; taken = run.taken }

-- the boxes of a script
abbrev pub boxes_of : Script → Boxes
boxes_of s = record { stock = s.stock.items; endless = s.is_endless }

-- the graph of a script's workers and edge lines, where no box was taken
abbrev pub start_of_script : Script → Stage
start_of_script s = record {
  graph = start_of (record { workers = s.workers; edges = s.edges.items; values = replicate s.workers (value_of_box Cell); limit = s.max_vertices });
  taken = 0;
}

-- the script's other lines
abbrev pub lines_of : Script → List Line
lines_of s = map (λ l. l.line) s.lines.items

-- all of its lines: the edge lines, and then the others
abbrev pub all_lines : Script → List Line
all_lines s = map line.Edge s.edges.items ++ lines_of s

-- these lines have the numbers from this one on
abbrev pub AreNumbered : ℕ → List ScriptLine → Type 0
AreNumbered first [] = Unit {0}
AreNumbered first (l ∷ lines) = (l.number ≡ first) × AreNumbered (first + 1) lines

-- each line has the number of its place among all of them, from 1 on
abbrev pub IsNumbered : Script → Type 0
IsNumbered s = AreNumbered (length s.edges.items + 1) s.lines.items

-- the bytes are its lines, and then its fault, or the end
abbrev pub IsReadOf : List ℕ → Script → Type 0
IsReadOf bytes s = (left : List ℕ) × ReadsScript s.workers bytes (all_lines s) s.fault left

-- the run is that of all of the script's lines, and exactly these of them are denied or refused
abbrev pub RunsScript : Script → List RefusedLine → PlainRun → Type 0
RunsScript s refused run = RunsLines (boxes_of s) (start_of_script s) s.lines.items refused (stage_of run)

-- how many boxes are left where so many were taken, or none where they have no end
abbrev pub boxes_left : Boxes → ℕ → Option ℕ
boxes_left boxes taken = if boxes.endless then None else Some (length boxes.stock - taken)

-- its picture is that of the graph which all of the script's lines leave, its boxes are those that they don't take, and its refused lines
-- are exactly those that are denied or refused
abbrev pub IsOutcome : Script → Outcome → Type 0
IsOutcome s outcome =
    (run : PlainRun) × RunsScript s outcome.refused.items run × IsPictureOf outcome.picture (graph_of run.graph)
    × (outcome.boxes ≡ boxes_left (boxes_of s) run.taken)

-- the bytes are a script's to their end, and it leaves this, run with these options
pub record IsOutcomeOf (options : PlainOptions) (bytes : List ℕ) (outcome : Outcome) : Type 0 where
  pub script : Script
  pub options_are : RunsOn options script
  pub bytes_are : IsReadOf bytes script
  pub numbers_are : IsNumbered script
  pub whole : script.fault ≡ None
  pub outcome_is : IsOutcome script outcome
