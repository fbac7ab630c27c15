-- How a run begins: what is read of its script up to the line after the edges, and the store that is opened.
use Rattle.std.specs.Prelude.{◌≡◌, ◌≢◌, ◌⊎◌, ℕ, ◌+◌, ◌<◌, ◌≤◌, false, IfErr, IfOk, IfSome, List, [], ◌∷◌, ◌++◌, Option, Some, None, Result, Ok, Err}
use Rattle.std.specs.List.{All}
use Rattle.tg_model.specs.declared.edge.Edge.{Edge}
use Rattle.tg_model.specs.Opened.{Plan, JoinsWorkers, start_of}
use Rattle.tg_store.specs.Origin.{opened_by}
use Rattle.tg_text.specs.declared.fault.ScriptFault.{ScriptFault}
use Rattle.tg_text.specs.declared.fault.ScriptFault.TheVariants as fault
use Rattle.tg_text.specs.declared.line.Line.{Line}
use Rattle.tg_text.specs.Reading.{ReadsScript}
use Rattle.tg_text.specs.Sinks.{KeepsBytes}
use Rattle.tg_script.specs.declared.opening.Front.{Front}
use Rattle.tg_script.specs.declared.run_script.Begun.{Begun}
use Rattle.tg_script.specs.declared.script.Script.{Script}
use Rattle.tg_script.specs.Lines.{CountsFailures, IsOfKeeping, OnlyReads, ReadsFrom, read_failures, write_failures}
use Rattle.tg_script.specs.Opening.{IsCommand, edge_lines}
use Rattle.tg_script.specs.Running.{IsDue, IsUnopened}
use Rattle.tg_script.specs.Script.{CanOpen, HasRoomForWorkers, Scene, Start}
use Rattle.tg_script.specs.Inner.Run.{Shows}

-- ---- the edge lines, and the line behind them

-- the line that came is no edge line, and none may come after it
abbrev pub IsBehindEdges : Script → Option Line → Type 0
IsBehindEdges s first = IfSome first (λ l. IsCommand l × (s.opening ≡ false))

-- the edges join two workers each, and no edge line is after them
pub record IsFront (workers : ℕ) (front : Front) : Type 0 where
  pub edges : All (JoinsWorkers workers) front.edges.items
  pub first : IsBehindEdges front.script front.first

-- these lines of a script were taken: whatever is read after them is read after them
abbrev pub ReadsFront : ℕ → List ℕ → List Line → Script → List ℕ → Type 0
ReadsFront workers bytes front t rest =
    (lines : List Line) (end : Option ScriptFault) (left : List ℕ) → ReadsFrom t rest lines end left → ReadsScript workers bytes (front ++ lines) end left

-- where no further line came the script ended after these, else they and that line were taken
abbrev pub ReadsFirst : ℕ → List ℕ → List Line → Option Line → Script → List ℕ → Type 0
ReadsFirst workers bytes front None t rest = ReadsScript workers bytes front None rest
ReadsFirst workers bytes front (Some l) t rest = ReadsFront workers bytes (front ++ l ∷ []) t rest

-- only edge lines were read, up to this fault; where that is lack of memory, it was for the last of them
pub record StopsAtEdges (workers : ℕ) (bytes : List ℕ) (f : ScriptFault) (rest : List ℕ) : Type 0 where
  pub edges : List Edge
  pub some : f ≡ fault.OutOfMemory → edges ≢ []
  pub reads : ReadsScript workers bytes (edge_lines edges) (Some f) rest

-- the edge lines, up to the first other line, to the end or to the first fault, and what is left after them
abbrev pub ReadsEdges : ℕ → List ℕ → Result Front ScriptFault → List ℕ → Type 0
ReadsEdges workers bytes (Ok front) rest = ReadsFirst workers bytes (edge_lines front.edges.items) front.first front.script rest
ReadsEdges workers bytes (Err f) rest = StopsAtEdges workers bytes f rest

-- what a source was asked for where edge lines were read and nothing more was done; after a further line it is what the script took
pub record AsksForEdges {S K : Type 0} (asks read : S → ℕ) (written : K → ℕ) (takes : K → Option (List ℕ)) (source source' : S) (sink sink' : K)
    (result : Result Front ScriptFault) : Type 0 where
  pub reading : OnlyReads IsOfKeeping read written takes source source' sink sink' result
  pub asked : asks source' ≤ asks source + 1048577
  pub asked_of_line : IfOk result (λ front. IfSome front.first (λ _. asks source' + front.script.lines.room ≡ asks source + 1048576))

-- ---- the run

-- the opening with these edges, and the scene that it makes
abbrev pub plan_with : Start → List Edge → Plan
plan_with start edges = record { workers = start.workers; edges = edges; values = start.values; limit = start.limit }

abbrev pub scene_with : Start → List Edge → Scene
scene_with start edges = record { graph = start_of (plan_with start edges); stock = start.stock; helpers = start.helpers }

-- the store was opened with the edges, and no line after them was run
pub record IsBegun {P : Type 0} (start : Start) (begun : Begun P) : Type 0 where
  pub can : CanOpen start
  pub opening : begun.run.store.opening ≡ opened_by (plan_with start begun.run.store.opening.plan.edges)
  pub none : begun.run.store.entries ≡ []
  pub shows : Shows begun.run (scene_with start begun.run.store.opening.plan.edges)
  pub first : IsBehindEdges begun.script begun.first

-- Why no run has begun, and what is left of the script then: a fault at the edge lines, or after them the limits, or lack of memory or
-- of a block for each worker.
abbrev pub Unbegun : Start → List ℕ → ScriptFault → List ℕ → Type 0
Unbegun start bytes fault.OutOfMemory left =
    StopsAtEdges start.workers bytes fault.OutOfMemory left ⊎ (HasRoomForWorkers start × IsUnopened start bytes fault.OutOfMemory left)
Unbegun start bytes fault.HeapFull left = HasRoomForWorkers start × (start.blocks < start.workers) × IsUnopened start bytes fault.HeapFull left
Unbegun start bytes fault.BadLimits left = (¬ HasRoomForWorkers start) × IsUnopened start bytes fault.BadLimits left
Unbegun start bytes f left = StopsAtEdges start.workers bytes f left

-- what is read of a script where its run has begun, or hasn't
abbrev pub Begins : {P : Type 0} → Start → List ℕ → Result (Begun P) ScriptFault → List ℕ → Type 0
Begins start bytes (Ok begun) rest = ReadsFirst start.workers bytes (edge_lines begun.run.store.opening.plan.edges) begun.first begun.script rest
Begins start bytes (Err f) rest = Unbegun start bytes f rest

-- the same by what source and sink tell beside the bytes that are left
pub record BeginsStreams {S K P : Type 0} (asks read : S → ℕ) (written : K → ℕ) (takes : K → Option (List ℕ)) (source source' : S) (sink sink' : K)
    (start : Start) (result : Result (Begun P) ScriptFault) : Type 0 where
  pub due : IfErr result (IsDue start)
  pub failures : CountsFailures read written source source' sink sink' (read_failures result) (write_failures result)
  pub taken : KeepsBytes (takes sink) (takes sink')
  pub asked : asks source' ≤ asks source + 1048577
  pub asked_of_line : IfOk result (λ begun. IfSome begun.first (λ _. asks source' + begun.script.lines.room ≡ asks source + 1048576))

-- the lines after the edges may be run: none of them is an edge line, and the collector is ready, as this says
pub record MayGoOn (Ready : Type 0) (s : Script) (first : Option Line) : Type 0 where
  pub ready : Ready
  pub commands : IsBehindEdges s first
