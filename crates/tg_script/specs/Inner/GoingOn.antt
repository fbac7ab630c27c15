-- The lines of a run that goes on from a store, after the first of them was read.
use Rattle.std.specs.Prelude.{◌≡◌, ℕ, ◌+◌, ◌-◌, ◌≤◌, Bool, IfErr, IfOk, IfSome, List, ◌++◌, length, Option, Some, None, Result, Ok, Err}
use Rattle.tg_model.specs.declared.edge.Edge.{Edge}
use Rattle.tg_journal.specs.declared.entry.Entry.{Entry}
use Rattle.tg_journal.specs.History.{IsLegal}
use Rattle.tg_text.specs.declared.line.Line.{Line}
use Rattle.tg_text.specs.declared.answer.Answer.{Answer}
use Rattle.tg_text.specs.declared.fault.ScriptFault.{ScriptFault}
use Rattle.tg_text.specs.declared.fault.ScriptFault.TheVariants as fault
use Rattle.tg_text.specs.Sinks.{KeepsBytes}
use Rattle.tg_script.specs.declared.going.BegunOn.{BegunOn}
use Rattle.tg_script.specs.declared.going.RunOn.{RunOn}
use Rattle.tg_script.specs.declared.script.Script.{Script}
use Rattle.tg_script.specs.GoingOn.{answers_text, scene_on, whole_text}
use Rattle.tg_script.specs.Lines.{CountsFailures, IsOfKeeping, read_failures, write_failures}
use Rattle.tg_script.specs.Opening.{edge_lines}
use Rattle.tg_script.specs.Script.{Scene}
use Rattle.tg_script.specs.Watching.{AreAnswered, SeesAll}
use Rattle.tg_script.specs.Inner.Beginning.{IsBehindEdges, ReadsFirst, StopsAtEdges}
use Rattle.tg_script.specs.Inner.Run.{Shows}
use Rattle.tg_script.specs.Inner.Telling.{ReadsCommands}

-- these are the lines from the first on, up to this fault or to the end, with their answers and the entries that they made
pub record LinesGone (s : Script) (bytes : List ℕ) (t : Scene) (first : Option Line) (end : Option ScriptFault) (left : List ℕ) (answers : List Answer) (es : List Entry) : Type 0 where
  pub lines : List Line
  pub reads : ReadsCommands s bytes first lines end left
  pub answered : AreAnswered t lines answers es
  pub legal : IsLegal t.graph es

-- what is in the sink after them, and what a watch has seen
abbrev pub StandsGone : {T : Type 0} → Bool → ℕ → Script → List ℕ → Scene → Option Line → List ℕ → Option Bool → Result T ScriptFault → List ℕ → Option (List ℕ) → Option Bool → Type 0
StandsGone entries count s bytes t first before saw (Ok done) left after saw' =
    (answers : List Answer) × (es : List Entry) × LinesGone s bytes t first None left answers es × (after ≡ Some (before ++ whole_text entries count answers es)) × SeesAll saw answers saw'
StandsGone entries count s bytes t first before saw (Err fault.WriteFailed) left after saw' =
    (answers : List Answer) × (es : List Entry) × (front : List ℕ) × (rest : List ℕ) × LinesGone s bytes t first (Some fault.WriteFailed) left answers es
    × (whole_text entries count answers es ≡ front ++ rest) × (after ≡ Some (before ++ front))
StandsGone entries count s bytes t first before saw (Err f) left after saw' =
    (answers : List Answer) × (es : List Entry) × LinesGone s bytes t first (Some f) left answers es × (after ≡ Some (before ++ answers_text entries answers es))

-- how many entries the text has that the run goes on with
abbrev pub count_on : {P : Type 0} → BegunOn P → ℕ
count_on on = length on.begun.run.store.entries - on.skipped

-- the same by what source, sink and watch tell, whatever scene the run shows
abbrev pub GoesBy : {S K W P T : Type 0} → (S → Option (List ℕ)) → (K → Option (List ℕ)) → (W → Option Bool) → Bool → S → S → K → K → W → W → BegunOn P → Result T ScriptFault → Type 0
GoesBy left taken refused entries source source' sink sink' watch watch' on result =
    (t : Scene) (rest before : List ℕ) → Shows on.begun.run t → left source ≡ Some rest → taken sink ≡ Some before →
    (last : List ℕ) × (left source' ≡ Some last)
    × StandsGone entries (count_on on) on.begun.script rest t on.begun.first before (refused watch) result last (taken sink') (refused watch')

-- ---- the first line

-- the first line was read, or there is none, or a fault was met before
abbrev pub BeginsOn : {P : Type 0} → List ℕ → Result (BegunOn P) ScriptFault → List ℕ → Type 0
BeginsOn bytes (Ok on) rest = (edges : List Edge) × ReadsFirst 0 bytes (edge_lines edges) on.begun.first on.begun.script rest
BeginsOn bytes (Err f) rest = StopsAtEdges 0 bytes f rest

-- the same by what source and sink tell beside the bytes that are left
pub record BeginsOnStreams {S K P : Type 0} (asks read : S → ℕ) (written : K → ℕ) (takes : K → Option (List ℕ)) (source source' : S) (sink sink' : K)
    (result : Result (BegunOn P) ScriptFault) : Type 0 where
  pub fault : IfErr result IsOfKeeping
  pub failures : CountsFailures read written source source' sink sink' (read_failures result) (write_failures result)
  pub taken : KeepsBytes (takes sink) (takes sink')
  pub asked : asks source' ≤ asks source + 1048577
  pub asked_of_line : IfOk result (λ on. IfSome on.begun.first (λ _. asks source' + on.begun.script.lines.room ≡ asks source + 1048576))

-- the run begins from the scene, with all entries that there were
pub record IsBegunOn {P : Type 0} (from : RunOn P) (on : BegunOn P) : Type 0 where
  pub shows : Shows on.begun.run (scene_on from)
  pub entries : on.begun.run.store.entries ≡ from.store.entries
  pub skipped : on.skipped ≡ from.skipped
  pub first : IsBehindEdges on.begun.script on.begun.first
