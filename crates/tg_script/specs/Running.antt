-- What a run's answer says of the bytes that were read and of those that were written.
use Rattle.std.specs.Prelude.{◌≡◌, ◌≢◌, ◌⊎◌, ℕ, ◌+◌, ◌<◌, ◌≤◌, IsOk, IfErr, OnOk, Bool, true, List, [], ◌++◌, length, Option, Some, None, Result, Ok, Err}
use Rattle.tg_text.specs.declared.fault.ScriptFault.{ScriptFault}
use Rattle.tg_text.specs.declared.fault.ScriptFault.TheVariants as fault
use Rattle.tg_text.specs.Sinks.{KeepsBytes}
use Rattle.tg_text.specs.declared.line.Line.{Line}
use Rattle.tg_script.specs.Lines.{IsRestAfter, read_failures}
use Rattle.tg_text.specs.Reading.{ReadsScript}
use Rattle.tg_script.specs.Script.{IsCut, Start, HasRoomForWorkers, CanOpen, IsScriptOutput, commands_of, scene_of}

-- the text for the script, read up to this fault or to its end, is after what was written before
abbrev pub AddsOutput : Start → List ℕ → List ℕ → Option ScriptFault → List ℕ → Option (List ℕ) → Type 0
AddsOutput start bytes before end left after = (text : List ℕ) × (after ≡ Some (before ++ text)) × IsScriptOutput start bytes end left text

-- the script is read to its end, or to the first line that is no edge line, and no further, which this fault then ended
abbrev pub IsUnopened : Start → List ℕ → ScriptFault → List ℕ → Type 0
IsUnopened start bytes f left =
    (lines : List Line) × ReadsScript start.workers bytes lines (Some f) left × ((length (commands_of lines) ≡ 1) ⊎ ((commands_of lines ≡ []) × (left ≡ [])))

-- there was no memory for the last of these lines, an edge line
abbrev pub IsUnkept : Start → List ℕ → List ℕ → Type 0
IsUnkept start bytes left =
    (lines : List Line) × ReadsScript start.workers bytes lines (Some fault.OutOfMemory) left × (lines ≢ []) × (commands_of lines ≡ [])

-- the reply to the last of the lines that were read was cut off; no byte after that line was read
abbrev pub IsCutOff : Start → List ℕ → List ℕ → List ℕ → Option (List ℕ) → Type 0
IsCutOff start bytes before left after =
    (lines : List Line) × (front : List ℕ) × ReadsScript start.workers bytes lines (Some fault.WriteFailed) left × IsRestAfter lines bytes left
    × CanOpen start × IsCut (scene_of start lines) (commands_of lines) front × (after ≡ Some (before ++ front))

-- What is in the sink after a run over these bytes, where `before` stood in it, and what is left of them: the text for all
-- of the script, or for the lines before its first fault. Where the sink failed, all of that text, or all but the end of the
-- last reply; where the store wasn't opened, for lack of memory, of a block for each worker, or for the limit, nothing more.
-- No byte after the end of the run is read.
abbrev pub Ran : {T : Type 0} → Start → List ℕ → List ℕ → Result T ScriptFault → List ℕ → Option (List ℕ) → Type 0
Ran start bytes before (Ok done) left after = CanOpen start × AddsOutput start bytes before None left after
Ran start bytes before (Err fault.WriteFailed) left after = AddsOutput start bytes before (Some fault.WriteFailed) left after ⊎ IsCutOff start bytes before left after
Ran start bytes before (Err fault.OutOfMemory) left after =
    (IsUnkept start bytes left ⊎ (HasRoomForWorkers start × IsUnopened start bytes fault.OutOfMemory left)) × (after ≡ Some before)
Ran start bytes before (Err fault.HeapFull) left after =
    HasRoomForWorkers start × (start.blocks < start.workers) × IsUnopened start bytes fault.HeapFull left × (after ≡ Some before)
Ran start bytes before (Err fault.BadLimits) left after = (¬ HasRoomForWorkers start) × IsUnopened start bytes fault.BadLimits left × (after ≡ Some before)
Ran start bytes before (Err f) left after = AddsOutput start bytes before (Some f) left after

-- What holds of the settings where a run ends with this fault, whatever its source tells of its bytes: with `BadLimits` and
-- `HeapFull` it ends only where the settings are at fault.
abbrev pub IsDue : Start → ScriptFault → Type 0
IsDue start fault.BadLimits = ¬ HasRoomForWorkers start
IsDue start fault.HeapFull = start.blocks < start.workers
IsDue start f = Unit {0}

-- A run from this start of which so much is in its sink, by what its source and its sink tell: of the bytes that are left, how often it
-- was asked and has failed, and of the bytes that were taken.
pub record RunsAs {S K T : Type 0} (Stands : Start → List ℕ → List ℕ → Result T ScriptFault → List ℕ → Option (List ℕ) → Type 0) (left : S → Option (List ℕ))
    (asks failures : S → ℕ) (taken : K → Option (List ℕ)) (source source' : S) (sink sink' : K) (start : Start) (result : Result T ScriptFault) : Type 0 where
  pub output : (bytes before : List ℕ) → left source ≡ Some bytes → taken sink ≡ Some before →
      (rest : List ℕ) × (left source' ≡ Some rest) × Stands start bytes before result rest (taken sink')
  pub due : IfErr result (IsDue start)
  pub asked : asks source' ≤ asks source + 1048577
  pub read_failed : failures source' ≡ failures source + read_failures result

-- a run that writes replies
abbrev pub RunsFrom : {S K T : Type 0} → (S → Option (List ℕ)) → (S → ℕ) → (S → ℕ) → (K → Option (List ℕ)) → S → S → K → K → Start → Result T ScriptFault → Type 0
RunsFrom {S} {K} {T} left asks failures taken source source' sink sink' start result = RunsAs (Ran {T = T}) left asks failures taken source source' sink sink' start result

-- The sink was finished at the end of a run, and has failed where that is reported.
pub record FinishesSink {K T : Type 0} (failures : K → ℕ) (is_finished : K → Bool) (sink sink' : K) (result : Result T ScriptFault) : Type 0 where
  pub write_failed : result ≡ Err fault.WriteFailed → failures sink < failures sink'
  pub unfailed : OnOk result (failures sink' ≡ failures sink)
  pub finished : is_finished sink' ≡ true

-- ---- its end

-- The sink was finished: what was taken is the same still. A fault stands; where there was none and it failed, that is the fault.
abbrev pub Finishes : {T : Type 0} → Option (List ℕ) → ℕ → Result T ScriptFault → Result T ScriptFault → Option (List ℕ) → ℕ → Type 0
Finishes before failures outcome result after failures' =
    KeepsBytes before after × (((result ≡ outcome) × (failures ≤ failures') × (IsOk outcome → failures' ≡ failures))
    ⊎ (IsOk outcome × (result ≡ Err fault.WriteFailed) × (failures' ≡ failures + 1)))
