-- Parts of a run, which are the same whether it tells its lines by replies or by entries.
use Rattle.std.specs.Prelude.{◌≡◌, ◌⊎◌, ℕ, ◌+◌, ◌≤◌, Bool, IfErr, IfNone, IfSome, List, [], ◌∷◌, ◌++◌, length, Option, Some, None, Result, Ok, Err, IsOk}
use Rattle.std.specs.List.{flat_map}
use Rattle.tg_model.specs.declared.value.Value.{Value}
use Rattle.tg_model.specs.Opened.{Plan, IsPlan}
use Rattle.tg_journal.specs.declared.entry.Entry.{Entry}
use Rattle.tg_journal.specs.History.{IsLegal}
use Rattle.tg_text.specs.declared.fault.ScriptFault.{ScriptFault}
use Rattle.tg_text.specs.declared.fault.ScriptFault.TheVariants as fault
use Rattle.tg_text.specs.declared.line.Line.{Line}
use Rattle.tg_text.specs.declared.answer.Answer.{Answer}
use Rattle.tg_text.specs.Sinks.{Writes}
use Rattle.tg_text.specs.Texts.{answer_text}
use Rattle.tg_entries.specs.Texts.{entry_text, history_text}
use Rattle.tg_script.specs.declared.run.Run.{Run}
use Rattle.tg_script.specs.declared.run_script.Begun.{Begun}
use Rattle.tg_script.specs.declared.script.Script.{Script}
use Rattle.tg_script.specs.Entering.{AreEntered, entered, unended_text}
use Rattle.tg_script.specs.Lines.{CountsFailures, IsRestAfter, IsOfReading, ReadsFrom, read_failures, write_failures}
use Rattle.tg_script.specs.Inner.Run.{Handles, MakesEntry, Shows}
use Rattle.tg_script.specs.Script.{Scene, Serves}
use Rattle.tg_script.specs.Inner.Supply.{values_left}
use Rattle.tg_script.specs.Watching.{SeesOne}

-- ---- what is reported of lines

-- what is reported of a line that was answered so, where this was left of the stock
abbrev pub LineText : Type 0
LineText = Line → Answer → List Value → List ℕ

abbrev pub reply_of_line : LineText
reply_of_line l a stock = answer_text a

abbrev pub entry_of_line : LineText
entry_of_line l a stock = flat_map entry_text (entered l a stock)

-- the line was answered, its entry was made, what is told of it was written, or a front of that, and a watch has seen the answer
abbrev pub RunsLine : {P T E : Type 0} → LineText → Run P → Line → Run P → Option (List ℕ) → ℕ → Result T E → Option (List ℕ) → ℕ → Option Bool → Option Bool → Type 0
RunsLine told old l new before failures result after failures' saw saw' =
    (a : Answer) × Handles old l a new × MakesEntry old l a new × Writes before failures (told l a (values_left old.supply)) result after failures' × SeesOne saw a saw'

-- the text for the lines, and their entries
abbrev pub TellsLines : LineText → Scene → List Line → List ℕ → List Entry → Type 0
TellsLines told s [] text es = (text ≡ []) × (es ≡ [])
TellsLines told s (l ∷ lines) text es =
    (a : Answer) × (t : Scene) × (rest : List ℕ) × (more : List Entry) × Serves s l a t × (text ≡ told l a s.stock ++ rest) × (es ≡ entered l a s.stock ++ more)
    × TellsLines told t lines rest more

-- the same where what is reported of the last line was cut short
abbrev pub TellsCut : LineText → Scene → List Line → List ℕ → List Entry → Type 0
TellsCut told s [] front es = ⊥
TellsCut told s (l ∷ []) front es =
    (a : Answer) × (t : Scene) × (rest : List ℕ) × Serves s l a t × (told l a s.stock ≡ front ++ rest) × (es ≡ entered l a s.stock)
TellsCut told s (l ∷ m ∷ lines) front es =
    (a : Answer) × (t : Scene) × (rest : List ℕ) × (more : List Entry) × Serves s l a t × (front ≡ told l a s.stock ++ rest) × (es ≡ entered l a s.stock ++ more)
    × TellsCut told t (m ∷ lines) rest more

-- ---- from the first line on that is no edge line

-- the lines after the first are read so far, and the text and the entries are those of all of them
abbrev pub IsTold : LineText → Script → List ℕ → Scene → Line → Option ScriptFault → List ℕ → List ℕ → List Entry → Type 0
IsTold told s bytes t first end left text es = (lines : List Line) × ReadsFrom s bytes lines end left × TellsLines told t (first ∷ lines) text es

-- such a text is after what was written before, and such entries after those that there were
abbrev pub StandsTold : LineText → Script → List ℕ → Scene → Line → List Entry → List ℕ → Option ScriptFault → List ℕ → List Entry → Option (List ℕ) → Type 0
StandsTold told s bytes t first begun before end left entries after =
    (text : List ℕ) × (es : List Entry) × (after ≡ Some (before ++ text)) × (entries ≡ begun ++ es) × IsTold told s bytes t first end left text es

-- what is reported of one of them was cut short, and this much of the text stands
abbrev pub CutsTold : LineText → Script → List ℕ → Scene → Line → List ℕ → List ℕ → List Entry → Type 0
CutsTold told s bytes t first left front es =
    (lines : List Line) × ReadsFrom s bytes lines (Some fault.WriteFailed) left × IsRestAfter lines bytes left × TellsCut told t (first ∷ lines) front es

-- such a part of a text is after what was written before, and such entries after those that there were
abbrev pub StandsCut : LineText → Script → List ℕ → Scene → Line → List Entry → List ℕ → List ℕ → List Entry → Option (List ℕ) → Type 0
StandsCut told s bytes t first begun before left entries after =
    (front : List ℕ) × (es : List Entry) × (after ≡ Some (before ++ front)) × (entries ≡ begun ++ es) × CutsTold told s bytes t first left front es

-- what is in the sink after the lines from the first on that is no edge line, which entries there are, and what is left after them
abbrev pub TellsAll : {T : Type 0} → LineText → Script → List ℕ → Scene → Line → List Entry → List ℕ → Result T ScriptFault → List ℕ → List Entry → Option (List ℕ) → Type 0
TellsAll told s bytes t first begun before (Ok done) left entries after = StandsTold told s bytes t first begun before None left entries after
TellsAll told s bytes t first begun before (Err fault.WriteFailed) left entries after =
    StandsTold told s bytes t first begun before (Some fault.WriteFailed) left entries after ⊎ StandsCut told s bytes t first begun before left entries after
TellsAll told s bytes t first begun before (Err f) left entries after = IsOfReading f × StandsTold told s bytes t first begun before (Some f) left entries after

-- ---- a history, from its opening on

-- what a run over the lines from the first on that is no edge line tells; where there is none it tells nothing, and meets no fault
abbrev pub TellsFirst : {T : Type 0} → LineText → Script → List ℕ → Scene → Option Line → List Entry → List ℕ → Result T ScriptFault → List ℕ → List Entry → Option (List ℕ) → Type 0
TellsFirst told s bytes t None begun before r left entries after = IsOk r × (left ≡ bytes) × (entries ≡ begun) × (after ≡ Some before)
TellsFirst told s bytes t (Some l) begun before r left entries after = TellsAll told s bytes t l begun before r left entries after

-- The same by what source and sink tell beside their bytes: no fault was met but one of reading, each failure is reported, and the source
-- was asked for no more than the script may take.
pub record UsesStreams {S K T : Type 0} (asks read : S → ℕ) (written : K → ℕ) (source source' : S) (sink sink' : K) (s : Script) (first : Option Line)
    (result : Result T ScriptFault) : Type 0 where
  pub fault : IfErr result IsOfReading
  pub failures : CountsFailures read written source source' sink sink' (read_failures result) (write_failures result)
  pub asked : IfSome first (λ _. asks source' ≤ asks source + s.lines.room + 1)
  pub unasked : IfNone first (asks source' ≡ asks source)

-- these are the lines from the first on that is no edge line; where there is none, no fault but of writing is met after it
abbrev pub ReadsCommands : Script → List ℕ → Option Line → List Line → Option ScriptFault → List ℕ → Type 0
ReadsCommands s bytes None lines None left = (lines ≡ []) × (left ≡ bytes)
ReadsCommands s bytes None lines (Some f) left = (lines ≡ []) × (left ≡ bytes) × (f ≡ fault.WriteFailed)
ReadsCommands s bytes (Some l) lines end left = (more : List Line) × (lines ≡ l ∷ more) × ReadsFrom s bytes more end left

-- these are the entries of the lines, and they are a legal history
abbrev pub AreLegal : Scene → List Line → List Entry → Type 0
AreLegal t lines es = AreEntered t lines es × IsLegal t.graph es

-- what is in the sink after the opening, the lines and the end, and what is left after them
abbrev pub EntersAll : {T : Type 0} → Script → List ℕ → Scene → Option Line → Plan → List ℕ → Result T ScriptFault → List ℕ → Option (List ℕ) → Type 0
EntersAll s bytes t first p before (Ok done) left after =
    (lines : List Line) × (es : List Entry) × ReadsCommands s bytes first lines None left × AreLegal t lines es × IsPlan p × (after ≡ Some (before ++ history_text p es))
EntersAll s bytes t first p before (Err fault.WriteFailed) left after =
    (lines : List Line) × (later : List Line) × (es : List Entry) × (front : List ℕ) × (rest : List ℕ)
    × ReadsCommands s bytes first (lines ++ later) (Some fault.WriteFailed) left × (length later ≤ 1) × AreLegal t lines es
    × (history_text p es ≡ front ++ rest) × (after ≡ Some (before ++ front))
EntersAll s bytes t first p before (Err f) left after =
    IsOfReading f × (lines : List Line) × (es : List Entry) × ReadsCommands s bytes first lines (Some f) left × AreLegal t lines es
    × (after ≡ Some (before ++ unended_text p lines es))

-- ---- by what source and sink tell of their bytes

-- Whatever scene the run shows: what its lines from the first on leave in the sink, which entries there are then, and what is left
-- after them.
abbrev pub RunsCommands : {S K P T : Type 0} → (S → Option (List ℕ)) → (K → Option (List ℕ)) → LineText → S → S → K → K → Begun P → Begun P → Result T ScriptFault → Type 0
RunsCommands left taken told source source' sink sink' begun begun' result =
    (t : Scene) (rest before : List ℕ) → Shows begun.run t → left source ≡ Some rest → taken sink ≡ Some before →
    (last : List ℕ) × (left source' ≡ Some last) × TellsFirst told begun.script rest t begun.first begun.run.store.entries before result last begun'.run.store.entries (taken sink')

-- the same where the opening, the entries and their number are written
abbrev pub EntersCommands : {S K P T : Type 0} → (S → Option (List ℕ)) → (K → Option (List ℕ)) → S → S → K → K → Begun P → Result T ScriptFault → Type 0
EntersCommands left taken source source' sink sink' begun result =
    (t : Scene) (rest before : List ℕ) → Shows begun.run t → left source ≡ Some rest → taken sink ≡ Some before →
    (last : List ℕ) × (left source' ≡ Some last) × EntersAll begun.script rest t begun.first begun.run.store.opening.plan before result last (taken sink')
