-- What a run of lines leaves besides what it tells: the stock, the entries, and where the script is.
use Rattle.std.specs.Prelude.{◌≡◌, ℕ, ◌+◌, false, List, [], ◌++◌, length, IfNone, Option, Some, None, Result, Ok, Err}
use Rattle.tg_journal.specs.declared.entry.Entry.{Entry}
use Rattle.tg_text.specs.declared.line.Line.{Line}
use Rattle.tg_text.specs.declared.fault.ScriptFault.{ScriptFault}
use Rattle.tg_text.specs.declared.fault.ScriptFault.TheVariants as fault
use Rattle.tg_script.specs.declared.parts.ScriptRun.{ScriptRun}
use Rattle.tg_script.specs.declared.run.Run.{Run}
use Rattle.tg_script.specs.declared.run_script.Begun.{Begun}
use Rattle.tg_script.specs.declared.script.Script.{Script}
use Rattle.tg_script.specs.Lines.{ReadsFrom}
use Rattle.tg_script.specs.Parts.{ReadsPart, ReadsPartAfter, may_come, stock_after}
use Rattle.tg_script.specs.Inner.Supply.{values_left}
use Rattle.tg_script.specs.Inner.Telling.{ReadsCommands}

-- the run has made these entries, which have taken their values from the stock
pub record TakesStock {P : Type 0} (old new : Run P) : Type 0 where
  pub made : List Entry
  pub entries : new.store.entries ≡ old.store.entries ++ made
  pub stock : values_left new.supply ≡ stock_after (values_left old.supply) made
  pub helpers : new.helpers ≡ old.helpers

-- These lines were taken of the bytes, and these bytes are left. What is read after them, with more bytes behind, is read after them.
pub record PassesLines (start : Script) (bytes : List ℕ) (s : Script) (rest : List ℕ) : Type 0 where
  pub lines : List Line
  pub further : (more : List ℕ) (others : List Line) (end : Option ScriptFault) (left : List ℕ) → ReadsFrom s (rest ++ more) others end left → ReadsFrom start (bytes ++ more) (lines ++ others) end left
  pub room : s.lines.room + length bytes ≡ start.lines.room + length rest

-- The lines after the first were taken, to the end of the bytes. If there is no first line, nothing was.
abbrev pub PassedFrom : Option Line → Script → Script → List ℕ → Type 0
PassedFrom None old new bytes = new ≡ old
PassedFrom (Some l) old new bytes = PassesLines old bytes new [] × (new.opening ≡ false)

-- the same by what a source tells
abbrev pub PassesCommands : {S P : Type 0} → (S → Option (List ℕ)) → S → S → Begun P → Begun P → Type 0
PassesCommands left source source' old new = (bytes : List ℕ) → left source ≡ Some bytes → PassedFrom old.first old.script new.script bytes

-- The first line of a part was read, or there is one from before. Whatever is read after it is read in the part, with more bytes behind
-- too. Or a fault was met, or the end.
pub record FirstCame {P : Type 0} (old new : ScriptRun P) (bytes rest : List ℕ) : Type 0 where
  pub reads : (lines : List Line) (end : Option ScriptFault) (left : List ℕ) → ReadsCommands new.begun.script rest new.begun.first lines end left → ReadsPart old bytes lines end left
  pub further : (more : List ℕ) (others : List Line) (end : Option ScriptFault) (left : List ℕ) → ReadsPartAfter new.begun.first new.begun.script (rest ++ more) others end left → ReadsPart old (bytes ++ more) others end left
  pub room : may_come new + length bytes ≡ may_come old + length rest
  pub ended : IfNone new.begun.first (rest ≡ [])

-- the outcome of the first line, and what the sink has then
abbrev pub FirstTaken : {P T : Type 0} → ScriptRun P → ScriptRun P → List ℕ → List ℕ → Result T ScriptFault → List ℕ → Option (List ℕ) → Type 0
FirstTaken old new bytes before (Ok done) rest after = FirstCame old new bytes rest × (after ≡ Some before)
FirstTaken old new bytes before (Err f) rest after = ReadsPart old bytes [] (Some f) rest × (after ≡ Some before)

-- the same by what source and sink tell
abbrev pub TakesFirst : {S K P T : Type 0} → (S → Option (List ℕ)) → (K → Option (List ℕ)) → S → S → K → K → ScriptRun P → ScriptRun P → Result T ScriptFault → Type 0
TakesFirst left taken source source' sink sink' old new result =
    (bytes before : List ℕ) → left source ≡ Some bytes → taken sink ≡ Some before → (rest : List ℕ) × (left source' ≡ Some rest) × FirstTaken old new bytes before result rest (taken sink')
