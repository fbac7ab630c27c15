-- What is written for the lines of a script where their entries are written in the place of replies.
use Rattle.std.specs.Prelude.{◌≡◌, ℕ, ◌≤◌, Bool, true, false, List, [], ◌∷◌, ◌++◌, length, Option, Some, None, Result, Ok, Err}
use Rattle.std.specs.List.{flat_map}
use Rattle.tg_model.specs.declared.value.Value.{Value}
use Rattle.tg_model.specs.declared.command.Deed.{Deed}
use Rattle.tg_model.specs.declared.command.Deed.TheVariants as deed
use Rattle.tg_model.specs.declared.reply.Reply.{Reply}
use Rattle.tg_model.specs.Opened.{Plan, IsPlan}
use Rattle.tg_journal.specs.declared.entry.Entry.{Entry}
use Rattle.tg_journal.specs.History.{IsLegal}
use Rattle.tg_text.specs.declared.line.Line.{Line}
use Rattle.tg_text.specs.declared.line.Line.TheVariants as line
use Rattle.tg_text.specs.declared.answer.Answer.{Answer}
use Rattle.tg_text.specs.declared.answer.Answer.TheVariants as told
use Rattle.tg_text.specs.declared.fault.ScriptFault.{ScriptFault}
use Rattle.tg_text.specs.declared.fault.ScriptFault.TheVariants as fault
use Rattle.tg_text.specs.Reading.{ReadsScript}
use Rattle.tg_entries.specs.Texts.{entry_text, head_text, history_text}
use Rattle.tg_script.specs.Script.{Scene, Serves, Start, CanOpen, MayAnswer, commands_of, create_of, edges_of, scene_of, spawn_of}
use Rattle.tg_script.specs.Running.{Ran, RunsAs}

-- ---- the entries of lines

-- x asked for a vertex with the first value of a stock
abbrev pub making_entered : ℕ → (Value → Deed) → List Value → Reply → List Entry
making_entered x making [] r = []
making_entered x making (value ∷ rest) r = (record { worker = x; deed = making value; reply = r }) ∷ []

-- The entry of a line that was answered so, where this was left of the stock: a reply has one, with the deed that was asked for, and
-- neither a refusal nor a collection has.
abbrev pub entered : Line → Answer → List Value → List Entry
entered (line.Create x label) (told.Reply r) stock = making_entered x (create_of label) stock r
entered (line.Spawn x label) (told.Reply r) stock = making_entered x (spawn_of label) stock r
entered (line.Plain x command) (told.Reply r) stock = (record { worker = x; deed = deed.Plain command; reply = r }) ∷ []
entered l a stock = []

-- these are the entries of the lines, each of which is answered, or refused for lack
abbrev pub AreEntered : Scene → List Line → List Entry → Type 0
AreEntered s [] es = es ≡ []
AreEntered s (l ∷ lines) es =
    (a : Answer) × (t : Scene) × (more : List Entry) × Serves s l a t × (es ≡ entered l a s.stock ++ more) × AreEntered t lines more

-- ---- the whole of a script

-- the opening that the edge lines of a script make
abbrev pub plan_of : Start → List Line → Plan
plan_of start lines = record { workers = start.workers; edges = edges_of lines; values = start.values; limit = start.limit }

-- these commands of a script were run, and these are their entries, a legal history of its opening
pub record EntersScript (start : Start) (lines commands : List Line) (entries : List Entry) : Type 0 where
  pub opened : MayAnswer start lines
  pub entered : AreEntered (scene_of start lines) commands entries
  pub legal : IsLegal (scene_of start lines).graph entries

-- the text for commands after which there is a fault: nothing where there is none, since no store is opened then
abbrev pub unended_text : Plan → List Line → List Entry → List ℕ
unended_text p [] es = []
unended_text p (l ∷ commands) es = head_text p ++ flat_map entry_text es

-- all that was read was run, and this text is after what was written before
pub record StandsEntered (start : Start) (bytes before : List ℕ) (end : Option ScriptFault) (text : Plan → List Line → List Entry → List ℕ) (left : List ℕ)
    (after : Option (List ℕ)) : Type 0 where
  pub lines : List Line
  pub entries : List Entry
  pub reads : ReadsScript start.workers bytes lines end left
  pub run : EntersScript start lines (commands_of lines) entries
  pub stands : after ≡ Some (before ++ text (plan_of start lines) (commands_of lines) entries)

-- Writing came to an error: a front of the text of a history stands, whose entries are those of the commands that were read, or of
-- all but the last.
pub record IsCutEntered (start : Start) (bytes before left : List ℕ) (after : Option (List ℕ)) : Type 0 where
  pub lines : List Line
  pub commands : List Line
  pub later : List Line
  pub entries : List Entry
  pub front : List ℕ
  pub rest : List ℕ
  pub reads : ReadsScript start.workers bytes lines (Some fault.WriteFailed) left
  pub are : commands_of lines ≡ commands ++ later
  pub few : length later ≤ 1
  pub run : EntersScript start lines commands entries
  pub cut : history_text (plan_of start lines) entries ≡ front ++ rest
  pub stands : after ≡ Some (before ++ front)

-- What is in the sink after a run over these bytes that writes entries, where `before` stood in it, and what is left of them: the text
-- of a legal history, whose opening and entries are those of the script; or without its end, for the lines before the first fault.
-- Where the store wasn't opened, what a run that writes replies leaves.
abbrev pub RanEntering : {T : Type 0} → Start → List ℕ → List ℕ → Result T ScriptFault → List ℕ → Option (List ℕ) → Type 0
RanEntering start bytes before (Ok done) left after =
    CanOpen start × (s : StandsEntered start bytes before None (λ p commands es. history_text p es) left after) × IsPlan (plan_of start s.lines)
RanEntering start bytes before (Err fault.WriteFailed) left after = IsCutEntered start bytes before left after
RanEntering {T} start bytes before (Err fault.OutOfMemory) left after = Ran {T = T} start bytes before (Err fault.OutOfMemory) left after
RanEntering {T} start bytes before (Err fault.HeapFull) left after = Ran {T = T} start bytes before (Err fault.HeapFull) left after
RanEntering {T} start bytes before (Err fault.BadLimits) left after = Ran {T = T} start bytes before (Err fault.BadLimits) left after
RanEntering start bytes before (Err f) left after = StandsEntered start bytes before (Some f) unended_text left after

-- A run from this start that writes entries, by what its source and its sink tell.
abbrev pub EntersFrom : {S K T : Type 0} → (S → Option (List ℕ)) → (S → ℕ) → (S → ℕ) → (K → Option (List ℕ)) → S → S → K → K → Start → Result T ScriptFault → Type 0
EntersFrom {S} {K} {T} left asks failures taken source source' sink sink' start result = RunsAs (RanEntering {T = T}) left asks failures taken source source' sink sink' start result

-- what stands behind a script that was run, whether entries are written or replies
abbrev pub RanAs : {T : Type 0} → Bool → Start → List ℕ → List ℕ → Result T ScriptFault → List ℕ → Option (List ℕ) → Type 0
RanAs false start bytes before r left after = Ran start bytes before r left after
RanAs true start bytes before r left after = RanEntering start bytes before r left after
