-- Text with marks: what is told of lines, with a mark in front of what is told of each that was denied or refused. No such text is written.
-- It says of one list of answers both what is written and what a watch has seen. A mark is 0, and a byte is one more than itself.
use Rattle.std.specs.Prelude.{◌≡◌, ℕ, zero, suc, Bool, true, false, ◌||◌, List, [], ◌∷◌, ◌++◌, map, Option, Some, None, Ok}
use Rattle.std.specs.List.{flat_map, list_any}
use Rattle.tg_model.specs.Opened.{Plan}
use Rattle.tg_journal.specs.declared.entry.Entry.{Entry}
use Rattle.tg_text.specs.declared.line.Line.{Line}
use Rattle.tg_text.specs.declared.answer.Answer.{Answer}
use Rattle.tg_script.specs.declared.run_script.Begun.{Begun}
use Rattle.tg_script.specs.declared.script.Script.{Script}
use Rattle.tg_script.specs.Inner.Run.{Shows}
use Rattle.tg_script.specs.Inner.Telling.{LineText, ReadsCommands, TellsFirst}
use Rattle.tg_script.specs.Script.{Scene}
use Rattle.tg_script.specs.Watching.{AreAnswered, SeesAll, text_as}
use Rattle.tg_text.specs.Refusing.{says_refusal}

-- ---- one text

-- the bytes, with a mark in front where this says so
abbrev pub marked : Bool → List ℕ → List ℕ
marked false bytes = map suc bytes
marked true bytes = 0 ∷ map suc bytes

abbrev pub byte_of : ℕ → List ℕ
byte_of zero = []
byte_of (suc byte) = byte ∷ []

abbrev pub is_mark : ℕ → Bool
is_mark zero = true
is_mark (suc byte) = false

-- the bytes alone
abbrev pub bytes_of : List ℕ → List ℕ
bytes_of log = flat_map byte_of log

-- what is told of a line, with a mark in front where it was denied or refused
abbrev pub marks : LineText → LineText
marks told l a stock = marked (says_refusal a) (told l a stock)

-- what a watch has seen before such a text, and behind it
abbrev pub SeesMarks : Option Bool → List ℕ → Option Bool → Type 0
SeesMarks (Some saw) log after = after ≡ Some (saw || list_any is_mark log)
SeesMarks None log after = Unit {0}

-- ---- the lines from the first on that is no edge line

-- such a text is told of the lines, its bytes stand behind what was written before, and a watch has seen its marks
abbrev pub SeesTold : LineText → Script → List ℕ → Scene → Option Line → List Entry → List ℕ → List ℕ → List Entry → Option (List ℕ) → Option Bool → Option Bool → Type 0
SeesTold told s bytes t first begun before left entries after saw saw' =
    (log : List ℕ) × TellsFirst {T = Unit {0}} (marks told) s bytes t first begun [] (Ok tt) left entries (Some log) × (after ≡ Some (before ++ bytes_of log)) × SeesMarks saw log saw'

-- the same by what source, sink and watch tell
abbrev pub SeesCommands : {S K W P : Type 0} → (S → Option (List ℕ)) → (K → Option (List ℕ)) → (W → Option Bool) → LineText → S → S → K → K → W → W → Begun P → Begun P → Type 0
SeesCommands left taken refused told source source' sink sink' watch watch' begun begun' =
    (t : Scene) (rest before : List ℕ) → Shows begun.run t → left source ≡ Some rest → taken sink ≡ Some before →
    (last : List ℕ) × (left source' ≡ Some last)
    × SeesTold told begun.script rest t begun.first begun.run.store.entries before last begun'.run.store.entries (taken sink') (refused watch) (refused watch')

-- ---- and their answers

-- the lines have answers, whose text stands behind what was written before, or that of their history, and a watch has seen just these
abbrev pub AnswersSeen : Bool → Script → List ℕ → Scene → Option Line → Plan → List ℕ → List ℕ → Option (List ℕ) → Option Bool → Option Bool → Type 0
AnswersSeen entries s bytes t first p before left after saw saw' =
    (lines : List Line) × (answers : List Answer) × (es : List Entry) × ReadsCommands s bytes first lines None left × AreAnswered t lines answers es
    × (after ≡ Some (before ++ text_as entries p answers es)) × SeesAll saw answers saw'

-- the same by what source, sink and watch tell, where the opening, the entries and their number are written
abbrev pub SeesEntered : {S K W P : Type 0} → (S → Option (List ℕ)) → (K → Option (List ℕ)) → (W → Option Bool) → S → S → K → K → W → W → Begun P → Type 0
SeesEntered left taken refused source source' sink sink' watch watch' begun =
    (t : Scene) (rest before : List ℕ) → Shows begun.run t → left source ≡ Some rest → taken sink ≡ Some before →
    (last : List ℕ) × (left source' ≡ Some last) × AnswersSeen true begun.script rest t begun.first begun.run.store.opening.plan before last (taken sink') (refused watch) (refused watch')
