-- What a watch has seen when a script was run to its end.
use Rattle.std.specs.Prelude.{◌≡◌, ℕ, Bool, true, false, ◌||◌, List, [], ◌∷◌, ◌++◌, Option, Some, None}
use Rattle.std.specs.List.{flat_map, list_any}
use Rattle.tg_model.specs.Opened.{Plan}
use Rattle.tg_journal.specs.declared.entry.Entry.{Entry}
use Rattle.tg_text.specs.declared.line.Line.{Line}
use Rattle.tg_text.specs.declared.answer.Answer.{Answer}
use Rattle.tg_text.specs.Reading.{ReadsScript}
use Rattle.tg_text.specs.Refusing.{says_refusal}
use Rattle.tg_text.specs.Texts.{answer_text}
use Rattle.tg_entries.specs.Texts.{history_text}
use Rattle.tg_script.specs.Entering.{entered, plan_of}
use Rattle.tg_script.specs.Script.{Scene, Serves, Start, commands_of, scene_of}

-- what a watch has seen before an answer, and with it: whether a line was denied or refused, where that is known
abbrev pub SeesOne : Option Bool → Answer → Option Bool → Type 0
SeesOne (Some saw) a after = after ≡ Some (saw || says_refusal a)
SeesOne None a after = Unit {0}

-- the same before many answers, and with them
abbrev pub SeesAll : Option Bool → List Answer → Option Bool → Type 0
SeesAll (Some saw) answers after = after ≡ Some (saw || list_any says_refusal answers)
SeesAll None answers after = Unit {0}

-- these are the answers to the lines, in turn, and these the entries that they made
abbrev pub AreAnswered : Scene → List Line → List Answer → List Entry → Type 0
AreAnswered s [] answers es = (answers ≡ []) × (es ≡ [])
AreAnswered s (l ∷ lines) answers es =
    (a : Answer) × (t : Scene) × (rest : List Answer) × (more : List Entry) × Serves s l a t × (answers ≡ a ∷ rest) × (es ≡ entered l a s.stock ++ more)
    × AreAnswered t lines rest more

-- the text of these answers, or that of the history which has these entries
abbrev pub text_as : Bool → Plan → List Answer → List Entry → List ℕ
text_as false p answers es = flat_map answer_text answers
text_as true p answers es = history_text p es

-- The script of these bytes was run to its end. Its lines have these answers, whose text stands behind what was written before, or that of
-- their history.
pub record RanToEnd (entries : Bool) (start : Start) (bytes before left : List ℕ) (after : Option (List ℕ)) (answers : List Answer) : Type 0 where
  pub lines : List Line
  pub made : List Entry
  pub reads : ReadsScript start.workers bytes lines None left
  pub answered : AreAnswered (scene_of start lines) (commands_of lines) answers made
  pub stands : after ≡ Some (before ++ text_as entries (plan_of start lines) answers made)

-- and the watch has seen just these answers
abbrev pub IsWatched : Bool → Start → List ℕ → List ℕ → List ℕ → Option (List ℕ) → Option Bool → Option Bool → Type 0
IsWatched entries start bytes before left after saw saw' = (answers : List Answer) × RanToEnd entries start bytes before left after answers × SeesAll saw answers saw'

-- the same by what a source, a sink and a watch tell
abbrev pub SeesFrom : {S K W : Type 0} → (S → Option (List ℕ)) → (K → Option (List ℕ)) → (W → Option Bool) → S → S → K → K → W → W → Bool → Start → Type 0
SeesFrom left taken refused source source' sink sink' watch watch' entries start =
    (bytes before : List ℕ) → left source ≡ Some bytes → taken sink ≡ Some before →
    (rest : List ℕ) × (left source' ≡ Some rest) × IsWatched entries start bytes before rest (taken sink') (refused watch) (refused watch')
