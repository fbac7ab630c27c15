-- What is written for the lines of a script that is run on a store which exists. None of them is an edge line.
use Rattle.std.specs.Prelude.{◌≡◌, ℕ, ◌+◌, Bool, true, false, List, [], ◌++◌, length, Option, Some, None, Result, Ok, Err}
use Rattle.std.specs.List.{flat_map}
use Rattle.tg_journal.specs.declared.entry.Entry.{Entry}
use Rattle.tg_journal.specs.History.{IsLegal}
use Rattle.tg_store.specs.Store.{graph_of_store}
use Rattle.tg_text.specs.declared.line.Line.{Line}
use Rattle.tg_text.specs.declared.answer.Answer.{Answer}
use Rattle.tg_text.specs.declared.fault.ScriptFault.{ScriptFault}
use Rattle.tg_text.specs.declared.fault.ScriptFault.TheVariants as fault
use Rattle.tg_text.specs.Reading.{ReadsScript}
use Rattle.tg_text.specs.Texts.{answer_text}
use Rattle.tg_entries.specs.Texts.{end_text, entry_text}
use Rattle.tg_script.specs.declared.going.RunOn.{RunOn}
use Rattle.tg_script.specs.Script.{Scene, commands_of}
use Rattle.tg_script.specs.Watching.{AreAnswered, SeesAll}

-- the graph that the store represents, the stock, and the helpers
abbrev pub scene_on : {P : Type 0} → RunOn P → Scene
scene_on from = record { graph = graph_of_store from.store; stock = from.stock.items; helpers = from.helpers }

-- The lines of these bytes were read up to this fault, or to the end. There are no workers of an opening, so an edge line is a bad line. The
-- lines have these answers from the scene on, and made these entries.
pub record GoesOn (s : Scene) (bytes : List ℕ) (end : Option ScriptFault) (left : List ℕ) (answers : List Answer) (es : List Entry) : Type 0 where
  pub lines : List Line
  pub reads : ReadsScript 0 bytes lines end left
  pub answered : AreAnswered s (commands_of lines) answers es
  pub legal : IsLegal s.graph es

-- the text of these answers, or that of the entries that they made
abbrev pub answers_text : Bool → List Answer → List Entry → List ℕ
answers_text false answers es = flat_map answer_text answers
answers_text true answers es = flat_map entry_text es

-- the text after it where the script was run to its end: nothing, or the number of all entries, of which so many were there before
abbrev pub closing_text : Bool → ℕ → List Entry → List ℕ
closing_text false count es = []
closing_text true count es = end_text (count + length es)

-- the whole text
abbrev pub whole_text : Bool → ℕ → List Answer → List Entry → List ℕ
whole_text entries count answers es = answers_text entries answers es ++ closing_text entries count es

-- What is in the sink after a run over these bytes, where `before` stood in it, what is left of them, and what a watch has seen: the whole
-- text, or a front of it where the sink failed, or the text for the lines before another fault.
abbrev pub GoneOn : {T : Type 0} → Bool → Scene → ℕ → List ℕ → List ℕ → Option Bool → Result T ScriptFault → List ℕ → Option (List ℕ) → Option Bool → Type 0
GoneOn entries s count bytes before saw (Ok done) left after saw' =
    (answers : List Answer) × (es : List Entry) × GoesOn s bytes None left answers es × (after ≡ Some (before ++ whole_text entries count answers es)) × SeesAll saw answers saw'
GoneOn entries s count bytes before saw (Err fault.WriteFailed) left after saw' =
    (answers : List Answer) × (es : List Entry) × (front : List ℕ) × (rest : List ℕ) × GoesOn s bytes (Some fault.WriteFailed) left answers es
    × (whole_text entries count answers es ≡ front ++ rest) × (after ≡ Some (before ++ front))
GoneOn entries s count bytes before saw (Err f) left after saw' =
    (answers : List Answer) × (es : List Entry) × GoesOn s bytes (Some f) left answers es × (after ≡ Some (before ++ answers_text entries answers es))

-- the same by what source, sink and watch tell
abbrev pub GoesOnFrom : {S K W T : Type 0} → (S → Option (List ℕ)) → (K → Option (List ℕ)) → (W → Option Bool) → S → S → K → K → W → W → Bool → Scene → ℕ → Result T ScriptFault → Type 0
GoesOnFrom left taken refused source source' sink sink' watch watch' entries s count result =
    (bytes before : List ℕ) → left source ≡ Some bytes → taken sink ≡ Some before →
    (rest : List ℕ) × (left source' ≡ Some rest) × GoneOn entries s count bytes before (refused watch) result rest (taken sink') (refused watch')
