-- What a strict run is, and its exit status.
use Rattle.std.specs.Prelude.{◌≡◌, ℕ, Bool, true, false, List, Option, Some, None}
use Rattle.std.specs.List.{list_any}
use Rattle.tg_text.specs.declared.answer.Answer.{Answer}
use Rattle.tg_script.specs.Watching.{RanToEnd, IsWatched}
use Rattle.tg_text.specs.Refusing.{says_refusal}
use Rattle.tgstore.specs.Serving.{script_start_of}
use Rattle.tgstore.specs.declared.start.Start.{Start}

-- whether a line was denied or refused, where the run is strict
abbrev pub seen_if : Bool → Bool → Option Bool
seen_if false saw = None
seen_if true saw = Some saw

-- 3 where the run is strict and a line was denied or refused, else 0
abbrev pub status_if : Bool → Bool → ℕ
status_if true true = 3
status_if true false = 0
status_if false saw = 0

-- The watch of a run to the end of its script has seen the answers to its lines. A race has no watch.
abbrev pub WatchesFrom : Start → Option (List ℕ) → Option (List ℕ) → Option (List ℕ) → Option (List ℕ) → Option Bool → Option Bool → Type 0
WatchesFrom start left left' taken taken' saw saw' =
    (bytes before : List ℕ) → left ≡ Some bytes → taken ≡ Some before → start.race ≡ false →
    (rest : List ℕ) × (left' ≡ Some rest) × IsWatched start.entries (script_start_of start) bytes before rest taken' saw saw'

-- The exit status of a run to the end of its script. It is 3 exactly if the run is strict and an answer to one of its lines is a
-- denial or a refusal, else 0. The text of these answers was written, or the text of their history.
abbrev pub HasStatus : Start → Option (List ℕ) → Option (List ℕ) → Option (List ℕ) → Option (List ℕ) → ℕ → Type 0
HasStatus start left left' taken taken' status =
    (bytes before : List ℕ) → left ≡ Some bytes → taken ≡ Some before → start.race ≡ false →
    (rest : List ℕ) × (answers : List Answer) × (left' ≡ Some rest) × RanToEnd start.entries (script_start_of start) bytes before rest taken' answers
    × (status ≡ status_if start.strict (list_any says_refusal answers))
