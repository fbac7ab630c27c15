-- A run that goes on from the history of a file.
use Rattle.std.specs.Prelude.{◌≡◌, ◌≢◌, ◌≤◌, ℕ, Bool, true, false, List, ◌++◌, length, map, Option, Some, None, Result, Ok, Err}
use Rattle.std.specs.List.{list_any}
use Rattle.tg_journal.specs.declared.entry.Entry.{Entry}
use Rattle.tg_text.specs.declared.answer.Answer.{Answer}
use Rattle.tg_entries.specs.declared.kept.History.{History}
use Rattle.tg_entries.specs.declared.kept.HistoryStart.{HistoryStart}
use Rattle.tg_entries.specs.declared.kept.HistoryStart.TheVariants.{Opened, Shown}
use Rattle.tg_entries.specs.Kept.{IsTextOf}
use Rattle.tg_revive.specs.Reviving.{IsRevived, entries_made_before}
use Rattle.tg_script.specs.declared.going.RunOn.{RunOn}
use Rattle.tg_script.specs.GoingOn.{GoesOn, GoneOn, scene_on, whole_text}
use Rattle.tg_threads.specs.Output.{count_before}
use Rattle.tg_threads.specs.Race.{HasRaced, MayRaceOn, race_on}
use Rattle.tg_text.specs.Refusing.{says_refusal}
use Rattle.tgstore.specs.Boxes.{value_of_item}
use Rattle.tgstore.specs.Serving.{race_text_on_as}
use Rattle.tgstore.specs.Strict.{status_if}
use Rattle.tgstore.specs.declared.onward.Onward.{Onward}
use Rattle.tgstore.specs.declared.onward.Onward.TheVariants.{Lines, Race}
use Rattle.tgstore.specs.declared.resuming.HistoryFault.{HistoryFault}
use Rattle.tgstore.specs.declared.resuming.HistoryFault.TheVariants.{Text, OtherWorkers, OtherVertices, Store, NobodyActs}
use Rattle.tgstore.specs.declared.settings.Asked.{Asked}
use Rattle.tgstore.specs.declared.start.ResumedStart.{ResumedStart}
use Rattle.tgstore.specs.declared.stop.Stop.{Stop}
use Rattle.tgstore.specs.declared.stop.Stop.TheVariants as stop

-- how many workers are named at the head of a history
abbrev pub workers_of : HistoryStart → ℕ
workers_of (Opened opening) = opening.workers
workers_of (Shown snapshot) = length snapshot.picture.subjects

-- how many vertices may ever be made by it
abbrev pub limit_of : HistoryStart → ℕ
limit_of (Opened opening) = opening.limit
limit_of (Shown snapshot) = snapshot.picture.limit

-- the number that the words give is this, or they give none
abbrev pub IsAsked : Option ℕ → ℕ → Type 0
IsAsked None has = Unit {0}
IsAsked (Some n) has = n ≡ has

-- the history is as the words ask
pub record MeetsAsked (asked : Asked) (begin : HistoryStart) : Type 0 where
  pub workers : IsAsked asked.workers (workers_of begin)
  pub vertices : IsAsked asked.max_vertices (limit_of begin)

-- the number of the words, and the other one of the history
abbrev pub IsOther : Asked → HistoryStart → HistoryFault → Type 0
IsOther asked begin (Text fault) = ⊥
IsOther asked begin (OtherWorkers n has) = (asked.workers ≡ Some n) × (has ≡ workers_of begin) × (n ≢ has)
IsOther asked begin (OtherVertices n has) = IsAsked asked.workers (workers_of begin) × (asked.max_vertices ≡ Some n) × (has ≡ limit_of begin) × (n ≢ has)
IsOther asked begin (Store fault) = ⊥
IsOther asked begin NobodyActs = ⊥

-- A run after this history has the store after the history. It has a new box of each kind of the stock, and the helpers that were
-- asked for. Its counts leave out the entries before the history.
pub record IsRunAfter (history : History) (start : ResumedStart) {P : Type 0} (from : RunOn P) : Type 0 where
  pub store : IsRevived history.start history.entries.items start.limits from.store
  pub skipped : from.skipped ≡ entries_made_before history.start
  pub stock : from.stock.items ≡ map value_of_item start.stock.items
  pub helpers : from.helpers ≡ start.helpers

-- A run or a race after this history, as the start asks.
abbrev pub IsOnwardAfter : {P : Type 0} → History → ResumedStart → Onward P → Type 0
IsOnwardAfter history start (Lines from) = (start.race ≡ false) × IsRunAfter history start from
IsOnwardAfter history start (Race on) = (start.race ≡ true) × IsRunAfter history start on.from

-- a run or a race after the history that has this text, if the history is as the words ask
pub record IsResumed (text : List ℕ) (start : ResumedStart) {P : Type 0} (from : Onward P) : Type 0 where
  pub history : History
  pub is : IsTextOf text history
  pub asked : MeetsAsked start.asked history.start
  pub run : IsOnwardAfter history start from

-- A run may go on from there. The auditor of a race is at the head of the history, and somebody acts.
abbrev pub MayGoOnward : {P : Type 0} → Onward P → Type 0
MayGoOnward (Lines from) = from.skipped ≤ length from.store.entries
MayGoOnward (Race on) = MayRaceOn on

-- The script of these bytes was run from there, to its end or to a fault. These bytes are left, these are in the sink, and this was
-- seen by a watch. A race has no watch.
abbrev pub WentOn : {P T : Type 0} → Bool → Onward P → List ℕ → List ℕ → Option Bool → Result T Stop → List ℕ → Option (List ℕ) → Option Bool → Type 0
WentOn {P} {T} entries (Lines from) bytes before saw (Ok done) left after saw' = GoneOn {T = T} entries (scene_on from) (count_before from) bytes before saw (Ok done) left after saw'
WentOn {P} {T} entries (Lines from) bytes before saw (Err (stop.Script fault)) left after saw' = GoneOn {T = T} entries (scene_on from) (count_before from) bytes before saw (Err fault) left after saw'
WentOn {P} {T} entries (Race on) bytes before saw (Ok done) left after saw' = HasRaced {T = T} (race_on (race_text_on_as entries) on.from) bytes before (Ok done) left after × (saw' ≡ saw)
WentOn {P} {T} entries (Race on) bytes before saw (Err (stop.Race fault)) left after saw' = HasRaced {T = T} (race_on (race_text_on_as entries) on.from) bytes before (Err fault) left after
WentOn entries from bytes before saw (Err why) left after saw' = ⊥

-- a run from there, by what is known of the source, the sink and the watch
abbrev pub GoesOnBy : {P T : Type 0} → Bool → Onward P → Option (List ℕ) → Option (List ℕ) → Option (List ℕ) → Option (List ℕ) → Option Bool → Option Bool → Result T Stop → Type 0
GoesOnBy entries from left left' taken taken' saw saw' result =
    (bytes before : List ℕ) → left ≡ Some bytes → taken ≡ Some before → (rest : List ℕ) × (left' ≡ Some rest) × WentOn entries from bytes before saw result rest taken' saw'

-- The script of these bytes was run from there, to its end or to a fault. These bytes are left, and these are in the writer. A run
-- to the end has this exit status.
abbrev pub ServedOn : {P T : Type 0} → ResumedStart → Onward P → List ℕ → List ℕ → Result T Stop → ℕ → List ℕ → Option (List ℕ) → Type 0
ServedOn {P} {T} start (Race on) bytes before (Ok done) status left after = HasRaced {T = T} (race_on (race_text_on_as start.entries) on.from) bytes before (Ok done) left after × (status ≡ 0)
ServedOn start (Lines from) bytes before (Ok done) status left after =
    (answers : List Answer) × (es : List Entry) × GoesOn (scene_on from) bytes None left answers es
    × (after ≡ Some (before ++ whole_text start.entries (count_before from) answers es)) × (status ≡ status_if start.strict (list_any says_refusal answers))
ServedOn {P} {T} start from bytes before (Err why) status left after = WentOn {T = T} start.entries from bytes before None (Err why) left after None

-- a run from there with its exit status, by what is known of a reader and a writer
abbrev pub ServesOn : {P T : Type 0} → ResumedStart → Onward P → Option (List ℕ) → Option (List ℕ) → Option (List ℕ) → Option (List ℕ) → Result T Stop → ℕ → Type 0
ServesOn start from left left' taken taken' result status =
    (bytes before : List ℕ) → left ≡ Some bytes → taken ≡ Some before → (rest : List ℕ) × (left' ≡ Some rest) × ServedOn start from bytes before result status rest taken'
