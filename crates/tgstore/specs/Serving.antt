-- The bytes that a run reads and writes.
use Rattle.std.specs.Prelude.{◌≡◌, ◌⊎◌, ℕ, Bool, true, false, List, map, replicate, Option, Some, Result, Ok, Err, IfErr}
use Rattle.tg_text.specs.declared.stock.StockItem.TheVariants.{Cell}
use Rattle.tg_script.specs.Script.{Start as ScriptStart, start_with}
use Rattle.tg_script.specs.Entering.{RanAs}
use Rattle.tg_threads.specs.Output.{RaceText, RaceTextOn, entry_race, entry_race_on, reply_race, reply_race_on}
use Rattle.tg_threads.specs.Race.{HasRaced, race_from}
use Rattle.tgstore.specs.Boxes.{value_of_item}
use Rattle.tgstore.specs.Faults.{status_of_stop}
use Rattle.tgstore.specs.declared.start.Start.{Start}
use Rattle.tgstore.specs.declared.start.StartFault.TheVariants.{OutOfMemory}
use Rattle.tgstore.specs.declared.stop.Stop.{Stop}
use Rattle.tgstore.specs.declared.stop.Stop.TheVariants as stop

-- The start of the script has these settings. Each worker has a cell with 0, and the stock has a new box of each of its kinds.
abbrev pub script_start_of : Start → ScriptStart
script_start_of start = start_with start.settings (replicate start.settings.workers (value_of_item Cell)) (map value_of_item start.stock.items)

-- the text that is written of a race
abbrev pub race_text_as : Bool → RaceText
race_text_as false = reply_race
race_text_as true = entry_race

-- the text that is written of a race from a history on
abbrev pub race_text_on_as : Bool → RaceTextOn
race_text_on_as false = reply_race_on
race_text_on_as true = entry_race_on

-- The script of these bytes was run, line by line or as a race, and replies or entries were written, as the start says. These bytes
-- are left, and these are in the writer. Or there was no memory for drafts, and nothing was read or written.
abbrev pub Served : {T : Type 0} → Start → List ℕ → List ℕ → Result T Stop → List ℕ → Option (List ℕ) → Type 0
Served {T} start bytes before (Ok done) left after =
    ((start.race ≡ false) × RanAs start.entries (script_start_of start) bytes before (Ok done) left after) ⊎ ((start.race ≡ true) × HasRaced (race_from (race_text_as start.entries) (script_start_of start)) bytes before (Ok done) left after)
Served {T} start bytes before (Err (stop.Script fault)) left after = (start.race ≡ false) × RanAs {T = T} start.entries (script_start_of start) bytes before (Err fault) left after
Served {T} start bytes before (Err (stop.Race fault)) left after = (start.race ≡ true) × HasRaced {T = T} (race_from (race_text_as start.entries) (script_start_of start)) bytes before (Err fault) left after
Served {T} start bytes before (Err (stop.Start OutOfMemory)) left after = (left ≡ bytes) × (after ≡ Some before)
Served {T} start bytes before (Err why) left after = ⊥

-- A run from this start, by the bytes that are known of its source and its sink before and after the run. A fault that ends the run
-- is reported as status 1.
pub record ServesFrom {T : Type 0} (start : Start) (left left' taken taken' : Option (List ℕ)) (result : Result T Stop) : Type 0 where
  pub status : IfErr result (λ why. status_of_stop why ≡ 1)
  pub output : (bytes before : List ℕ) → left ≡ Some bytes → taken ≡ Some before → (rest : List ℕ) × (left' ≡ Some rest) × Served start bytes before result rest taken'

-- the run was begun, because memory didn't run out before
abbrev pub WasBegun : {T : Type 0} → Result T Stop → Type 0
WasBegun (Ok done) = Unit {0}
WasBegun (Err (stop.Script fault)) = Unit {0}
WasBegun (Err (stop.Race fault)) = Unit {0}
WasBegun (Err why) = ⊥
