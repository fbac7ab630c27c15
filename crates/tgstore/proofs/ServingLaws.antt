-- A run with drafts of the payloads is a run from the start.
use Rattle.std.proofs.Common.{◌≡◌, ◌≤◌, ◌<◌, ◌+◌, ◌∙◌, ℕ, List, length, map, replicate, Option, Some, Result, Ok, Err, IfErr, OnOk, true, false, ap, arith, inl, inr, refl, subst, sym}
use Rattle.std.proofs.lemmas.List.{length-replicate}
use Rattle.std.specs.Prelude.{IsErrAnd, MatchResult}
use Rattle.tg_model.specs.declared.value.Value.{Value}
use Rattle.tg_text.specs.declared.fault.ScriptFault.{ScriptFault}
use Rattle.tg_text.specs.declared.fault.ScriptFault.TheVariants as script
use Rattle.tg_text.specs.declared.stock.StockItem.TheVariants.{Cell}
use Rattle.tg_script.specs.Script.{MayStart, start_with}
use Rattle.tg_script.specs.Entering.{RanAs}
use Rattle.tg_script.specs.Lines.{read_failures}
use Rattle.tg_threads.specs.declared.fault.RaceFault.{RaceFault}
use Rattle.tg_threads.specs.Race.{HasRaced, race_from, race_read_failures, race_write_failures}
use Rattle.tgstore.specs.Boxes.{value_of_item}
use Rattle.tgstore.specs.declared.start.Start.{Start}
use Rattle.tgstore.specs.declared.start.StartFault.TheVariants.{OutOfMemory}
use Rattle.tgstore.specs.declared.stop.Stop.{Stop}
use Rattle.tgstore.specs.declared.stop.Stop.TheVariants as stop
use Rattle.tgstore.specs.Faults.{status_of_stop, stop_read_failures, stop_write_failures}
use Rattle.tgstore.specs.Serving.{Served, WasBegun, race_text_as, script_start_of}
use Rattle.tgstore.specs.Starts.{IsReady}

-- a script may start with a cell for each worker
pub may_start : (start : Start) (values : List Value) → IsReady start → values ≡ replicate start.settings.workers (value_of_item Cell) → MayStart start.settings values
may_start start values ready cells = record { number = ready; workers = ap length cells ∙ length-replicate start.settings.workers (value_of_item Cell) }

pub ran_from : {T : Type 0} (start : Start) (values stock : List Value) (bytes before : List ℕ) (r : Result T ScriptFault) (left : List ℕ) (after : Option (List ℕ)) → values ≡ replicate start.settings.workers (value_of_item Cell) → stock ≡ map value_of_item start.stock.items → RanAs start.entries (start_with start.settings values stock) bytes before r left after → RanAs start.entries (script_start_of start) bytes before r left after
ran_from start values stock bytes before r left after workers boxes ran =
    let P : List Value → Type 0 = λ x. RanAs start.entries (start_with start.settings x stock) bytes before r left after in
    let Q : List Value → Type 0 = λ x. RanAs start.entries (start_with start.settings (replicate start.settings.workers (value_of_item Cell)) x) bytes before r left after in
    subst Q boxes (subst P workers ran)

pub raced_from : {T : Type 0} (start : Start) (values stock : List Value) (bytes before : List ℕ) (r : Result T RaceFault) (left : List ℕ) (after : Option (List ℕ)) → values ≡ replicate start.settings.workers (value_of_item Cell) → stock ≡ map value_of_item start.stock.items → HasRaced (race_from (race_text_as start.entries) (start_with start.settings values stock)) bytes before r left after → HasRaced (race_from (race_text_as start.entries) (script_start_of start)) bytes before r left after
raced_from start values stock bytes before r left after workers boxes raced =
    let P : List Value → Type 0 = λ x. HasRaced (race_from (race_text_as start.entries) (start_with start.settings x stock)) bytes before r left after in
    let Q : List Value → Type 0 = λ x. HasRaced (race_from (race_text_as start.entries) (start_with start.settings (replicate start.settings.workers (value_of_item Cell)) x)) bytes before r left after in
    subst Q boxes (subst P workers raced)

-- where a fault is reported as a stop, each other end stands
abbrev pub IsTold : {F : Type 0} → (F → Stop) → Result (Unit {0}) F → Result (Unit {0}) Stop → Type 0
IsTold told outcome result = MatchResult outcome (λ done. result ≡ Ok done) (λ fault. IsErrAnd result (λ why. why ≡ told fault))

abbrev pub told_as : {F : Type 0} → (F → Stop) → Result (Unit {0}) F → Result (Unit {0}) Stop
told_as told (Ok done) = Ok done
told_as told (Err fault) = Err (told fault)

pub is_told : {F : Type 0} (told : F → Stop) (outcome : Result (Unit {0}) F) (result : Result (Unit {0}) Stop) → IsTold told outcome result → told_as told outcome ≡ result
is_told told (Ok done) result is = sym is
is_told told (Err fault) (Ok done) is = absurd is
is_told told (Err fault) (Err why) is = ap Err (sym is)

status_at : {F : Type 0} (told : F → Stop) (outcome : Result (Unit {0}) F) → ((fault : F) → status_of_stop (told fault) ≡ 1) → IfErr (told_as told outcome) (λ why. status_of_stop why ≡ 1)
status_at told (Ok done) is = tt
status_at told (Err fault) is = is fault

pub status_told : {F : Type 0} (told : F → Stop) (outcome : Result (Unit {0}) F) (result : Result (Unit {0}) Stop) → told_as told outcome ≡ result → ((fault : F) → status_of_stop (told fault) ≡ 1) → IfErr result (λ why. status_of_stop why ≡ 1)
status_told told outcome result is one = subst (λ (x : Result (Unit {0}) Stop). IfErr x (λ why. status_of_stop why ≡ 1)) is (status_at told outcome one)

unfailed_at : {F : Type 0} (told : F → Stop) (outcome : Result (Unit {0}) F) (P : Type 0) → OnOk outcome P → OnOk (told_as told outcome) P
unfailed_at told (Ok done) P is = is
unfailed_at told (Err fault) P is = tt

pub unfailed_told : {F : Type 0} (told : F → Stop) (outcome : Result (Unit {0}) F) (result : Result (Unit {0}) Stop) (P : Type 0) → told_as told outcome ≡ result → OnOk outcome P → OnOk result P
unfailed_told told outcome result P is had = subst (λ (x : Result (Unit {0}) Stop). OnOk x P) is (unfailed_at told outcome P had)

served_race_at : (start : Start) (bytes before : List ℕ) (outcome : Result (Unit {0}) RaceFault) (left : List ℕ) (after : Option (List ℕ)) → start.race ≡ true → HasRaced (race_from (race_text_as start.entries) (script_start_of start)) bytes before outcome left after → Served start bytes before (told_as stop.Race outcome) left after
served_race_at start bytes before (Ok done) left after race raced = inr (race, raced)
served_race_at start bytes before (Err fault) left after race raced = (race, raced)

pub served_race : (start : Start) (bytes before : List ℕ) (outcome : Result (Unit {0}) RaceFault) (result : Result (Unit {0}) Stop) (left : List ℕ) (after : Option (List ℕ)) → told_as stop.Race outcome ≡ result → start.race ≡ true → HasRaced (race_from (race_text_as start.entries) (script_start_of start)) bytes before outcome left after → Served start bytes before result left after
served_race start bytes before outcome result left after is race raced = subst (λ (x : Result (Unit {0}) Stop). Served start bytes before x left after) is (served_race_at start bytes before outcome left after race raced)

served_run_at : (start : Start) (bytes before : List ℕ) (outcome : Result (Unit {0}) ScriptFault) (left : List ℕ) (after : Option (List ℕ)) → start.race ≡ false → RanAs start.entries (script_start_of start) bytes before outcome left after → Served start bytes before (told_as stop.Script outcome) left after
served_run_at start bytes before (Ok done) left after race ran = inl (race, ran)
served_run_at start bytes before (Err fault) left after race ran = (race, ran)

pub served_run : (start : Start) (bytes before : List ℕ) (outcome : Result (Unit {0}) ScriptFault) (result : Result (Unit {0}) Stop) (left : List ℕ) (after : Option (List ℕ)) → told_as stop.Script outcome ≡ result → start.race ≡ false → RanAs start.entries (script_start_of start) bytes before outcome left after → Served start bytes before result left after
served_run start bytes before outcome result left after is race ran = subst (λ (x : Result (Unit {0}) Stop). Served start bytes before x left after) is (served_run_at start bytes before outcome left after race ran)

read_race_at : (outcome : Result (Unit {0}) RaceFault) → race_read_failures outcome ≡ stop_read_failures (told_as stop.Race outcome)
read_race_at (Ok done) = refl
read_race_at (Err fault) = refl

pub read_race : (outcome : Result (Unit {0}) RaceFault) (result : Result (Unit {0}) Stop) → told_as stop.Race outcome ≡ result → race_read_failures outcome ≡ stop_read_failures result
read_race outcome result is = read_race_at outcome ∙ ap stop_read_failures is

write_race_at : (outcome : Result (Unit {0}) RaceFault) → stop_write_failures (told_as stop.Race outcome) ≡ race_write_failures outcome
write_race_at (Ok done) = refl
write_race_at (Err fault) = refl

pub write_race : (outcome : Result (Unit {0}) RaceFault) (result : Result (Unit {0}) Stop) (old new : ℕ) → told_as stop.Race outcome ≡ result → old + race_write_failures outcome ≤ new → 1 ≤ stop_write_failures result → old < new
write_race outcome result old new is more one =
    let same : stop_write_failures result ≡ race_write_failures outcome = ap stop_write_failures (sym is) ∙ write_race_at outcome in omega arith

read_run_at : (outcome : Result (Unit {0}) ScriptFault) → read_failures outcome ≡ stop_read_failures (told_as stop.Script outcome)
read_run_at (Ok done) = refl
read_run_at (Err fault) = refl

pub read_run : (outcome : Result (Unit {0}) ScriptFault) (result : Result (Unit {0}) Stop) → told_as stop.Script outcome ≡ result → read_failures outcome ≡ stop_read_failures result
read_run outcome result is = read_run_at outcome ∙ ap stop_read_failures is

write_run_at : (outcome : Result (Unit {0}) ScriptFault) → 1 ≤ stop_write_failures (told_as stop.Script outcome) → outcome ≡ Err script.WriteFailed
write_run_at (Ok done) one = absurd (omega arith)
write_run_at (Err script.WriteFailed) one = refl
write_run_at (Err fault) one = absurd (omega arith)

pub write_run : (outcome : Result (Unit {0}) ScriptFault) (result : Result (Unit {0}) Stop) (old new : ℕ) → told_as stop.Script outcome ≡ result → (outcome ≡ Err script.WriteFailed → old < new) → 1 ≤ stop_write_failures result → old < new
write_run outcome result old new is more one = more (write_run_at outcome (subst (λ (x : Result (Unit {0}) Stop). 1 ≤ stop_write_failures x) (sym is) one))

-- where memory ran out for the drafts
pub wanting : (result : Result (Unit {0}) Stop) → IsErrAnd result (λ why. why ≡ stop.Start OutOfMemory) → Err (stop.Start OutOfMemory) ≡ result
wanting (Ok done) is = absurd is
wanting (Err why) is = ap Err (sym is)

pub served_none : (start : Start) (bytes before : List ℕ) (result : Result (Unit {0}) Stop) (left : List ℕ) (after : Option (List ℕ)) → Err (stop.Start OutOfMemory) ≡ result → left ≡ bytes → after ≡ Some before → Served start bytes before result left after
served_none start bytes before result left after is left_is after_is = subst (λ (x : Result (Unit {0}) Stop). Served start bytes before x left after) is (left_is, after_is)

pub wanting_status : (result : Result (Unit {0}) Stop) → Err (stop.Start OutOfMemory) ≡ result → IfErr result (λ why. status_of_stop why ≡ 1)
wanting_status result is = subst (λ (x : Result (Unit {0}) Stop). IfErr x (λ why. status_of_stop why ≡ 1)) is refl

pub wanting_unfailed : (result : Result (Unit {0}) Stop) (P : Type 0) → Err (stop.Start OutOfMemory) ≡ result → OnOk result P
wanting_unfailed result P is = subst (λ (x : Result (Unit {0}) Stop). OnOk x P) is tt

pub wanting_read : (result : Result (Unit {0}) Stop) (n : ℕ) → Err (stop.Start OutOfMemory) ≡ result → n ≡ n + stop_read_failures result
wanting_read result n is =
    let none : stop_read_failures result ≡ 0 = ap stop_read_failures (sym is) in omega arith

pub wanting_write : (result : Result (Unit {0}) Stop) (P : Type 0) → Err (stop.Start OutOfMemory) ≡ result → 1 ≤ stop_write_failures result → P
wanting_write result P is one =
    let none : stop_write_failures result ≡ 0 = ap stop_write_failures (sym is) in absurd (omega arith)

pub not_begun : (result : Result (Unit {0}) Stop) → Err (stop.Start OutOfMemory) ≡ result → WasBegun result → ⊥
not_begun result is begun = subst (λ (x : Result (Unit {0}) Stop). WasBegun x) (sym is) begun
