-- How faults are reported, and the statuses of the program.
use Rattle.std.specs.Prelude.{ℕ, Result, Ok, Err}
use Rattle.tg_text.specs.declared.stock.StockFault.{StockFault}
use Rattle.tg_text.specs.declared.stock.StockFault.TheVariants as stock
use Rattle.tg_script.specs.Lines.{read_failures, write_failures}
use Rattle.tg_threads.specs.Race.{race_read_failures, race_write_failures}
use Rattle.tgstore.specs.declared.resuming.HistoryFault.TheVariants as resume
use Rattle.tgstore.specs.declared.start.StartFault.{StartFault}
use Rattle.tgstore.specs.declared.start.StartFault.TheVariants as start
use Rattle.tgstore.specs.declared.stop.Stop.{Stop}
use Rattle.tgstore.specs.declared.stop.Stop.TheVariants as stop

abbrev pub start_fault_of : StockFault → StartFault
start_fault_of stock.OutOfMemory = start.OutOfMemory
start_fault_of stock.BadStock = start.BadStock

-- how many failures of the source the end of a run is
abbrev pub stop_read_failures : {T : Type 0} → Result T Stop → ℕ
stop_read_failures (Err (stop.Script fault)) = read_failures {T = Unit {0}} (Err fault)
stop_read_failures (Err (stop.Race fault)) = race_read_failures {T = Unit {0}} (Err fault)
stop_read_failures r = 0

-- how many failures of the sink it is, without the finish of the sink
abbrev pub stop_write_failures : {T : Type 0} → Result T Stop → ℕ
stop_write_failures (Err (stop.Script fault)) = write_failures {T = Unit {0}} (Err fault)
stop_write_failures (Err (stop.Race fault)) = race_write_failures {T = Unit {0}} (Err fault)
stop_write_failures r = 0

-- 2 if the words are at fault, else 1
abbrev pub status_of_stop : Stop → ℕ
status_of_stop stop.BadWords = 2
status_of_stop stop.HelpUnwritten = 1
status_of_stop (stop.Start start.BadStock) = 2
status_of_stop (stop.Start start.BadLimits) = 2
status_of_stop (stop.Start start.StrictRace) = 2
status_of_stop (stop.Start start.OutOfMemory) = 1
status_of_stop (stop.Resume (resume.OtherWorkers asked has)) = 2
status_of_stop (stop.Resume (resume.OtherVertices asked has)) = 2
status_of_stop (stop.Resume (resume.Text fault)) = 1
status_of_stop (stop.Resume (resume.Store fault)) = 1
status_of_stop (stop.Resume resume.NobodyActs) = 2
status_of_stop (stop.Keep fault) = 2
status_of_stop (stop.Script fault) = 1
status_of_stop (stop.Race fault) = 1

-- the status that was answered, or the status of the fault that ended the program before
abbrev pub exit_status : Result ℕ Stop → ℕ
exit_status (Ok status) = status
exit_status (Err why) = status_of_stop why
