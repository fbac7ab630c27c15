-- What a run starts from, and the faults that are looked for before any input is read.
use Rattle.std.specs.Prelude.{◌≡◌, ◌<◌, ◌≤◌, ℕ, true, List, map, replicate}
use Rattle.tg_model.specs.declared.opening.TheConstants.{MAX_WORKERS}
use Rattle.tg_model.specs.declared.value.Value.{Value}
use Rattle.tg_text.specs.declared.stock.StockItem.{StockItem}
use Rattle.tg_text.specs.declared.stock.StockItem.TheVariants.{Cell}
use Rattle.tg_text.specs.Stock.{IsStockText}
use Rattle.tg_script.specs.declared.run_script.Settings.{Settings}
use Rattle.tgstore.specs.Boxes.{value_of_item}
use Rattle.tgstore.specs.declared.start.Start.{Start}
use Rattle.tgstore.specs.declared.start.StartFault.{StartFault}
use Rattle.tgstore.specs.declared.start.StartFault.TheVariants.{BadStock, BadLimits, StrictRace, OutOfMemory}
use Rattle.tgstore.specs.declared.settings.Options.{Options}

-- no stock has this text
abbrev pub IsBadStock : List ℕ → Type 0
IsBadStock text = (items : List StockItem) → ¬ IsStockText text items

-- there may be a vertex for each worker
abbrev pub MayHoldWorkers : Settings → Type 0
MayHoldWorkers s = s.workers ≤ s.max_vertices

-- The fault is the first of the three that holds. Memory runs out only if the text writes a stock.
abbrev pub IsStartFault : Options → StartFault → Type 0
IsStartFault o BadStock = IsBadStock o.stock.now
IsStartFault o BadLimits = (items : List StockItem) × IsStockText o.stock.now items × (o.settings.max_vertices < o.settings.workers)
IsStartFault o StrictRace = (items : List StockItem) × IsStockText o.stock.now items × MayHoldWorkers o.settings × (o.race ≡ true) × (o.strict ≡ true)
IsStartFault o OutOfMemory = (items : List StockItem) × IsStockText o.stock.now items

-- The fault of a run that goes on from a history is the first of two that holds. Memory runs out only if the text writes a stock.
abbrev pub IsResumeFault : Options → StartFault → Type 0
IsResumeFault o BadStock = IsBadStock o.stock.now
IsResumeFault o BadLimits = ⊥
IsResumeFault o StrictRace = (items : List StockItem) × IsStockText o.stock.now items × (o.race ≡ true) × (o.strict ≡ true)
IsResumeFault o OutOfMemory = (items : List StockItem) × IsStockText o.stock.now items

-- what a run asks of where it starts: the number of workers is in its range
abbrev pub IsReady : Start → Type 0
IsReady s = (1 ≤ s.settings.workers) × (s.settings.workers ≤ MAX_WORKERS)

-- A run may be served from this start. The number of workers is in its range, and the collector is ready in this sense.
pub record MayServe (Ready : Type 0) (start : Start) : Type 0 where
  pub collector : Ready
  pub ready : IsReady start

-- a cell with 0 for each worker, and a new box of each kind of the stock
abbrev pub HasPayloads : Start → List Value → List Value → Type 0
HasPayloads s workers stock = (workers ≡ replicate s.settings.workers (value_of_item Cell)) × (stock ≡ map value_of_item s.stock.items)
