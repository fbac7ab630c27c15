-- What the opening of a run comes to: the edge lines in front of a script, and the store that they make.
use Rattle.std.specs.Prelude.{◌≡◌, ℕ, ◌<◌, ◌≤◌, false, List, [], map, Result, Ok, Err}
use Rattle.tg_model.specs.declared.edge.Edge.{Edge}
use Rattle.tg_model.specs.Opened.{Plan, HasLimits, start_of}
use Rattle.tg_store.specs.Origin.{opened_by}
use Rattle.tg_store.specs.Store.{StoreState, StandsFor}
use Rattle.tg_text.specs.declared.line.Line.{Line}
use Rattle.tg_text.specs.declared.line.Line.TheVariants as line
use Rattle.tg_text.specs.declared.fault.ScriptFault.{ScriptFault}
use Rattle.tg_text.specs.declared.fault.ScriptFault.TheVariants as fault
use Rattle.tg_text.specs.Reading.{MayStand}
use Rattle.tg_model.specs.declared.value.Value.{Value}
use Rattle.tg_script.specs.declared.run_script.Settings.{Settings}

-- a line that may be after the edges
abbrev pub IsCommand : Line → Type 0
IsCommand l = MayStand 0 false l

-- a line may be answered: it may be after the edges, and the collector is ready, as this says
pub record IsAnswerable (Ready : Type 0) (l : Line) : Type 0 where
  pub ready : Ready
  pub command : IsCommand l

abbrev pub edge_lines : List Edge → List Line
edge_lines edges = map line.Edge edges

-- the opening by these settings, with these edges, of workers with these values
abbrev pub plan_by : Settings → List Edge → List Value → Plan
plan_by settings edges values = record { workers = settings.workers; edges = edges; values = values; limit = settings.max_vertices }

-- The store is opened with the plan, has no entry, and represents the graph that the plan starts from; or a limit of the plan is
-- out of its range, or else memory ran out, or a block for each worker where the heap may have so many.
abbrev pub OpensStore : Plan → ℕ → Result StoreState ScriptFault → Type 0
OpensStore p blocks (Ok store) = HasLimits p × (p.workers ≤ blocks) × StandsFor store (start_of p) × (store.opening ≡ opened_by p) × (store.entries ≡ [])
OpensStore p blocks (Err fault.BadLimits) = ¬ HasLimits p
OpensStore p blocks (Err fault.OutOfMemory) = HasLimits p
OpensStore p blocks (Err fault.HeapFull) = HasLimits p × (blocks < p.workers)
OpensStore p blocks (Err f) = ⊥
