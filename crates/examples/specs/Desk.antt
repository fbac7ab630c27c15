-- The parts of a desk that contracts see, and the facts that hold of every desk.
use Rattle.std.specs.Prelude.{◌≡◌, ◌≢◌, ℕ, Option}
use Rattle.tg_model.specs.declared.value.Value.{Value}
use Rattle.tg_model.specs.Graph.{ProtectionGraph}
use Rattle.tg_store.specs.Store.{StoreState, graph_of_store}
use Rattle.examples.specs.declared.stand_in.desk.TheConstants.{OWNER}
use Rattle.examples.specs.Alone.{changes, each, IsAlone}

-- a store, the thing, and its stand-in
pub record DeskState : Type 0 where
  pub store : StoreState
  pub thing : ℕ
  pub stand_in : ℕ

abbrev pub graph_of_desk : DeskState → ProtectionGraph
graph_of_desk d = graph_of_store d.store

-- the value that the stand-in stores
abbrev pub shown_at : DeskState → Option Value
shown_at d = (graph_of_desk d).value d.stand_in

-- Only the owner holds any right over the thing. Only the owner holds a right that changes the stand-in.
pub record DeskIsKept (d : DeskState) : Type 0 where
  pub apart : d.stand_in ≢ d.thing
  pub thing : IsAlone each OWNER d.thing (graph_of_desk d)
  pub stand_in : IsAlone changes OWNER d.stand_in (graph_of_desk d)

-- it is the same desk, whose store now represents this graph
pub record StandsNow (g : ProtectionGraph) (old new : DeskState) : Type 0 where
  pub thing : new.thing ≡ old.thing
  pub stand_in : new.stand_in ≡ old.stand_in
  pub graph : graph_of_desk new ≡ g
