-- The questions to a store in its place.
use Rattle.std.specs.Prelude.{◌≡◌, ℕ, true, List, Result, IfErr, IfOk}
use Rattle.tg_model.specs.Graph.{ProtectionGraph}
use Rattle.tg_c.specs.declared.forms.EdgeIn.{EdgeIn}
use Rattle.tg_c.specs.declared.place.StorePlace.{StorePlace}
use Rattle.tg_c.specs.declared.refusal.CallRefusal.{CallRefusal}
use Rattle.tg_c.specs.Calls.{state_in}
use Rattle.tg_c.specs.Could.{IsRefusedOn}

-- The store is as it was, in its place or not.
pub record KeepsStore (old new : StorePlace) : Type 0 where
  pub stays : new.is_open ≡ old.is_open
  pub same : old.is_open ≡ true → state_in new ≡ state_in old

-- An answer on a graph, of which this holds, or why there is none.
pub record IsAnsweredOn {T : Type 0} (g : ProtectionGraph) (silent : List ℕ) (as_if : List EdgeIn) (holds : T → Type 0) (answer : Result T CallRefusal) : Type 0 where
  pub told : IfOk answer holds
  pub refused : IfErr answer (IsRefusedOn g silent as_if)
