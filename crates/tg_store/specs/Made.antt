-- The outcome of asking a store for a vertex, be it an object or a subject, and by whichever of the calls that make
-- one.
use Rattle.std.specs.Prelude.{◌≡◌, ◌↔◌, ◌⊎◌, ◌≤◌, ℕ, Result, Some, IfErr, IsErrAnd, OnErr}
use Rattle.tg_rights.specs.RightSet.{RightSet}
use Rattle.tg_model.specs.declared.command.Deed.{Deed}
use Rattle.tg_model.specs.declared.reply.Reply.TheVariants.{Name}
use Rattle.tg_model.specs.declared.value.Value.{Value}
use Rattle.tg_model.specs.Graph.{ProtectionGraph, IsSubject}
use Rattle.tg_model.specs.Rules.{IsAllowed, step, answer_of}
use Rattle.tg_word.specs.Word.{nursery_space}
use Rattle.tg_rows.specs.Content.{IsNamed}
use Rattle.tg_graph.specs.Heap.{content_of, nursery_of}
use Rattle.tg_rows.specs.Spots.{IsMadeInRow, LacksCellsFor}
use Rattle.tg_store.specs.declared.fault.CreateFault.TheVariants.{NoSuchWorker, OutOfMemory, VerticesFull, WorkersFull, HeapFull}
use Rattle.tg_store.specs.declared.fault.CreateRefused.{CreateRefused}
use Rattle.tg_store.specs.Store.{StoreState, StandsFor}

-- A vertex with a name was made for a worker by a deed: it stores the value, and the worker has the rights of the label over it.
pub record IsMadeFor (deed : Deed) (worker : ℕ) (label : RightSet) (value : Value) (old new : StoreState) (vertex : ℕ) : Type 0 where
  -- the graph that the store represented answers that name, and the store represents the next one
  pub name : (g : ProtectionGraph) → StandsFor old g → answer_of g worker deed ≡ Name vertex
  pub step : (g : ProtectionGraph) → StandsFor old g → StandsFor new (step g worker deed)
  pub stored : IsNamed (content_of new.heap) vertex × ((content_of new.heap).value vertex ≡ Some value)
  pub placed : IsMadeInRow old.heap.table new.heap.table old.heap.remembered new.heap.remembered (nursery_space (nursery_of old.heap worker)) worker vertex label

-- refused because too many subjects are active, or for lack of memory
abbrev pub IsCrowdedOut : {P T : Type 0} → Result T (CreateRefused P) → Type 0
IsCrowdedOut result = IsErrAnd result (λ refused. (refused.why ≡ WorkersFull) ⊎ (refused.why ≡ OutOfMemory))

-- When a worker's deed makes no vertex, by the graph that the store represents, and what stays then; opening, limits and counts stay always.
pub record MayRefuse {P T : Type 0} (deed : Deed) (worker : ℕ) (value : Value) (old new : StoreState) (result : Result T (CreateRefused P)) : Type 0 where
  pub no_such_worker : (g : ProtectionGraph) → StandsFor old g → IsErrAnd result (λ refused. refused.why ≡ NoSuchWorker) ↔ (¬ IsSubject g worker)
  pub no_more : (g : ProtectionGraph) → StandsFor old g → IfErr result (λ refused. refused.why ≡ VerticesFull → IsSubject g worker × (g.limit ≤ g.made))
  pub exhausted : (g : ProtectionGraph) → StandsFor old g → IsSubject g worker → g.limit ≤ g.made →
      IsErrAnd result (λ refused. (refused.why ≡ VerticesFull) ⊎ (refused.why ≡ OutOfMemory))
  pub full : (g : ProtectionGraph) → StandsFor old g → IfErr result (λ refused. refused.why ≡ HeapFull →
      IsAllowed g worker deed × LacksCellsFor old.heap.table (nursery_space (nursery_of old.heap worker)) 1 worker g.made)
  pub same_graph : (g : ProtectionGraph) → StandsFor old g → OnErr result (StandsFor new g)
  pub handed_back : IfErr result (λ refused. refused.draft ≡ value)
  pub opening : new.opening ≡ old.opening
  pub handed : new.handed ≡ old.handed
  pub limits : new.heap.table.limits ≡ old.heap.table.limits
  pub collections : new.collections ≡ old.collections
