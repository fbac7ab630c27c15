-- The answers in C about a worker that leaves, about the holders of a right, and about the vertices with an edge to a vertex.
use Rattle.std.specs.Prelude.{◌≡◌, ◌≢◌, ◌↔◌, ℕ, List, Some, None, Result, Err, Ok, IfOk, IfErr, OnErr, OnOk, length}
use Rattle.tg_rights.specs.declared.Right.{Right}
use Rattle.tg_rights.specs.RightSet.{RightSet, right_of_bit}
use Rattle.tg_model.specs.Graph.{ProtectionGraph, IsSubject, listing_of}
use Rattle.tg_store.specs.Holding.{AreEdgesTo, AreHolders}
use Rattle.tg_store.specs.Leaving.{HasLeft}
use Rattle.tg_store.specs.Store.{StoreState, IsUnchanged, StandsFor}
use Rattle.tg_store.specs.declared.fault.ApplyFault.{ApplyFault}
use Rattle.tg_store.specs.declared.fault.ApplyFault.TheVariants as apply
use Rattle.tg_c.specs.declared.forms.EdgeOut.{EdgeOut}
use Rattle.tg_c.specs.declared.place.StorePlace.{StorePlace}
use Rattle.tg_c.specs.declared.refusal.CallRefusal.{CallRefusal}
use Rattle.tg_c.specs.declared.refusal.CallRefusal.TheVariants as refusal
use Rattle.tg_c.specs.Calls.{IsCall, Refuses}
use Rattle.tg_c.specs.Forms.{edges_shown_in}
use Rattle.tg_c.specs.Statuses.{of_apply}

-- the answer to a worker that leaves, with the clauses of the store's `leave`
pub record Departs (worker : ℕ) (old new : StoreState) (answer : Result ℕ ApplyFault) : Type 0 where
  pub left : OnOk answer (HasLeft worker old new)
  pub count : (g : ProtectionGraph) → StandsFor old g → IfOk answer (λ n. n ≡ length (listing_of g.label g.made worker))
  pub no_such_worker : (g : ProtectionGraph) → StandsFor old g → (answer ≡ Err apply.NoSuchWorker) ↔ (¬ IsSubject g worker)
  pub never_full : answer ≢ Err apply.HeapFull
  pub refused : OnErr answer (IsUnchanged old new)

abbrev pub Leaves : StorePlace → StorePlace → ℕ → (Result ℕ CallRefusal → Type 0) → Type 0
Leaves old new worker = IsCall of_apply (Departs worker) old new

-- the answer to the question who holds a right, with the clause of the store's `who_holds`. It is refused for lack of memory alone
pub record AreToldHolders (right : Right) (name : ℕ) (old new : StoreState) (answer : Result (List ℕ) CallRefusal) : Type 0 where
  pub same : new ≡ old
  pub holders : (g : ProtectionGraph) → StandsFor old g → IfOk answer (AreHolders g right name)
  pub wanting : IfErr answer (λ why. why ≡ refusal.OutOfMemory)

-- If the bits are not the bit of one right, the call is refused, and else the store is asked.
pub record AsksHolders (old new : StorePlace) (bits name : ℕ) (tells : Result (List ℕ) CallRefusal → Type 0) : Type 0 where
  pub asked : (right : Right) → right_of_bit bits ≡ Some right → IsCall (λ why. why) (AreToldHolders right name) old new tells
  pub bad_rights : right_of_bit bits ≡ None → Refuses old new tells refusal.BadRights

-- the answer to the question who has an edge to a vertex, with the clause of the store's `edges_to`. It is refused for lack of
-- memory alone
pub record AreToldEdgesTo (name : ℕ) (old new : StoreState) (answer : Result (List (ℕ × RightSet)) CallRefusal) : Type 0 where
  pub same : new ≡ old
  pub edges : (g : ProtectionGraph) → StandsFor old g → IfOk answer (AreEdgesTo g name)
  pub wanting : IfErr answer (λ why. why ≡ refusal.OutOfMemory)

abbrev pub AsksEdgesTo : StorePlace → StorePlace → ℕ → (Result (List (ℕ × RightSet)) CallRefusal → Type 0) → Type 0
AsksEdgesTo old new name = IsCall (λ why. why) (AreToldEdgesTo name) old new

-- Either edges were put into a room as far as it goes, and the answer is how many there are. Or the call was refused, and the room
-- is as it was.
abbrev pub AreEdgesShown : List EdgeOut → List EdgeOut → Result ℕ CallRefusal → Result (List (ℕ × RightSet)) CallRefusal → Type 0
AreEdgesShown old new answer (Ok edges) = (answer ≡ Ok (length edges)) × (new ≡ edges_shown_in edges old)
AreEdgesShown old new answer (Err why) = (answer ≡ Err why) × (new ≡ old)
