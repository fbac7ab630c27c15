-- What C gets of the law by which a vertex stores numbers.
use Rattle.std.specs.Prelude.{◌≡◌, ◌↔◌, ℕ, true, Option, Some, None, Result, Ok, Err, IfOk, IfErr}
use Rattle.tg_model.specs.Graph.{ProtectionGraph, IsReachable, IsSubject}
use Rattle.tg_model.specs.declared.law.Law.{Law}
use Rattle.tg_store.specs.Seeing.{ReportsLaw, has_value_right}
use Rattle.tg_store.specs.Store.{StoreState, StandsFor}
use Rattle.tg_c.specs.declared.forms.LawOut.{LawOut}
use Rattle.tg_c.specs.declared.place.StorePlace.{StorePlace}
use Rattle.tg_c.specs.declared.refusal.CallRefusal.{CallRefusal}
use Rattle.tg_c.specs.declared.refusal.CallRefusal.TheVariants as refusal
use Rattle.tg_c.specs.Calls.{IsCall}
use Rattle.tg_c.specs.Records.{law_out}
use Rattle.tg_c.specs.Statuses.{status_of}

-- The answer to a worker that asks for a law: the clause of the store's `law`. It is refused exactly where no worker has the name.
pub record IsLawTo (worker name : ℕ) (old new : StoreState) (answer : Result (Option Law) CallRefusal) : Type 0 where
  pub same : new ≡ old
  pub law : (g : ProtectionGraph) → StandsFor old g → IfOk answer (ReportsLaw g (IsSubject g worker × (has_value_right (g.label worker name) ≡ true)) name)
  pub no_such_worker : (g : ProtectionGraph) → StandsFor old g → (answer ≡ Err refusal.NoSuchWorker) ↔ (¬ IsSubject g worker)
  pub refused : IfErr answer (λ why. why ≡ refusal.NoSuchWorker)

abbrev pub AsksLawTo : StorePlace → StorePlace → ℕ → ℕ → (Result (Option Law) CallRefusal → Type 0) → Type 0
AsksLawTo old new worker name = IsCall (λ why. why) (IsLawTo worker name) old new

-- the answer to the host: the clause of the store's `law_of`, which is refused for lack of memory alone
pub record IsLawOf (name : ℕ) (old new : StoreState) (answer : Result (Option Law) CallRefusal) : Type 0 where
  pub same : new ≡ old
  pub law : (g : ProtectionGraph) → StandsFor old g → IfOk answer (ReportsLaw g (IsReachable g name) name)
  pub wanting : IfErr answer (λ why. why ≡ refusal.OutOfMemory)

abbrev pub AsksLawOf : StorePlace → StorePlace → ℕ → (Result (Option Law) CallRefusal → Type 0) → Type 0
AsksLawOf old new name = IsCall (λ why. why) (IsLawOf name) old new

-- the number of a law, and how many numbers a log keeps; 15 reports no law
abbrev pub law_told : Option Law → LawOut
law_told None = record { law = 15; most = 0 }
law_told (Some of) = record { law = (law_out of).0; most = (law_out of).1 }

abbrev pub TellsLaw : ℕ → LawOut → LawOut → Result (Option Law) CallRefusal → Type 0
TellsLaw status old new (Ok found) = (status ≡ 0) × (new ≡ law_told found)
TellsLaw status old new (Err why) = (status ≡ status_of why) × (new ≡ old)
