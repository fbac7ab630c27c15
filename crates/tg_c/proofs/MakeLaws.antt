-- Answers to a create and a spawn that aren't the same, and one that makes nothing.
use Rattle.std.proofs.Common.{◌≡◌, Bool, true, false, Result, Ok, Err, rules}
use Rattle.tg_store.specs.declared.fault.CreateFault.{CreateFault}
use Rattle.tg_store.specs.declared.fault.CreateFault.TheVariants as create
use Rattle.tg_store.specs.Store.{StoreState, IsUnchanged}

pub ok_is_no_refusal : {T E : Type 0} {x : T} {e : E} → Ok x ≡ Err e → ⊥
ok_is_no_refusal is = cc

pub same_refusal : {T E : Type 0} {d e : E} → ◌≡◌ {A = Result T E} (Err d) (Err e) → d ≡ e
same_refusal is = cc

pub no_worker_is_no_vertex : {T : Type 0} → ◌≡◌ {A = Result T CreateFault} (Err create.NoSuchWorker) (Err create.VerticesFull) → ⊥
no_worker_is_no_vertex is = cc

pub no_worker_is_no_subject : {T : Type 0} → ◌≡◌ {A = Result T CreateFault} (Err create.NoSuchWorker) (Err create.WorkersFull) → ⊥
no_worker_is_no_subject is = cc

pub no_worker_is_no_cell : {T : Type 0} → ◌≡◌ {A = Result T CreateFault} (Err create.NoSuchWorker) (Err create.HeapFull) → ⊥
no_worker_is_no_cell is = cc

pub want_is_no_worker : {T : Type 0} → ◌≡◌ {A = Result T CreateFault} (Err create.OutOfMemory) (Err create.NoSuchWorker) → ⊥
want_is_no_worker is = cc

pub want_is_no_vertex : {T : Type 0} → ◌≡◌ {A = Result T CreateFault} (Err create.OutOfMemory) (Err create.VerticesFull) → ⊥
want_is_no_vertex is = cc

pub want_is_no_subject : {T : Type 0} → ◌≡◌ {A = Result T CreateFault} (Err create.OutOfMemory) (Err create.WorkersFull) → ⊥
want_is_no_subject is = cc

pub want_is_no_cell : {T : Type 0} → ◌≡◌ {A = Result T CreateFault} (Err create.OutOfMemory) (Err create.HeapFull) → ⊥
want_is_no_cell is = cc

pub not_both : (b : Bool) → b ≡ true → b ≡ false → ⊥
not_both b is other = cc

pub unchanged : (s : StoreState) → IsUnchanged s s
unchanged s = search rules
