-- What is not another, and what is the same. It is stated of plain variables: a tactic in an answer reads all that is known
-- there.
use Rattle.std.proofs.Common.{◌≡◌, ℕ, Bool, true, false, Result, Ok, Err, subst}
use Rattle.std.specs.Prelude.{IfOk}
use Rattle.tg_model.specs.declared.making.Making.TheVariants.{Object, Subject}
use Rattle.tg_model.specs.declared.reply.Denial.{Denial}
use Rattle.tg_model.specs.declared.reply.Reply.{Reply}
use Rattle.tg_model.specs.declared.reply.Reply.TheVariants.{Denied, Done}
use Rattle.tg_store.specs.declared.fault.ApplyFault.{ApplyFault}
use Rattle.tg_store.specs.declared.fault.ApplyFault.TheVariants as apply
use Rattle.tg_store.specs.declared.fault.CreateFault.TheVariants as create
use Rattle.tg_store.specs.declared.fault.OpenFault.TheVariants as opened

-- ---- of any type

pub false_not_true : false ≡ true → ⊥
false_not_true is = cc

pub not_both : {b : Bool} → b ≡ true → b ≡ false → ⊥
not_both is isnt = cc

pub ok_not_err : {T E : Type 0} {t : T} {e : E} → ◌≡◌ {A = Result T E} (Ok t) (Err e) → ⊥
ok_not_err is = cc

pub ok_same : {T E : Type 0} {t u : T} → ◌≡◌ {A = Result T E} (Ok t) (Ok u) → t ≡ u
ok_same is = cc

-- a refusal that was handed on is the one that came
pub refused_as : {U T E : Type 0} {answer : Result T E} {given came fault : E} → answer ≡ Err given → given ≡ came → answer ≡ Err fault → ◌≡◌ {A = Result U E} (Err came) (Err fault)
refused_as handed is why = cc

-- ---- what a store answers

pub object_not_subject : Object ≡ Subject → ⊥
object_not_subject is = cc

pub memory_not_asked : {T : Type 0} {answer : Result T ApplyFault} {given : ApplyFault} → answer ≡ Err given → given ≡ apply.OutOfMemory → answer ≡ Err apply.NoSuchWorker → ⊥
memory_not_asked handed is why = cc

pub memory_not_worker : create.OutOfMemory ≡ create.NoSuchWorker → ⊥
memory_not_worker is = cc

pub memory_not_vertices : create.OutOfMemory ≡ create.VerticesFull → ⊥
memory_not_vertices is = cc

pub memory_not_heap : create.OutOfMemory ≡ create.HeapFull → ⊥
memory_not_heap is = cc

pub worker_not_vertices : create.NoSuchWorker ≡ create.VerticesFull → ⊥
worker_not_vertices is = cc

pub worker_not_heap : create.NoSuchWorker ≡ create.HeapFull → ⊥
worker_not_heap is = cc

pub differs_not_full : {at : ℕ} → opened.PayloadMismatch at ≡ opened.HeapFull → ⊥
differs_not_full is = cc

pub same_place : {at other : ℕ} → opened.PayloadMismatch at ≡ opened.PayloadMismatch other → at ≡ other
same_place is = cc

-- a command that is done is answered so
pub done_not_denied : {E : Type 0} (r : Result Reply E) (denial : Denial) → IfOk r (λ reply. reply ≡ Done) → r ≡ Ok (Denied denial) → ⊥
done_not_denied r denial done is = let here : Denied denial ≡ Done = subst (λ answer. IfOk answer (λ reply. reply ≡ Done)) is done in cc here
