-- What a client's call says that is refused, after it looked at what is in the lock.
use Rattle.std.proofs.Common.{◌≡◌, ◌≢◌, ◌∙◌, ℕ, Result, Ok, Err, ap, refl, subst, sym}
use Rattle.std.specs.Prelude.{IfErr, OnErr}
use Rattle.tg_model.specs.declared.command.Command.{Command}
use Rattle.tg_model.specs.declared.command.Deed.TheVariants.{Plain}
use Rattle.tg_model.specs.Graph.{IsSubject}
use Rattle.tg_model.specs.Rules.{IsAllowed}
use Rattle.tg_graph.specs.Heap.{nursery_of}
use Rattle.tg_rules.specs.Effect.{AddsEdge, LacksCellsToServe}
use Rattle.tg_store.specs.Store.{StoreState, graph_of_store}
use Rattle.tg_store.specs.declared.fault.ApplyFault.{ApplyFault}
use Rattle.tg_store.specs.declared.fault.CreateFault.TheVariants as fault
use Rattle.tg_store.specs.declared.fault.CreateRefused.{CreateRefused}
use Rattle.tg_shared.specs.Serving.{ServesCommand}
use Rattle.tg_shared.specs.Sessions.{AtSeen, HasLooked, LockedState, RecordsNothing, RefusesCall, SessionState, SharedStart}
use Rattle.tg_shared.proofs.Calls.{found_with}
use Rattle.tg_shared.proofs.Replies.{IsReady, refused_ready}
use Rattle.tg_shares.specs.declared.fault.LeaveFault.{LeaveFault}
use Rattle.tg_shares.specs.declared.fault.LeaveFault.TheVariants.{Share}
use Rattle.tg_shares.specs.declared.fault.ShareFault.{ShareFault}
use Rattle.tg_shares.specs.declared.fault.Lack.TheVariants.{Entries}
use Rattle.tg_shares.specs.declared.purse.Portion.{Portion}
use Rattle.tg_shares.specs.Shares.{LacksToLeave, LacksToLeaveAtSeen}

-- a command that is refused
pub call_refused : {T : Type 0} (r : Result T ApplyFault) (start : SharedStart) (v : LockedState) (next : StoreState) (old ready new : SessionState) (command : Command) → IsReady start v old ready → ServesCommand command v.store next ready new r
    → IfErr r (RefusesCall start command old new)
call_refused (Ok t) start v next old ready new command is_so served = tt
call_refused (Err why) start v next old ready new command is_so served =
    let s : StoreState = v.store in
    let stays = refused_ready start v old ready new is_so served.refused.1 in
    let named : ready.worker ≡ old.worker = is_so.looked.kept.0 in
    record {
      looked = stays.0;
      no_such_worker = λ is. found_with start new.seen (λ x. ¬ IsSubject (graph_of_store x) old.worker) v is_so.held stays.1
          (subst (λ (n : ℕ). ¬ IsSubject (graph_of_store s) n) named ((served.no_such_worker (graph_of_store s) refl).0 (ap Err is)));
      full = λ is. found_with start new.seen (λ x. IsAllowed (graph_of_store x) old.worker (Plain command) × AddsEdge command × LacksCellsToServe x.heap.table (nursery_of x.heap old.worker) old.worker command) v is_so.held stays.1
          (subst (λ (n : ℕ). IsAllowed (graph_of_store s) n (Plain command) × AddsEdge command × LacksCellsToServe s.heap.table (nursery_of s.heap n) n command) named (served.full (graph_of_store s) refl (ap Err is)));
    }

-- a create that is refused for neither limit, and a spawn that is never refused for the number of vertices
pub looked_create : {P T : Type 0} (r : Result T (CreateRefused P)) (A : Type 0) → IfErr r (λ refused. refused.why ≢ fault.VerticesFull) → IfErr r (λ refused. refused.why ≢ fault.WorkersFull)
    → IfErr r (λ refused. refused.why ≢ fault.VerticesFull → refused.why ≢ fault.WorkersFull → A) → OnErr r A
looked_create (Ok t) A some few held = tt
looked_create (Err e) A some few held = held some few

pub looked_spawn : {P T : Type 0} (r : Result T (CreateRefused P)) (A : Type 0) → IfErr r (λ refused. refused.why ≢ fault.VerticesFull)
    → IfErr r (λ refused. refused.why ≢ fault.VerticesFull → refused.why ≢ fault.WorkersFull → A) → IfErr r (λ refused. refused.why ≢ fault.WorkersFull → A)
looked_spawn (Ok t) A some held = tt
looked_spawn (Err e) A some held = λ few. held some few

-- a leave that is refused: the session has looked, and why
module _ (start : SharedStart) (v : LockedState) (next : StoreState) (old ready new : SessionState) (is_so : IsReady start v old ready) where
  pub looked_leave : {T E B A : Type 0} (r : Result T E) → (B → A) → OnErr r (RecordsNothing v.store next ready new × B) → OnErr r (HasLooked old new × A)
  looked_leave (Ok t) moved nothing = tt
  looked_leave (Err e) moved nothing = ((refused_ready start v old ready new is_so nothing.0.1).0, moved nothing.1)

  pub leave_lacks : {T : Type 0} (B : Type 0) (r : Result T LeaveFault) (full : Portion) → OnErr r (RecordsNothing v.store next ready new × B)
      → ((why : ShareFault) → r ≡ Err (Share why) → LacksToLeave (graph_of_store v.store) ready.worker full × (why ≡ record { worker = ready.worker; lacks = Entries }))
      → IfErr r (λ why. (fault : ShareFault) → why ≡ Share fault → LacksToLeaveAtSeen start new full fault)
  leave_lacks B (Ok t) full nothing told = tt
  leave_lacks B (Err e) full nothing told = λ why is.
      let lacks = told why (ap Err is) in
      let stays = refused_ready start v old ready new is_so nothing.0.1 in
      let named : ready.worker ≡ new.worker = is_so.looked.kept.0 ∙ sym stays.0.kept.0 in (
        subst (λ (n : ℕ). why ≡ record { worker = n; lacks = Entries }) named lacks.1,
        found_with start new.seen (λ s. LacksToLeave (graph_of_store s) new.worker full) v is_so.held stays.1 (subst (λ (n : ℕ). LacksToLeave (graph_of_store v.store) n full) named lacks.0),
      )

  pub leave_nobody : {T : Type 0} (B : Type 0) (r : Result T LeaveFault) (fault : LeaveFault) → OnErr r (RecordsNothing v.store next ready new × B) → (r ≡ Err fault → ¬ IsSubject (graph_of_store v.store) ready.worker)
      → IfErr r (λ why. why ≡ fault → AtSeen start new.seen (λ s. ¬ IsSubject (graph_of_store s) old.worker))
  leave_nobody B (Ok t) fault nothing told = tt
  leave_nobody B (Err e) fault nothing told = λ is.
      let stays = refused_ready start v old ready new is_so nothing.0.1 in
      found_with start new.seen (λ s. ¬ IsSubject (graph_of_store s) old.worker) v is_so.held stays.1 (subst (λ (n : ℕ). ¬ IsSubject (graph_of_store v.store) n) is_so.looked.kept.0 (told (ap Err is)))
