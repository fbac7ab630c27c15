use Rattle.std.proofs.Common.{◌≡◌, ◌<◌, ◌∙◌, ℕ, refl, sym, subst}
use Rattle.std.proofs.lemmas.Result.{err_from_is_err_and}
use Rattle.tg_model.specs.declared.command.Deed.TheVariants.{Plain}
use Rattle.tg_model.specs.Graph.{IsSubject}
use Rattle.tg_model.specs.Rules.{Permits}
use Rattle.tg_graph.specs.Heap.{nursery_of}
use Rattle.tg_rules.specs.Effect.{AddsEdge, LacksCellsToServe}
use Rattle.tg_store.specs.Store.{StoreState, IsFaithful, graph_of_store}
use Rattle.tg_shared.specs.Sessions.{LockedState, SessionState}
use Rattle.tg_shared.proofs.Calls.{found_with, refused_as, refused_here, some_more, still, worker_not_full}
use Rattle.tg_shared.proofs.Knowing.{kept_all, looked_none}
use Rattle.tg_shared.proofs.Replies.{IsReady, answered, is_ready, refused_ready}
use Rattle.tg_shared.proofs.session.Session.call.Goals as goal

pub returns-then-retired : goal.returns-then-retired
returns-then-retired g c = (
  (
    refl,
    (λ _. tt),
    record {
      looked = looked_none c.args.self.now c.args.self.now (kept_all c.args.self.now) c.retired.ensures.own;
      no_such_worker = λ _. c.retired.ensures.gone c.if-retired.true;
      full = λ is. absurd (worker_not_full is);
    },
  ),
  record { receipt = tt; retired = λ _. refl },
)

pub last_reply-requires : goal.last_reply-requires
last_reply-requires g c = some_more c.look.new.session.receipts c.apply.new.session.receipts _ (c.in_ok-apply.ensures.served.entry (graph_of_store c.deref_mut-2.result.now.store) refl).receipt.1

pub apply-requires : goal.apply-requires
apply-requires g c = record { room = subst (λ (b : SessionState). 0 < b.spare) (sym c.look.ensures.session) c.in_ok-make_room.ensures.room.spare }

pub returns : goal.returns
returns g c =
    let start = g.L.Round.start in
    let old : SessionState = c.args.self.now in
    let ready : SessionState = c.look.new.session in
    let v : LockedState = c.deref_mut-2.result.now in
    let w : LockedState = c.apply.new.self in
    let records = c.in_ok-apply.ensures.served.entry (graph_of_store v.store) refl in
    let shown = c.last_reply.ensures _ _ records.receipt.1 in
    let is_so : IsReady start v old ready = is_ready start c.deref_mut.result.now v old c.make_room.new.self ready (c.deref_mut-2.ensures.value ∙ c.look.ensures.looks.same) c.look.ensures.looks c.in_ok-make_room.ensures.room.receipts c.look.ensures.session in
    let after : IsFaithful w.store = subst (λ (b : LockedState). IsFaithful b.store) c.deref.ensures c.store.ensures.held.faithful in (
      (refl, (λ _. tt), answered start v w old ready c.apply.new.session (Plain c.args.command) _ c.last_reply.result.now is_so c.apply.ensures.signed records c.apply.ensures.kept.opening after shown),
      record { receipt = tt; retired = still c.retired.result old.retired c.retired.ensures.is c.if-retired.false },
    )

pub returns-in_err-apply : goal.returns-in_err-apply
returns-in_err-apply g c =
    let start = g.L.Round.start in
    let given = err_from_is_err_and c.from_residual-in_err-apply.result c.from_residual-in_err-apply.ensures.1 in
    let old : SessionState = c.args.self.now in
    let ready : SessionState = c.look.new.session in
    let v : LockedState = c.deref_mut-2.result.now in
    let s : StoreState = v.store in
    let served = c.in_err-apply.ensures.served in
    let is_so : IsReady start v old ready = is_ready start c.deref_mut.result.now v old c.make_room.new.self ready (c.deref_mut-2.ensures.value ∙ c.look.ensures.looks.same) c.look.ensures.looks c.in_ok-make_room.ensures.room.receipts c.look.ensures.session in
    let looks = refused_ready start v old ready c.apply.new.session is_so served.refused.1 in
    let named : ready.worker ≡ old.worker = is_so.looked.kept.0 in
    let answer = c.from_residual-in_err-apply.result in (
      (
        refl,
        (λ _. tt),
        refused_here answer given.0 _ _ given.1 (record {
          looked = looks.0;
          no_such_worker = λ why. found_with start c.apply.new.session.seen (λ x. ¬ IsSubject (graph_of_store x) old.worker) v is_so.held looks.1 (subst (λ (n : ℕ). ¬ IsSubject (graph_of_store s) n) named ((served.no_such_worker (graph_of_store s) refl).0 (refused_as given.2 why)));
          full = λ why. found_with start c.apply.new.session.seen (λ x. Permits (graph_of_store x).label (graph_of_store x).value old.worker c.args.command × AddsEdge c.args.command × LacksCellsToServe x.heap.table (nursery_of x.heap old.worker) old.worker c.args.command) v is_so.held looks.1
              (subst (λ (n : ℕ). Permits (graph_of_store s).label (graph_of_store s).value n c.args.command × AddsEdge c.args.command × LacksCellsToServe s.heap.table (nursery_of s.heap n) n c.args.command) named (served.full (graph_of_store s) refl (refused_as given.2 why)));
        }),
      ),
      record { receipt = tt; retired = still c.retired.result old.retired c.retired.ensures.is c.if-retired.false },
    )
