use Rattle.std.proofs.Common.{◌∙◌, sym, subst, ap, refl, Ok, Err}
use Rattle.std.proofs.lemmas.Result.{err_from_is_err_and}
use Rattle.tg_model.specs.Graph.{ProtectionGraph}
use Rattle.tg_store.specs.Store.{graph_of_store}
use Rattle.tg_c.specs.Calls.{Applies, IsReplyTo}
use Rattle.tg_c.specs.Statuses.{of_apply, refused_as}
use Rattle.tg_c.proofs.CallLaws.{served, reply_fits}
use Rattle.tg_c.proofs.calls.ask.Goals as goal

pub returns-in_err-reply-clause-asked : goal.returns-in_err-reply-clause-asked
returns-in_err-reply-clause-asked c =
    let given = err_from_is_err_and c.from_residual.result c.from_residual.ensures.1 in
    let told = c.apply-reply.ensures in
    served of_apply (Applies c.args.worker c.args.command) c.args.place.now c.put.new.self c.from_residual.result
    c.deref_mut.result.now.store c.apply-reply.new.self c.apply-reply.result
    c.in-Some.ensures.taken.0 c.put.ensures.open (sym (ap (λ s. s.store) (c.deref_mut.ensures.value ∙ c.in-Some.ensures.taken.1))) (ap (λ s. s.store) c.put.ensures.opened)
    (given.1 ∙ ap Err given.2 ∙ sym (ap (λ a. refused_as of_apply a) c.in_err-reply.was)) (record { entry = told.entry; replied = told.reply; next = told.step; denied = told.denied; no_such_worker = told.no_such_worker; full = told.full; refused = told.refused; opening = told.opening; limits = told.limits; collections = told.collections })

pub returns-clause-asked : goal.returns-clause-asked
returns-clause-asked c =
    let told = c.apply-reply.ensures in
    served of_apply (Applies c.args.worker c.args.command) c.args.place.now c.put.new.self (Ok c.in_ok-reply.field-0)
    c.deref_mut.result.now.store c.apply-reply.new.self c.apply-reply.result
    c.in-Some.ensures.taken.0 c.put.ensures.open (sym (ap (λ s. s.store) (c.deref_mut.ensures.value ∙ c.in-Some.ensures.taken.1))) (ap (λ s. s.store) c.put.ensures.opened)
    (sym (ap (λ a. refused_as of_apply a) c.in_ok-reply.was)) (record { entry = told.entry; replied = told.reply; next = told.step; denied = told.denied; no_such_worker = told.no_such_worker; full = told.full; refused = told.refused; opening = told.opening; limits = told.limits; collections = told.collections })

pub returns-clause-reply : goal.returns-clause-reply
returns-clause-reply c =
    let graph : ProtectionGraph = graph_of_store c.deref_mut.result.now.store in
    subst (λ r. IsReplyTo c.args.command r) (sym (c.in_ok-reply.ensures.reply graph refl)) (reply_fits c.args.command graph c.args.worker)
