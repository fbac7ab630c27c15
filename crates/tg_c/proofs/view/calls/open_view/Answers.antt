use Rattle.std.proofs.Common.{◌≡◌, ◌∙◌, inr, subst, ap}
use Rattle.std.proofs.lemmas.Result.{IfErr-weaker}
use Rattle.tg_store.specs.Store.{graph_of_store}
use Rattle.tg_c.specs.Calls.{state_in}
use Rattle.tg_c.specs.Could.{IsRefusedOn}
use Rattle.tg_c.specs.View.{IsRefusedView}
use Rattle.tg_c.proofs.view.calls.open_view.Goals as goal

pub returns-clause-refused : goal.returns-clause-refused
returns-clause-refused c =
    let s = c.deref.result.now.store in
    let same : s ≡ state_in c.args.place.now = ap (λ o. o.store) (c.deref.ensures ∙ c.in-Some.ensures.taken.1) in
    IfErr-weaker c.look-seen.result (IsRefusedOn (graph_of_store s) c.args.silent.now c.args.as_if.now) (IsRefusedView c.args.place.now c.args.is_open c.args.silent.now c.args.as_if.now)
    (λ why on. inr (
      (c.in_ok-check_rights.ensures, (c.if-is_open.false, (c.in-Some.ensures.taken.0, tt))),
      λ g stands. subst (λ h. IsRefusedOn h c.args.silent.now c.args.as_if.now why) (ap graph_of_store same ∙ stands) on,
    ))
    c.look-seen.ensures.refused
