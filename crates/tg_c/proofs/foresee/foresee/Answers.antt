use Rattle.std.proofs.Common.{◌∙◌, sym, ap}
use Rattle.std.proofs.lemmas.Result.{IfErr-weaker}
use Rattle.tg_store.specs.Store.{graph_of_store}
use Rattle.tg_c.specs.Could.{IsRefusedOn, IsRefusedQuestion}
use Rattle.tg_c.proofs.CouldLaws.{refused_first}
use Rattle.tg_c.proofs.foresee.foresee.Goals as goal

pub returns-clause-refused : goal.returns-clause-refused
returns-clause-refused c =
    let s = c.deref.result.now.store in
    IfErr-weaker c.foresee-foreseen.result (IsRefusedOn (graph_of_store s) c.args.silent.now c.args.as_if.now)
    (IsRefusedQuestion c.args.place.now c.args.is_open c.args.silent.now c.args.as_if.now c.args.asked.right)
    (λ why on. refused_first c.args.place.now c.args.is_open c.args.silent.now c.args.as_if.now c.args.asked.right c.in-Some.right (sym c.in-Some.ensures) c.in_ok-check_rights.ensures
    c.if-is_open.false c.in-Some-take.ensures.taken.0 s (ap (λ o. o.store) (c.deref.ensures ∙ c.in-Some-take.ensures.taken.1)) why on)
    c.foresee-foreseen.ensures.refused
