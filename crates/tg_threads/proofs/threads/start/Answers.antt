use Rattle.std.proofs.Common.{ℕ, List, map, ap, ◌∙◌}
use Rattle.tg_threads.specs.declared.threads.Assigned.{Assigned}
use Rattle.tg_threads.specs.Boxes.{Boxed, boxed_of}
use Rattle.tg_threads.proofs.BringLaws.{brings_as}
use Rattle.tg_threads.proofs.threads.start.Goals as goal

pub spawn_with-requires-clause-keeps : goal.spawn_with-requires-clause-keeps
spawn_with-requires-clause-keeps g c = λ κs lives r kept.
    (kept.fault, brings_as g.L.Round.start c.args.context.now.helpers c.worker.result c.args.work.session.worker c.of.result.value.items c.args.work.tasks.items r c.worker.ensures (ap (λ v. v.items) c.of.ensures) kept.brought)

pub returns-clause-promise : goal.returns-clause-promise
returns-clause-promise g c =
    let given : Assigned g.row.P.Denot → ℕ × List Boxed = λ p. (p.worker, map boxed_of p.tasks.value.items) in
    ap given c.in-Ok.ensures.ok ∙ (λ i. (c.worker.ensures i, map boxed_of (c.of.ensures i).items))
