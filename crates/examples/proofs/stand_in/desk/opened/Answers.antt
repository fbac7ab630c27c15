-- Where no edge of an opening leads to the owner, nobody may take from it.
use Rattle.std.proofs.Common.{◌≡◌, ◌<◌, ◌≤◌, ℕ, sym, subst, arith}
use Rattle.tg_model.specs.Graph.{ProtectionGraph}
use Rattle.tg_model.specs.Opened.{start_of}
use Rattle.tg_store.specs.Store.{graph_of_store}
use Rattle.examples.specs.declared.stand_in.desk.TheConstants.{OWNER}
use Rattle.examples.specs.Alone.{IsUntaken}
use Rattle.examples.proofs.AloneLaws.{untaken-start}
use Rattle.examples.proofs.stand_in.desk.opened.Goals as goal

first_made : (workers : ℕ) → 1 ≤ workers → 0 < workers
first_made workers some = omega (arith, some)

pub returns : goal.returns
returns g c =
    let plan = c.args.opening in
    let start : graph_of_store c.in_ok-store.store ≡ start_of plan = c.in_ok-store.ensures.start in
    subst (λ (h : ProtectionGraph). IsUntaken OWNER h) (sym start)
    (untaken-start OWNER plan (first_made plan.workers c.workers.ensures.plan.workers.0) c.requires.untaken)
