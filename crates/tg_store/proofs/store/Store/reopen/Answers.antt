use Rattle.std.proofs.Common.{subst}
use Rattle.tg_space.specs.SpaceTable.{BlockLimits}
use Rattle.tg_store.specs.Again.{Reopens}
use Rattle.tg_store.proofs.store.Store.reopen.Goals as goal

pub returns-in-Ok-clause-reopened : goal.returns-in-Ok-clause-reopened
returns-in-Ok-clause-reopened g c = subst (λ (l : BlockLimits). Reopens c.args.opening c.args.snapshot.now l c.over.result) c.in-Ok.ensures.limits c.over.ensures
