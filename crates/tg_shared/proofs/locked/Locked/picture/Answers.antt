use Rattle.std.proofs.Common.{◌∙◌, ap}
use Rattle.tg_store.specs.Store.{graph_of_store}
use Rattle.tg_shared.specs.Sessions.{LockedState}
use Rattle.tg_shared.proofs.locked.Locked.picture.Goals as goal

pub returns : goal.returns
returns g c = λ graph stands. c.picture.ensures graph (ap (λ (b : LockedState). graph_of_store b.store) c.self.view_is ∙ stands)
