use Rattle.std.proofs.Common.{◌∙◌, ap, subst}
use Rattle.tg_store.specs.Held.{IsHeldOver}
use Rattle.tg_store.specs.Store.{graph_of_store}
use Rattle.tg_shared.specs.Sessions.{LockedState}
use Rattle.tg_shared.proofs.locked.Locked.label.Goals as goal

pub returns : goal.returns
returns g c = record {
  held = λ graph stands.
      subst (λ worker. IsHeldOver graph worker c.args.target c.label.result) c.worker.ensures
      (c.label.ensures.held graph (ap (λ (b : LockedState). graph_of_store b.store) c.self.view_is ∙ stands));
}
