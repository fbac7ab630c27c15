-- Who has an edge with the right holds it.
use Rattle.std.proofs.Common.{◌∙◌}
use Rattle.tg_store.specs.Inner.Reaching.{names_sharing}
use Rattle.tg_store.proofs.HoldingLaws.{holders_are, if_ok}
use Rattle.tg_store.proofs.store.Store.who_holds.Goals as goal

pub returns : goal.returns
returns g c = λ graph stands.
    if_ok c.holders_in.result c.holders_in.ensures
    (λ names is. holders_are graph c.args.name c.in_ok-edges.edges.items (c.in_ok-edges.ensures graph stands) c.args.right names.items
    (is ∙ (λ i. names_sharing (c.of.ensures i) (c.as_slice.ensures.value i))))
