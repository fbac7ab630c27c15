-- The names are those of the store's heap.
use Rattle.std.proofs.Common.{◌==◌, length, ap, subst, ◌∙◌}
use Rattle.std.specs.List.{IsDistinct}
use Rattle.tg_graph.specs.Heap.{content_of}
use Rattle.tg_graph.specs.Shown.{shown_in}
use Rattle.tg_store.specs.Store.{StoreState}
use Rattle.tg_store.proofs.store.Store.names.Goals as goal

pub returns : goal.returns
returns g c = record {
  number = c.names.ensures.number ∙ ap (λ (s : StoreState). length (content_of s.heap).names) c.self.view_is;
  shown = c.names.ensures.shown ∙ ap (λ (s : StoreState). shown_in (content_of s.heap).names c.args.into.now) c.self.view_is;
  once = subst (λ (s : StoreState). IsDistinct (λ a b. a == b) (content_of s.heap).names) c.self.view_is c.names.ensures.once;
}
