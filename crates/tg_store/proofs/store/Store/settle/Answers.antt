-- The heap then has what can be reached, and represents the same graph.
use Rattle.std.proofs.Common.{◌∙◌, refl, ap, sym, subst}
use Rattle.std.proofs.lemmas.Result.{err_from_is_err_and}
use Rattle.tg_space.specs.Collection.{IsCollection, collected_in}
use Rattle.tg_graph.specs.Heap.{HeapState, content_of, roots_of, subject_names}
use Rattle.tg_graph.specs.Kept.{VerticesOfOldStay}
use Rattle.tg_graph.proofs.StandingLaws.{StandsFor-collected}
use Rattle.tg_store.specs.Counts.{with_one_collection}
use Rattle.tg_store.specs.Store.{HasAdopted, IsStore, StoreState, graph_of_store}
use Rattle.tg_store.proofs.CollectLaws.{counted_left, names_left}
use Rattle.tg_store.proofs.StandLaws.{IsStore-kept}
use Rattle.tg_store.proofs.store.Store.settle.Goals as goal

pub settle-requires : goal.settle-requires
settle-requires g c = subst (λ (s : StoreState). IsCollection c.args.kind s.heap.table.spaces (roots_of c.args.kind s.heap) (collected_in c.args.copied)) (sym c.self.view_is) c.requires

pub invariant_of-self : goal.invariant_of-self
invariant_of-self g c =
    subst (λ (h : HeapState). IsStore (record { opening = c.self.inside.opening; entries = c.self.inside.journal.entries; handed = c.self.inside.journal.start; heap = h; collections = c.self.inside.collections }) c.self.inside.made) (sym c.in_err-count.ensures.refused) c.self.invariant

pub invariant_of-self-2 : goal.invariant_of-self-2
invariant_of-self-2 g c =
    let faithful = c.self.invariant.faithful in
    IsStore-kept _ _ c.self.inside.made c.self.invariant refl refl
    (StandsFor-collected c.args.kind (content_of c.self.inside.heap) (content_of c.settle.new.self) _ (subject_names c.self.inside.heap) faithful.stands (sym faithful.subjects) c.in_ok-count.ensures.kept) c.settle.ensures.subjects

pub returns-clause-swept : goal.returns-clause-swept
returns-clause-swept g c =
    let old : StoreState = record { opening = c.self.inside.opening; entries = c.self.inside.journal.entries; handed = c.self.inside.journal.start; heap = c.self.inside.heap; collections = c.self.inside.collections } in
    let new : StoreState = record { opening = c.self.inside.opening; entries = c.self.inside.journal.entries; handed = c.self.inside.journal.start; heap = c.settle.new.self; collections = c.add.new.self } in
    let told = c.in_ok-count.ensures in
    record {
      number = told.left;
      names = λ graph stands full. names_left old new c.self.invariant.faithful c.args.kind told.kept full graph (ap graph_of_store c.self.view_is ∙ stands);
      reachable = λ graph stands full. counted_left old new c.self.invariant.faithful c.args.kind told.kept full graph (ap graph_of_store c.self.view_is ∙ stands) c.in_ok-count.count told.left c.vertices.ensures.once;
      only_old = told.only_old;
      no_nursery = told.no_nursery;
      needed = told.needed;
      none_needed = told.none_needed;
      stay = λ nursery. subst (λ (state : StoreState). VerticesOfOldStay state.heap.table.spaces new.heap.table.spaces) c.self.view_is (told.stay nursery);
      counted = c.add.ensures ∙ ap (λ (s : StoreState). with_one_collection c.args.kind s.collections) c.self.view_is;
    }

pub returns-clause-adopted : goal.returns-clause-adopted
returns-clause-adopted g c =
    subst (λ (state : StoreState). HasAdopted c.args.kind state.heap c.settle.new.self (collected_in c.args.copied)) c.self.view_is
    (record { full = c.in_ok-count.ensures.blocks; nursery = c.in_ok-count.ensures.written })

pub returns-clause-history : goal.returns-clause-history
returns-clause-history g c = record {
  entries = ap (λ (s : StoreState). s.entries) c.self.view_is;
  handed = ap (λ (s : StoreState). s.handed) c.self.view_is;
  refused = tt;
  opening = ap (λ (s : StoreState). s.opening) c.self.view_is;
  limits = c.settle.ensures.limits ∙ ap (λ (s : StoreState). s.heap.table.limits) c.self.view_is;
}

pub returns-in_err-count-clause-swept : goal.returns-in_err-count-clause-swept
returns-in_err-count-clause-swept g c = let given = err_from_is_err_and c.from_residual.result c.from_residual.ensures.1 in rw given.1 tt

pub returns-in_err-count-clause-adopted : goal.returns-in_err-count-clause-adopted
returns-in_err-count-clause-adopted g c = let given = err_from_is_err_and c.from_residual.result c.from_residual.ensures.1 in rw given.1 tt

pub returns-in_err-count-clause-history : goal.returns-in_err-count-clause-history
returns-in_err-count-clause-history g c =
    let given = err_from_is_err_and c.from_residual.result c.from_residual.ensures.1 in
    let same = c.in_err-count.ensures.refused in
    record {
      entries = ap (λ (s : StoreState). s.entries) c.self.view_is;
      handed = ap (λ (s : StoreState). s.handed) c.self.view_is;
      refused = rw given.1 ((λ i. record { opening = c.self.inside.opening; entries = c.self.inside.journal.entries; handed = c.self.inside.journal.start; heap = same i; collections = c.self.inside.collections }) ∙ c.self.view_is);
      opening = ap (λ (s : StoreState). s.opening) c.self.view_is;
      limits = c.settle.ensures.limits ∙ ap (λ (s : StoreState). s.heap.table.limits) c.self.view_is;
    }
