-- What a full collection leaves of a store: what can be reached, and nothing else.
use Rattle.std.proofs.Common.{◌≡◌, ◌↔◌, ◌==◌, ℕ, length, sym, subst}
use Rattle.std.specs.List.{IsDistinct}
use Rattle.tg_model.specs.Graph.{ProtectionGraph, IsReachable}
use Rattle.tg_space.specs.declared.kind.Kind.{Kind}
use Rattle.tg_space.specs.declared.kind.Kind.TheVariants.{Full}
use Rattle.tg_rows.specs.Content.{IsNamed}
use Rattle.tg_graph.specs.Heap.{content_of, subject_names}
use Rattle.tg_graph.specs.Standing.{KeepsReached}
use Rattle.tg_graph.proofs.StandingLaws.{names-full_collection}
use Rattle.tg_store.specs.Store.{StoreState, StandsFor, IsCountOf, IsFaithful, graph_of_store}

module _ (old new : StoreState) (faithful : IsFaithful old) (kind : Kind) (keeps : KeepsReached kind (content_of old.heap) (content_of new.heap) (subject_names old.heap)) (full : kind ≡ Full) (g : ProtectionGraph) (stands : StandsFor old g) where
  -- exactly the names that can be reached are left
  pub names_left : (x : ℕ) → IsNamed (content_of new.heap) x ↔ IsReachable g x
  names_left x =
      subst (λ (h : ProtectionGraph). IsNamed (content_of new.heap) x ↔ IsReachable h x) stands
      (names-full_collection (content_of old.heap) (content_of new.heap) (graph_of_store old) faithful.stands (subject_names old.heap) (sym faithful.subjects)
      (subst (λ (k : Kind). KeepsReached k (content_of old.heap) (content_of new.heap) (subject_names old.heap)) full keeps) x)

  pub counted_left : (count : ℕ) → count ≡ length (content_of new.heap).names → IsDistinct (λ a b. a == b) (content_of new.heap).names → IsCountOf (IsReachable g) count
  counted_left count is_count once = record { each = (content_of new.heap).names; once = once; exactly = names_left; number = sym is_count }
