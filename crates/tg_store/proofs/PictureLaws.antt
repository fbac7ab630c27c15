-- What a walk over a store's heap finds is a picture of what is reached on the graph that the store represents.
use Rattle.std.proofs.Common.{◌≡◌, ◌↔◌, ⊎_elim, ℕ, ◌<◌, get_or, sym, ap, ◌∙◌, subst}
use Rattle.std.proofs.lemmas.Bool.{false≢true}
use Rattle.std.proofs.lemmas.List.Elements.{Contains-get_or}
use Rattle.std.specs.List.{All, Contains}
use Rattle.tg_rights.specs.RightSet.{is_none_held}
use Rattle.tg_model.specs.declared.edge.Edge.{Edge}
use Rattle.tg_model.specs.Graph.{ProtectionGraph, IsSound}
use Rattle.tg_model.specs.Picture.{Shown}
use Rattle.tg_journal.proofs.Decided.{contains}
use Rattle.tg_could.specs.Reached.{IsReachedEdge, IsReachedPicture}
use Rattle.tg_rows.specs.Content.{Content}
use Rattle.tg_graph.specs.Heap.{content_of, subject_names}
use Rattle.tg_graph.proofs.StandingLaws.{IsReachable-IsReached, IsReached-IsReachable, OnlyNamedHold-content_of}
use Rattle.tg_store.specs.Inner.Reaching.{AreBelow, IsReachedEdgeOf}
use Rattle.tg_store.specs.Store.{StoreState, StandsFor, IsFaithful, graph_of_store}
use Rattle.tg_store.proofs.StandLaws.{limit_of, sound_of}

pub all_below : (c : Content) (n : ℕ) → AreBelow c n → All (λ x. x < n) c.names
all_below c n below k d low = below.names (get_or c.names k d) (Contains-get_or c.names k d low)

module _ (s : StoreState) (faithful : IsFaithful s) where
  abbrev graph : ProtectionGraph
  graph = graph_of_store s

  abbrev content : Content
  content = content_of s.heap

  sound : IsSound graph
  sound = sound_of s faithful

  pub below_made : AreBelow content graph.made
  below_made = record {
    names = faithful.stands.made;
    targets = λ a b edge. ⊎_elim
        (λ named. let ends = sound.ends_made a b (ap is_none_held (sym (faithful.stands.labels a b named)) ∙ edge) in ends.1)
        (λ unnamed. absurd (false≢true (sym edge ∙ ap is_none_held (OnlyNamedHold-content_of s.heap a unnamed b))))
        (contains content.names a);
  }

  to_graph : (edge : Edge) → IsReachedEdgeOf content (subject_names s.heap) edge → IsReachedEdge graph edge
  to_graph edge is =
      let from = IsReachable-IsReached content graph faithful.stands (subject_names s.heap) (sym faithful.subjects) edge.from is.from in
      let same = faithful.stands.labels edge.from edge.to (faithful.stands.reachable edge.from from) in
      record { from = from; there = ap is_none_held (sym same) ∙ is.is.there; label = is.is.rights ∙ same }

  to_content : (edge : Edge) → IsReachedEdge graph edge → IsReachedEdgeOf content (subject_names s.heap) edge
  to_content edge is =
      let same = faithful.stands.labels edge.from edge.to (faithful.stands.reachable edge.from is.from) in
      record {
        from = IsReached-IsReachable content graph faithful.stands (subject_names s.heap) (sym faithful.subjects) edge.from is.from;
        is = record { there = ap is_none_held same ∙ is.there; rights = is.label ∙ sym same };
      }

  pub pictured : (p : Shown) → p.subjects ≡ subject_names s.heap → p.made ≡ graph.made → p.limit ≡ s.opening.plan.limit → ((edge : Edge) → Contains p.edges edge ↔ IsReachedEdgeOf content (subject_names s.heap) edge) → (g : ProtectionGraph) → StandsFor s g → IsReachedPicture p g
  pictured p subjects made limit edges g stands =
      let here : IsReachedPicture p graph = record {
        subjects = sym faithful.subjects ∙ sym subjects;
        made = sym made;
        limit = limit_of s faithful ∙ sym limit;
        edges = λ edge. (λ has. to_graph edge ((edges edge).0 has), λ is. (edges edge).1 (to_content edge is));
      } in
      subst (IsReachedPicture p) stands here
