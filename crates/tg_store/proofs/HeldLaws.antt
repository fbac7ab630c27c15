-- What a worker's row of the heap says of a vertex is what the graph says for which the heap stands.
use Rattle.std.proofs.Common.{◌≡◌, ℕ, Option, None, refl, sym, ap, subst, ◌∙◌}
use Rattle.tg_rights.specs.RightSet.{RightSet, label_of}
use Rattle.tg_model.specs.Graph.{ProtectionGraph}
use Rattle.tg_graph.specs.Heap.{IsActive, content_of}
use Rattle.tg_graph.proofs.StandingLaws.{StandsFor-near}
use Rattle.tg_store.specs.Held.{IsHeldOver}
use Rattle.tg_store.specs.Store.{StoreState, StandsFor, IsFaithful, graph_of_store}
use Rattle.tg_store.proofs.StandLaws.{active_here, sound_of, subject_here}

module _ (s : StoreState) (faithful : IsFaithful s) (x y : ℕ) (told : Option RightSet) where
  -- of an active subject
  module _ (active : IsActive s.heap x) (is : told ≡ label_of ((content_of s.heap).label x y)) where
    same_label : (content_of s.heap).label x y ≡ (graph_of_store s).label x y
    same_label = (StandsFor-near (content_of s.heap) (graph_of_store s) faithful.stands x (subject_here s faithful (graph_of_store s) x refl active)).own y

    held_here : IsHeldOver (graph_of_store s) x y told
    held_here = record {
      subject = λ _. is ∙ ap label_of same_label;
      other = λ none. absurd (none (subject_here s faithful (graph_of_store s) x refl active));
      itself = λ one. is ∙ ap label_of (same_label ∙ ap ((graph_of_store s).label x) (sym one) ∙ (sound_of s faithful).no_loop x);
    }

    pub held_by_subject : (g : ProtectionGraph) → StandsFor s g → IsHeldOver g x y told
    held_by_subject g stands = subst (λ h. IsHeldOver h x y told) stands held_here

  -- of any other name
  pub held_by_none : (IsActive s.heap x → ⊥) → told ≡ None → (g : ProtectionGraph) → StandsFor s g → IsHeldOver g x y told
  held_by_none none is g stands = record {
    subject = λ subject. absurd (none (active_here s faithful g x stands subject));
    other = λ _. is;
    itself = λ _. is;
  }
