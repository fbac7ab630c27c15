-- What the changes of a deed come to in the graph that is kept.
use Rattle.std.proofs.Common.{◌≡◌, ◌+◌, ℕ, List, Bool, true, false, cond, Option, None, refl, sym, ap, ◌∙◌}
use mathlib.Core.Bool.{true≢false}
use Rattle.tg_rights.specs.RightSet.{RightSet, no_rights, is_none_held}
use Rattle.tg_model.specs.declared.value.Value.{Value}
use Rattle.tg_model.specs.declared.making.Making.{Making}
use Rattle.tg_model.specs.Graph.{IsReachable, with_rights}
use Rattle.tg_model.specs.Making.{deed_making, subjects_making}
use Rattle.tg_model.specs.Rules.{step, with_value}
use Rattle.tg_model.proofs.MakingLaws.{HasRoom, step-made}
use Rattle.tg_journal.specs.declared.vertices.Vertex.{Vertex}
use Rattle.tg_journal.specs.Live.{KeptGraph, graph_kept, label_between, value_of, IsSweptGraph}

abbrev pub kept : List ℕ → ℕ → ℕ → List Vertex → KeptGraph
kept s n l vs = record { subjects = s; made = n; limit = l; vertices = vs }

-- ---- the parts that change

module _ (s : List ℕ) (n l : ℕ) (vs : List Vertex) (k : KeptGraph) (view : kept s n l vs ≡ k) where
  pub relabelled : (new : List Vertex) (f : (ℕ → ℕ → RightSet) → ℕ → ℕ → RightSet) → label_between new ≡ f (label_between vs) → value_of new ≡ value_of vs → graph_kept (kept s n l new) ≡ record (graph_kept k) { label = f (label_between k.vertices) }
  relabelled new f labels values =
      (λ i. record { subjects = s; made = n; limit = l; label = labels i; value = values i })
      ∙ ap (λ (k : KeptGraph). record (graph_kept k) { label = f (label_between k.vertices) }) view

  pub rewritten : (new : List Vertex) (f : (ℕ → Option Value) → ℕ → Option Value) → label_between new ≡ label_between vs → ((a : ℕ) → value_of new a ≡ f (value_of vs) a) → graph_kept (kept s n l new) ≡ record (graph_kept k) { value = f (value_of k.vertices) }
  rewritten new f labels values =
      (λ i. record { subjects = s; made = n; limit = l; label = labels i; value = λ a. values a i })
      ∙ ap (λ (k : KeptGraph). record (graph_kept k) { value = f (value_of k.vertices) }) view

  -- a vertex more, which may be a subject
  pub made : (x : ℕ) (r : RightSet) (v : Value) (making : Making) (new : List Vertex) → label_between new ≡ with_rights (label_between vs) x n r → ((a : ℕ) → value_of new a ≡ with_value (value_of vs) n v a) → HasRoom making (graph_kept (kept s n l vs)) → graph_kept (kept (subjects_making making s n) (n + 1) l new) ≡ step (graph_kept k) x (deed_making making r v)
  made x r v making new labels values room =
      (λ i. record { subjects = subjects_making making s n; made = n + 1; limit = l; label = labels i; value = λ a. values a i })
      ∙ sym (step-made (graph_kept (kept s n l vs)) x r v making room)
      ∙ ap (λ (k : KeptGraph). step (graph_kept k) x (deed_making making r v)) view

-- ---- a sweep

pub kept_edge : (b : Bool) (r : RightSet) → is_none_held (cond b r no_rights) ≡ false → is_none_held r ≡ false
kept_edge true r some = some
kept_edge false r some = absurd (true≢false some)

module _ (s : List ℕ) (n l : ℕ) (vs : List Vertex) (k : KeptGraph) (view : kept s n l vs ≡ k) (names : ℕ → Bool) (new : List Vertex) (reached : (y : ℕ) → (names y ≡ true → IsReachable (graph_kept k) y) × (IsReachable (graph_kept k) y → names y ≡ true)) (labels : (x y : ℕ) → label_between new x y ≡ cond (names x) (label_between vs x y) no_rights) (values : (y : ℕ) → value_of new y ≡ cond (names y) (value_of vs y) None) where
  is_out : (y : ℕ) → (IsReachable (graph_kept k) y → ⊥) → names y ≡ false
  is_out y out = not_in (names y) refl
    where
      not_in : (b : Bool) → b ≡ names y → names y ≡ false
      not_in true is = absurd (out ((reached y).0 (sym is)))
      not_in false is = sym is

  pub swept : IsSweptGraph (graph_kept k) (graph_kept (kept s n l new))
  swept = record {
    subjects = ap (λ (k : KeptGraph). k.subjects) view;
    made = ap (λ (k : KeptGraph). k.made) view;
    limit = ap (λ (k : KeptGraph). k.limit) view;
    label = λ x y there. labels x y ∙ ap (λ b. cond b (label_between vs x y) no_rights) ((reached x).1 there) ∙ ap (λ (k : KeptGraph). label_between k.vertices x y) view;
    value = λ y there. values y ∙ ap (λ b. cond b (value_of vs y) None) ((reached y).1 there) ∙ ap (λ (k : KeptGraph). value_of k.vertices y) view;
    no_label = λ x y out. labels x y ∙ ap (λ b. cond b (label_between vs x y) no_rights) (is_out x out);
    no_value = λ y out. values y ∙ ap (λ b. cond b (value_of vs y) None) (is_out y out);
  }
