-- The graph that a snapshot shows is sound.
use mathlib.Core.Bool.{true≢false}
use Rattle.std.proofs.Common.{◌≡◌, ◌↔◌, ◌<◌, ◌≤◌, ◌+◌, ◌==◌, ◌&&◌, ◌∷◌, [], ℕ, zero, suc, Bool, true, false, cond, List, length, Some, None, refl, sym, ap, subst, ◌∙◌, arith}
use Rattle.std.specs.Prelude.{nat_lt, is_some, IsSome, unwrap_or, slice_index_or, EachIndex}
use Rattle.std.specs.List.{All, Contains}
use Rattle.std.specs.List.Sorted.{IsStrictlyIncreasing}
use Rattle.std.proofs.lemmas.Bool.{ltb-true, lt-ltb, eqb-true, and_parts, cond_both, false≢true}
use Rattle.std.proofs.lemmas.List.Elements.{All-head, All-tail}
use Rattle.tg_rights.specs.RightSet.{RightSet, no_rights, union, is_none_held}
use Rattle.tg_rights.proofs.RightLaws.{none_held-same}
use Rattle.tg_model.specs.declared.edge.Edge.{Edge}
use Rattle.tg_model.specs.declared.opening.TheConstants.{MAX_WORKERS}
use Rattle.tg_model.specs.declared.value.Value.{Value}
use Rattle.tg_model.specs.Graph.{HasEdge, IsSound}
use Rattle.tg_model.specs.Opened.{JoinsWorkers, label_in}
use Rattle.tg_model.proofs.SoundLaws.{joined_in}
use Rattle.tg_snapshot.specs.declared.vertex.ShownVertex.{ShownVertex}
use Rattle.tg_snapshot.specs.Snapshot.{Saved, ShowsName, JoinsShown, IsVertexLine, IsSubjectLine, IsEdgeLine, IsSnapshot, graph_shown, value_shown, unreached_value}
use Rattle.tg_snapshot.proofs.ShownLaws.{nobody, place_of}

-- ---- soundness

module _ (made : ℕ) (vs : List ShownVertex) (lines : EachIndex vs (IsVertexLine made vs)) where
  pub lt-shown : (y : ℕ) → ShowsName vs y → y < made
  lt-shown y shown =
      let place = place_of vs y shown in
      subst (λ (n : ℕ). n < made) (place.named nobody) ((lines place.at place.inside).below nobody)

  pub edges_join : (edges : List Edge) → EachIndex edges (IsEdgeLine vs edges) → All (JoinsWorkers made) edges
  edges_join edges each k d inside =
      let joins = (each k inside).joins d in (joins.apart, lt-shown (slice_index_or edges k d).from joins.from, lt-shown (slice_index_or edges k d).to joins.to)

  subjects_rise : (subjects : List ℕ) → EachIndex subjects (IsSubjectLine vs subjects) → IsStrictlyIncreasing subjects
  subjects_rise subjects each k inside = (each (k + 1) inside).rises k 0 refl

  subjects_made : (subjects : List ℕ) → EachIndex subjects (IsSubjectLine vs subjects) → (x : ℕ) → Contains subjects x → x < made
  subjects_made subjects each x (k, inside, is) =
      subst (λ (n : ℕ). n < made) is (lt-shown (slice_index_or subjects k x) ((each k inside).shown x))

  few_subjects : (subjects : List ℕ) → EachIndex subjects (IsSubjectLine vs subjects) → length subjects ≤ MAX_WORKERS
  few_subjects subjects each = few (length subjects) (λ k inside. (each k inside).few)
    where
      few : (n : ℕ) → ((k : ℕ) → k < n → k < MAX_WORKERS) → n ≤ MAX_WORKERS
      few zero below = omega arith
      few (suc n) below = omega (arith, below n (omega arith))

pub some_below : (n y : ℕ) (v : Value) → IsSome (cond (nat_lt y n) (Some v) None) ↔ (y < n)
some_below n y v = decide (nat_lt y n) refl
  where
    decide : (b : Bool) → b ≡ nat_lt y n → IsSome (cond (nat_lt y n) (Some v) None) ↔ (y < n)
    decide true is = (λ some. ltb-true y n (sym is), λ below. ap (λ (c : Bool). is_some (cond c (Some v) None)) (sym is))
    decide false is = (
      λ some. absurd (false≢true (ap (λ (c : Bool). is_some (cond c (Some v) None)) is ∙ some)),
      λ below. absurd (false≢true (is ∙ lt-ltb y n below)),
    )

pub IsSound-shown : (p : Saved) → IsSnapshot p → IsSound (graph_shown p)
IsSound-shown p is =
    let made = p.picture.made in
    let joined = joined_in made p.picture.edges (edges_join made p.vertices is.vertices p.picture.edges is.edges) in
    record {
      rising = subjects_rise made p.vertices is.vertices p.picture.subjects is.subjects;
      subjects_made = subjects_made made p.vertices is.vertices p.picture.subjects is.subjects;
      few_subjects = few_subjects made p.vertices is.vertices p.picture.subjects is.subjects;
      ends_made = joined.ends;
      no_loop = joined.no_loop;
      values = λ y. some_below made y (unwrap_or (value_shown p.vertices y) unreached_value);
    }

-- ---- who is shown

-- a subject is shown
pub shown_subject : (p : Saved) → IsSnapshot p → (x : ℕ) → Contains p.picture.subjects x → ShowsName p.vertices x
shown_subject p is x (k, inside, at) =
    subst (ShowsName p.vertices) at ((is.subjects k inside).shown x)

joined_target : (vs : List ShownVertex) (es : List Edge) → All (JoinsShown vs) es → (x y : ℕ) → HasEdge (label_in es) x y → ShowsName vs y
joined_target vs [] all x y edge = absurd (true≢false edge)
joined_target vs (e ∷ es) all x y edge =
    cond_both ((x == e.from) && (y == e.to)) (union e.label (label_in es x y)) (label_in es x y) (λ s. is_none_held s ≡ false → ShowsName vs y)
    (λ at some. subst (ShowsName vs) (sym (eqb-true y e.to (and_parts (x == e.from) (y == e.to) at).1)) (All-head (JoinsShown vs) e es all).to)
    (λ other some. joined_target vs es (All-tail (JoinsShown vs) e es all) x y some) edge

-- and so is whoever somebody has an edge to
pub shown_target : (p : Saved) → IsSnapshot p → (x y : ℕ) → HasEdge (label_in p.picture.edges) x y → ShowsName p.vertices y
shown_target p is = joined_target p.vertices p.picture.edges (λ k d inside. (is.edges k inside).joins d)

-- ---- rights

pub none_held : (s : RightSet) → (is_none_held s ≡ false → ⊥) → s ≡ no_rights
none_held s none = none_held-same s (decide (is_none_held s) refl)
  where
    decide : (b : Bool) → b ≡ is_none_held s → is_none_held s ≡ true
    decide true is = sym is
    decide false is = absurd (none (sym is))
