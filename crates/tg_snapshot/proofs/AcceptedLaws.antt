-- Lists that rise and are of a sound graph, of which a snapshot can be made, are a snapshot.
use mathlib.Core.Bool.{true≢false}
use Rattle.std.proofs.Common.{◌≡◌, ◌≢◌, ◌<◌, ◌≤◌, ◌==◌, ◌&&◌, ◌+◌, ◌∷◌, [], ℕ, zero, suc, Bool, true, false, List, length, get_or, Option, Some, refl, sym, ap, subst, ◌∙◌, arith}
use Rattle.std.specs.Prelude.{EachIndex, IfSome, is_some}
use Rattle.std.specs.List.{All}
use Rattle.std.proofs.lemmas.Bool.{eq-eqb, cond-true, cond_both}
use Rattle.std.proofs.lemmas.List.{get_or_default}
use Rattle.std.proofs.lemmas.List.Elements.{All-head, All-tail, Contains-get_or}
use Rattle.tg_rights.specs.RightSet.{RightSet, union, is_none_held}
use Rattle.tg_rights.proofs.RightLaws.{holds_all-union, some_holds_all, union_comm}
use Rattle.tg_model.specs.declared.edge.Edge.{Edge}
use Rattle.tg_model.specs.declared.opening.TheConstants.{MAX_LASTING_VERTICES}
use Rattle.tg_model.specs.declared.value.Value.{Value}
use Rattle.tg_model.specs.Graph.{ProtectionGraph, HasEdge, IsReachable, IsSound}
use Rattle.tg_model.specs.Opened.{ValueFits, label_in}
use Rattle.tg_model.specs.Walks.{begins, goes}
use Rattle.tg_model.proofs.ReachLaws.{lt-IsReachable}
use Rattle.tg_snapshot.specs.declared.vertex.ShownVertex.{ShownVertex}
use Rattle.tg_snapshot.specs.Snapshot.{Saved, ComesAfter, EdgePrecedes, NamePrecedes, ShowsName, JoinsShown, IsVertexLine, IsSubjectLine, IsSnapshot, IsSnapshotOf, value_shown}
use Rattle.tg_snapshot.proofs.RisingLaws.{RiseFrom, rise, here, elsewhere}
use Rattle.tg_snapshot.proofs.ShownLaws.{shown_at}

-- ---- what is at a place of a list

pub low : (n : ℕ) (vs : List ShownVertex) (k : ℕ) (d : ShownVertex) → RiseFrom n vs → k < length vs → n ≤ (get_or vs k d).name
low n [] k d rising inside = absurd (omega (arith, inside))
low n (v ∷ vs) zero d rising inside = rising.0
low n (v ∷ vs) (suc k) d rising inside = let rest = low (v.name + 1) vs k d rising.1 (omega (arith, inside)) in omega (arith, rest, rising.0)

pub value_at : (n : ℕ) (vs : List ShownVertex) (k : ℕ) (d : ShownVertex) → RiseFrom n vs → k < length vs → value_shown vs (get_or vs k d).name ≡ Some (get_or vs k d).value
value_at n [] k d rising inside = absurd (omega (arith, inside))
value_at n (v ∷ vs) zero d rising inside = here v vs v.name refl
value_at n (v ∷ vs) (suc k) d rising inside =
    let later = low (v.name + 1) vs k d rising.1 (omega (arith, inside)) in
    elsewhere v vs (get_or vs k d).name (λ same. omega (arith, same, later))
    ∙ value_at (v.name + 1) vs k d rising.1 (omega (arith, inside))

abbrev Held : List Edge → Type 0
Held es = All (λ (e : Edge). is_none_held e.label ≡ false) es

more_behind : (l r : RightSet) → is_none_held r ≡ false → is_none_held (union l r) ≡ false
more_behind l r some = some_holds_all (union l r) r (holds_all-union l r) some

more_before : (l r : RightSet) → is_none_held l ≡ false → is_none_held (union l r) ≡ false
more_before l r some = ap is_none_held (union_comm l r) ∙ more_behind r l some

-- each edge of a list has a label
has_label : (es : List Edge) (k : ℕ) (d : Edge) → Held es → k < length es → HasEdge (label_in es) (get_or es k d).from (get_or es k d).to
has_label [] k d held inside = absurd (omega (arith, inside))
has_label (e ∷ es) zero d held inside =
    ap is_none_held (cond-true ((e.from == e.from) && (e.to == e.to)) (union e.label (label_in es e.from e.to)) (label_in es e.from e.to) at_itself)
    ∙ more_before e.label (label_in es e.from e.to) (All-head (λ (e : Edge). is_none_held e.label ≡ false) e es held)
  where
    at_itself : ((e.from == e.from) && (e.to == e.to)) ≡ true
    at_itself = ap (λ (t : Bool). t && (e.to == e.to)) (eq-eqb e.from e.from refl) ∙ eq-eqb e.to e.to refl
has_label (e ∷ es) (suc k) d held inside =
    let f : Edge = get_or es k d in
    let rest : HasEdge (label_in es) f.from f.to = has_label es k d (All-tail (λ (e : Edge). is_none_held e.label ≡ false) e es held) (omega (arith, inside)) in
    cond_both ((f.from == e.from) && (f.to == e.to)) (union e.label (label_in es f.from f.to)) (label_in es f.from f.to) (λ s. is_none_held s ≡ false)
    (λ at. more_behind e.label (label_in es f.from f.to) rest) (λ other. rest)

-- ---- the lists are a snapshot

module _ (p : Saved) (g : ProtectionGraph) (sound : IsSound g) (is : IsSnapshotOf p g) (names : EachIndex p.vertices (ComesAfter NamePrecedes p.vertices)) (ends : EachIndex p.picture.edges (ComesAfter EdgePrecedes p.picture.edges)) (held : Held p.picture.edges) where
  stored : (y : ℕ) → IsReachable g y → ShowsName p.vertices y
  stored y reachable = ap is_some (is.value y reachable) ∙ (sound.values y).1 (lt-IsReachable g sound y reachable)

  joins_at : (e : Edge) → HasEdge (label_in p.picture.edges) e.from e.to → is_none_held e.label ≡ false → JoinsShown p.vertices e
  joins_at e edge some = record { apart = apart; from = stored e.from from; to = stored e.to (goes from there); held = some }
    where
      from : IsReachable g e.from
      from = is.no_edge_else e.from e.to edge

      there : HasEdge g.label e.from e.to
      there = sym (ap is_none_held (is.label e.from e.to from)) ∙ edge

      apart : e.from ≢ e.to
      apart same = true≢false (sym (ap is_none_held (sound.no_loop e.to)) ∙ subst (λ (x : ℕ). HasEdge g.label x e.to) same there)

  joins : (k : ℕ) (d : Edge) → k < length p.picture.edges → JoinsShown p.vertices (get_or p.picture.edges k d)
  joins k d inside = joins_at (get_or p.picture.edges k d) (has_label p.picture.edges k d held inside) (held k d inside)

  subject_at : (k : ℕ) (d : ℕ) → k < length g.subjects → ShowsName p.vertices (get_or g.subjects k d)
  subject_at k d inside =
      subst (ShowsName p.vertices) (get_or_default g.subjects k 0 d inside) (stored (get_or g.subjects k 0) (begins (Contains-get_or g.subjects k 0 inside)))

  subjects_rise : (at : ℕ) → at < length g.subjects → ComesAfter (λ x y. x < y) g.subjects at
  subjects_rise at inside k d next =
      let less = sound.rising k (omega (arith, inside, next)) in
      subst (λ (n : ℕ). get_or g.subjects k d < get_or g.subjects n d) next
      (less_then (get_or_default g.subjects k 0 d (omega (arith, inside, next))) (get_or_default g.subjects (k + 1) 0 d (omega (arith, inside, next))) less)
    where
      less_then : {a b c e : ℕ} → a ≡ c → b ≡ e → a < b → c < e
      less_then first second less = omega (arith, first, second, less)

  lines : EachIndex g.subjects (IsSubjectLine p.vertices g.subjects)
  lines at inside = record {
    few = omega (arith, inside, sound.few_subjects);
    rises = subjects_rise at inside;
    shown = λ d. subject_at at d inside;
  }

  module _ (some_made : 1 ≤ g.made) (within : g.made ≤ g.limit) (limit : g.limit ≤ MAX_LASTING_VERTICES) (fits : (y : ℕ) → IfSome (g.value y) ValueFits) where
    line : (k : ℕ) → k < length p.vertices → IsVertexLine p.picture.made p.vertices k
    line k inside = record { rises = names k inside; below = below; fits = fitting }
      where
        reached : (d : ShownVertex) → IsReachable g (get_or p.vertices k d).name
        reached d = is.no_vertex_else (get_or p.vertices k d).name (shown_at p.vertices k d inside)

        below : (d : ShownVertex) → (get_or p.vertices k d).name < p.picture.made
        below d = omega (arith, lt-IsReachable g sound (get_or p.vertices k d).name (reached d), is.made)

        fitting : (d : ShownVertex) → ValueFits (get_or p.vertices k d).value
        fitting d =
            let v : ShownVertex = get_or p.vertices k d in
            let same : g.value v.name ≡ Some v.value = sym (is.value v.name (reached d)) ∙ value_at 0 p.vertices k d (rise p.vertices names) inside in
            subst (λ (o : Option Value). IfSome o ValueFits) same (fits v.name)

    pub accepted : IsSnapshot p
    accepted = record {
      some_made = omega (arith, some_made, is.made);
      limit = (omega (arith, within, is.made, is.limit), omega (arith, limit, is.limit));
      vertices = line;
      subjects = subst (λ (xs : List ℕ). EachIndex xs (IsSubjectLine p.vertices xs)) (sym is.subjects) lines;
      edges = λ k inside. record { rises = ends k inside; joins = λ d. joins k d inside };
    }
