-- Two snapshots of one graph at one place are the same.
use Rattle.std.proofs.Common.{◌≡◌, ◌≢◌, ◌⊎◌, inl, inr, ⊎_elim, ◌<◌, ◌≤◌, ◌==◌, ◌&&◌, ◌+◌, ◌∷◌, [], ℕ, Bool, true, false, List, Option, Some, None, refl, sym, ap, subst, ◌∙◌, arith}
use Rattle.std.specs.Prelude.{is_some, EachIndex}
use Rattle.std.specs.List.{All}
use Rattle.std.proofs.lemmas.Bool.{eqb-true, eqb-false, eq-eqb, and_parts, cond-true, cond-false, cases_lt, false≢true}
use Rattle.std.proofs.lemmas.List.Elements.{All-head, All-tail}
use Rattle.std.proofs.lemmas.Option.{none-some}
use Rattle.tg_rights.specs.RightSet.{no_rights, union, is_none_held}
use Rattle.tg_rights.proofs.RightLaws.{none_held-same, same-none_held, union_none}
use Rattle.tg_model.specs.declared.edge.Edge.{Edge}
use Rattle.tg_model.specs.declared.value.Value.{Value}
use Rattle.tg_model.specs.Graph.{ProtectionGraph, IsReachable}
use Rattle.tg_model.specs.Opened.{label_in}
use Rattle.tg_snapshot.specs.declared.vertex.ShownVertex.{ShownVertex}
use Rattle.tg_snapshot.specs.Snapshot.{Saved, IsEdgeLine, IsSnapshot, IsSnapshotOf, value_shown}
use Rattle.tg_snapshot.proofs.RisingLaws.{RiseFrom, RiseAfter, Rises, rise, rises, rest_rises, here, elsewhere, unshown_below}

-- ---- vertices

-- the first name of one list isn't below that of the other
not_below : (v w : ShownVertex) (vs ws : List ShownVertex) → RiseFrom (w.name + 1) ws → ((y : ℕ) → value_shown (v ∷ vs) y ≡ value_shown (w ∷ ws) y) → v.name < w.name → ⊥
not_below v w vs ws rising same less =
    none-some v.value (sym (unshown_below w.name (w ∷ ws) v.name (omega arith, rising) less) ∙ sym (same v.name) ∙ here v vs v.name refl)

module _ (v w : ShownVertex) (vs ws : List ShownVertex) (rising : RiseFrom (v.name + 1) vs) (other : RiseFrom (w.name + 1) ws) (same : (y : ℕ) → value_shown (v ∷ vs) y ≡ value_shown (w ∷ ws) y) where
  same_name : v.name ≡ w.name
  same_name =
      ⊎_elim (λ less. absurd (not_below v w vs ws other same less))
      (λ le. ⊎_elim (λ less. absurd (not_below w v ws vs rising (λ y. sym (same y)) less)) (λ ge. omega (arith, le, ge)) (cases_lt w.name v.name))
      (cases_lt v.name w.name)

  same_value : v.value ≡ w.value
  same_value = let both : Some v.value ≡ Some w.value = sym (here v vs v.name refl) ∙ same v.name ∙ here w ws v.name same_name in cc

  same_rest : (y : ℕ) → value_shown vs y ≡ value_shown ws y
  same_rest y = decide (y == v.name) refl
    where
      decide : (b : Bool) → b ≡ (y == v.name) → value_shown vs y ≡ value_shown ws y
      decide true is =
          let at : y ≡ v.name = eqb-true y v.name (sym is) in
          unshown_below (v.name + 1) vs y rising (omega (arith, at))
          ∙ sym (unshown_below (w.name + 1) ws y other (omega (arith, at, same_name)))
      decide false is =
          let apart : y ≢ v.name = eqb-false y v.name (sym is) in
          sym (elsewhere v vs y apart) ∙ same y ∙ elsewhere w ws y (λ at. apart (at ∙ sym same_name))

same_vertices : (n : ℕ) (vs ws : List ShownVertex) → RiseFrom n vs → RiseFrom n ws → ((y : ℕ) → value_shown vs y ≡ value_shown ws y) → vs ≡ ws
same_vertices n [] [] rising other same = refl
same_vertices n [] (w ∷ ws) rising other same = absurd (none-some w.value (same w.name ∙ here w ws w.name refl))
same_vertices n (v ∷ vs) [] rising other same = absurd (none-some v.value (sym (same v.name) ∙ here v vs v.name refl))
same_vertices n (v ∷ vs) (w ∷ ws) rising other same =
    let name = same_name v w vs ws rising.1 other.1 same in
    let value = same_value v w vs ws rising.1 other.1 same in
    let first : v ≡ w = λ i. record { name = name i; value = value i } in
    let rest : vs ≡ ws = same_vertices (v.name + 1) vs ws rising.1 (subst (λ (k : ℕ). RiseFrom (k + 1) ws) (sym name) other.1) (same_rest v w vs ws rising.1 other.1 same) in
    λ i. first i ∷ rest i

-- ---- edges

-- the ends x and y come before a and b
abbrev Before : ℕ → ℕ → ℕ → ℕ → Type 0
Before x y a b = (x < a) ⊎ ((x ≡ a) × (y < b))

abbrev UpTo : ℕ → ℕ → ℕ → ℕ → Type 0
UpTo x y a b = (x < a) ⊎ ((x ≡ a) × (y ≤ b))

abbrev at_ends : ℕ → ℕ → ℕ → ℕ → Bool
at_ends x y a b = (x == a) && (y == b)

module _ (x y a b : ℕ) where
  up_to : Before x y a b → UpTo x y a b
  up_to (inl less) = inl less
  up_to (inr (same, less)) = inr (same, omega (arith, less))

  goes_before : (c d : ℕ) → UpTo x y a b → Before a b c d → Before x y c d
  goes_before c d (inl less) (inl more) = inl (omega (arith, less, more))
  goes_before c d (inl less) (inr (same, more)) = inl (omega (arith, less, same))
  goes_before c d (inr (same, le)) (inl more) = inl (omega (arith, same, more))
  goes_before c d (inr (same, le)) (inr (other, more)) = inr (same ∙ other, omega (arith, le, more))

  not_at : Before x y a b → (x ≡ a) × (y ≡ b) → ⊥
  not_at (inl less) (first, second) = omega (arith, less, first)
  not_at (inr (same, less)) (first, second) = omega (arith, less, second)

  at_both : x ≡ a → y ≡ b → at_ends x y a b ≡ true
  at_both first second = ap (λ (t : Bool). t && (y == b)) (eq-eqb x a first) ∙ eq-eqb y b second

  ends_of : at_ends x y a b ≡ true → (x ≡ a) × (y ≡ b)
  ends_of is = let parts = and_parts (x == a) (y == b) is in (eqb-true x a parts.0, eqb-true y b parts.1)

  apart : Before x y a b → at_ends x y a b ≡ false
  apart before = decide (at_ends x y a b) refl
    where
      decide : (t : Bool) → t ≡ at_ends x y a b → at_ends x y a b ≡ false
      decide true is = absurd (not_at before (ends_of (sym is)))
      decide false is = sym is

  same_ends : (Before x y a b → ⊥) → (Before a b x y → ⊥) → (x ≡ a) × (y ≡ b)
  same_ends sooner later = (first, second)
    where
      first : x ≡ a
      first =
          ⊎_elim (λ less. absurd (sooner (inl less)))
          (λ le. ⊎_elim (λ less. absurd (later (inl less))) (λ ge. omega (arith, le, ge)) (cases_lt a x)) (cases_lt x a)

      second : y ≡ b
      second =
          ⊎_elim (λ less. absurd (sooner (inr (first, less))))
          (λ le. ⊎_elim (λ less. absurd (later (inr (sym first, less)))) (λ ge. omega (arith, le, ge)) (cases_lt b y)) (cases_lt y b)

none_up_to : (e : Edge) (fs : List Edge) (x y : ℕ) → RiseAfter e fs → UpTo x y e.from e.to → label_in fs x y ≡ no_rights
none_up_to e [] x y after upto = refl
none_up_to e (f ∷ fs) x y after upto =
    let before = goes_before x y e.from e.to f.from f.to upto after.0 in
    cond-false (at_ends x y f.from f.to) (union f.label (label_in fs x y)) (label_in fs x y) (apart x y f.from f.to before)
    ∙ none_up_to f fs x y after.1 (up_to x y f.from f.to before)

label_here : (f : Edge) (fs : List Edge) (x y : ℕ) → RiseAfter f fs → x ≡ f.from → y ≡ f.to → label_in (f ∷ fs) x y ≡ f.label
label_here f fs x y after first second =
    cond-true (at_ends x y f.from f.to) (union f.label (label_in fs x y)) (label_in fs x y) (at_both x y f.from f.to first second)
    ∙ ap (union f.label) (none_up_to f fs x y after (inr (first, omega (arith, second))))
    ∙ union_none f.label

label_before : (f : Edge) (fs : List Edge) (x y : ℕ) → RiseAfter f fs → Before x y f.from f.to → label_in (f ∷ fs) x y ≡ no_rights
label_before f fs x y after before =
    cond-false (at_ends x y f.from f.to) (union f.label (label_in fs x y)) (label_in fs x y) (apart x y f.from f.to before)
    ∙ none_up_to f fs x y after (up_to x y f.from f.to before)

abbrev Held : List Edge → Type 0
Held es = All (λ e. is_none_held e.label ≡ false) es

-- an edge that one list begins with has a label, and none in a list that begins later
no_first : (e : Edge) (es fs : List Edge) → RiseAfter e es → is_none_held e.label ≡ false → label_in (e ∷ es) e.from e.to ≡ label_in fs e.from e.to → label_in fs e.from e.to ≡ no_rights → ⊥
no_first e es fs after held same none =
    false≢true (sym held ∙ same-none_held e.label (sym (label_here e es e.from e.to after refl refl) ∙ same ∙ none))

module _ (e f : Edge) (es fs : List Edge) (after : RiseAfter e es) (other : RiseAfter f fs) (held : is_none_held e.label ≡ false) (too : is_none_held f.label ≡ false) (same : (x y : ℕ) → label_in (e ∷ es) x y ≡ label_in (f ∷ fs) x y) where
  ends : (e.from ≡ f.from) × (e.to ≡ f.to)
  ends =
      same_ends e.from e.to f.from f.to
      (λ before. no_first e es (f ∷ fs) after held (same e.from e.to) (label_before f fs e.from e.to other before))
      (λ before. no_first f fs (e ∷ es) other too (sym (same f.from f.to)) (label_before e es f.from f.to after before))

  same_label : e.label ≡ f.label
  same_label = sym (label_here e es e.from e.to after refl refl) ∙ same e.from e.to ∙ label_here f fs e.from e.to other ends.0 ends.1

  rest_labels : (x y : ℕ) → label_in es x y ≡ label_in fs x y
  rest_labels x y = decide (at_ends x y e.from e.to) refl
    where
      decide : (t : Bool) → t ≡ at_ends x y e.from e.to → label_in es x y ≡ label_in fs x y
      decide true is =
          let at = ends_of x y e.from e.to (sym is) in
          none_up_to e es x y after (inr (at.0, omega (arith, at.1)))
          ∙ sym (none_up_to f fs x y other (inr (at.0 ∙ ends.0, omega (arith, at.1, ends.1))))
      decide false is =
          sym (cond-false (at_ends x y e.from e.to) (union e.label (label_in es x y)) (label_in es x y) (sym is))
          ∙ same x y
          ∙ cond-false (at_ends x y f.from f.to) (union f.label (label_in fs x y)) (label_in fs x y) (sym (λ i. at_ends x y (ends.0 i) (ends.1 i)) ∙ sym is)

same_edges : (es fs : List Edge) → Rises es → Rises fs → Held es → Held fs → ((x y : ℕ) → label_in es x y ≡ label_in fs x y) → es ≡ fs
same_edges [] [] rise other held too same = refl
same_edges [] (f ∷ fs) rise other held too same =
    absurd (no_first f fs [] other (All-head (λ (e : Edge). is_none_held e.label ≡ false) f fs too) (sym (same f.from f.to)) refl)
same_edges (e ∷ es) [] rise other held too same =
    absurd (no_first e es [] rise (All-head (λ (e : Edge). is_none_held e.label ≡ false) e es held) (same e.from e.to) refl)
same_edges (e ∷ es) (f ∷ fs) rise other held too same =
    let P : Edge → Type 0 = λ e. is_none_held e.label ≡ false in
    let head = All-head P e es held in
    let head_too = All-head P f fs too in
    let ends = ends e f es fs rise other head head_too same in
    let label = same_label e f es fs rise other head head_too same in
    let first : e ≡ f = λ i. record { from = ends.0 i; to = ends.1 i; label = label i } in
    let rest : es ≡ fs = same_edges es fs (rest_rises e es rise) (rest_rises f fs other) (All-tail P e es held) (All-tail P f fs too) (rest_labels e f es fs rise other head head_too same) in
    λ i. first i ∷ rest i

-- ---- snapshots

module _ (p q : Saved) (g : ProtectionGraph) (of : IsSnapshotOf p g) (too : IsSnapshotOf q g) where
  both_values : (y : ℕ) → value_shown p.vertices y ≡ value_shown q.vertices y
  both_values y = decide (is_some (value_shown p.vertices y)) (is_some (value_shown q.vertices y)) refl refl
    where
      reached : IsReachable g y → value_shown p.vertices y ≡ value_shown q.vertices y
      reached reachable = of.value y reachable ∙ sym (too.value y reachable)

      none : (o : Option Value) → false ≡ is_some o → o ≡ None
      none None is = refl
      none (Some value) is = absurd (false≢true is)

      decide : (b c : Bool) → b ≡ is_some (value_shown p.vertices y) → c ≡ is_some (value_shown q.vertices y) → value_shown p.vertices y ≡ value_shown q.vertices y
      decide true c first second = reached (of.no_vertex_else y (sym first))
      decide false true first second = reached (too.no_vertex_else y (sym second))
      decide false false first second = none (value_shown p.vertices y) first ∙ sym (none (value_shown q.vertices y) second)

  both_labels : (x y : ℕ) → label_in p.picture.edges x y ≡ label_in q.picture.edges x y
  both_labels x y = decide (is_none_held (label_in p.picture.edges x y)) (is_none_held (label_in q.picture.edges x y)) refl refl
    where
      reached : IsReachable g x → label_in p.picture.edges x y ≡ label_in q.picture.edges x y
      reached reachable = of.label x y reachable ∙ sym (too.label x y reachable)

      decide : (b c : Bool) → b ≡ is_none_held (label_in p.picture.edges x y) → c ≡ is_none_held (label_in q.picture.edges x y) → label_in p.picture.edges x y ≡ label_in q.picture.edges x y
      decide false c first second = reached (of.no_edge_else x y (sym first))
      decide true false first second = reached (too.no_edge_else x y (sym second))
      decide true true first second =
          none_held-same (label_in p.picture.edges x y) (sym first) ∙ sym (none_held-same (label_in q.picture.edges x y) (sym second))

each_rises : (vs : List ShownVertex) (es : List Edge) → EachIndex es (IsEdgeLine vs es) → Rises es
each_rises vs es each = rises es (λ k inside. (each k inside).rises)

each_held : (vs : List ShownVertex) (es : List Edge) → EachIndex es (IsEdgeLine vs es) → Held es
each_held vs es each k d inside = ((each k inside).joins d).held

pub one_form : (p q : Saved) (g : ProtectionGraph) → IsSnapshot p → IsSnapshot q → IsSnapshotOf p g → IsSnapshotOf q g → p.entries ≡ q.entries → p ≡ q
one_form p q g is other of too entries =
    let subjects = of.subjects ∙ sym too.subjects in
    let made = of.made ∙ sym too.made in
    let limit = of.limit ∙ sym too.limit in
    let vertices = same_vertices 0 p.vertices q.vertices (rise p.vertices (λ k inside. (is.vertices k inside).rises)) (rise q.vertices (λ k inside. (other.vertices k inside).rises)) (both_values p q g of too) in
    let edges = same_edges p.picture.edges q.picture.edges (each_rises p.vertices p.picture.edges is.edges) (each_rises q.vertices q.picture.edges other.edges) (each_held p.vertices p.picture.edges is.edges) (each_held q.vertices q.picture.edges other.edges) (both_labels p q g of too) in
    λ i. record { picture = record { subjects = subjects i; edges = edges i; made = made i; limit = limit i }; vertices = vertices i; entries = entries i }
