-- The edges of a plain graph as a list, and one edge more.
use Rattle.std.proofs.Common.{◌≡◌, ◌⊎◌, inl, inr, ⊎_elim, ℕ, zero, suc, ◌+◌, ◌<◌, ◌≤◌, ◌==◌, ◌&&◌, ◌||◌, not, Bool, true, false, cond, List, [], ◌∷◌, ◌++◌, length, map, get_or, refl, sym, ap, ap₂, ◌∙◌, subst, arith, eq-eqb}
use Rattle.std.specs.List.{All, AllWithin, filter, range_with_len}
use Rattle.std.proofs.lemmas.Bool.{false≢true, true≢false, cases_Bool, cases_eq, eqb-true, and_parts}
use Rattle.std.proofs.lemmas.List.Elements.{All-head, All-tail, All-cons, All-filter, AllWithin-more, at_read}
use Rattle.tg_rights.specs.RightSet.{RightSet, has, union, is_none_held}
use Rattle.tg_rights.proofs.RightLaws.{has-union, has-none_held, same_rights}
use Rattle.tg_rights.specs.declared.Right.{Right}
use Rattle.tg_model.specs.declared.edge.Edge.{Edge}
use Rattle.tg_model.specs.Graph.{ProtectionGraph, HasEdge, listing_of, with_rights}
use Rattle.tg_model.specs.Opened.{label_in}
use Rattle.tg_model.specs.Plain.{PlainGraph, IsPlain, graph_of, label_in_rows}
use Rattle.tg_model.specs.Picture.{Holds, Shown, IsMade, IsPictureOf, with_edge, StandsIn, AreAmong}
use Rattle.tg_model.proofs.LabelLaws.{label_in-push, end_made}

-- who has a right has an edge
Holds-edge : (s : RightSet) (q : Right) → has s q ≡ true → is_none_held s ≡ false
Holds-edge s q h =
    ⊎_elim (λ none. absurd (false≢true (sym (has-none_held s none q) ∙ h))) (λ some. some) (cases_Bool (is_none_held s))

pub IsMade-plain : (p : PlainGraph) → IsPlain p → IsMade (graph_of p)
IsMade-plain p plain = record {
  subjects = plain.subjects;
  ends = λ a b q h.
      let edge : HasEdge (label_in_rows p.rows) a b = Holds-edge (label_in_rows p.rows a b) q h in
      (end_made p a plain (b, inl edge), end_made p b plain (a, inr edge));
}

-- ---- one edge more

pub or_true : (a b : Bool) → (a || b) ≡ true → (a ≡ true) ⊎ (b ≡ true)
or_true true b h = inl refl
or_true false b h = inr h

right_added : (t : Bool) (m rights : RightSet) (x : Right) → has (cond t (union m rights) m) x ≡ true → (has m x ≡ true) ⊎ ((t ≡ true) × (has rights x ≡ true))
right_added true m rights x h = ⊎_elim (λ k. inl k) (λ k. inr (refl, k)) (or_true (has m x) (has rights x) (sym (has-union m rights x) ∙ h))
right_added false m rights x h = inl h

-- a right stood there, or it was added there
pub Holds-with_rights : (label : ℕ → ℕ → RightSet) (p q : ℕ) (rights : RightSet) (a : ℕ) (right : Right) (b : ℕ) → Holds (with_rights label p q rights) a right b → Holds label a right b ⊎ ((a ≡ p) × (b ≡ q) × (has rights right ≡ true))
Holds-with_rights label p q rights a right b h =
    ⊎_elim (λ k. inl k)
    (λ (t, is). let e = and_parts (a == p) (b == q) t in inr (eqb-true a p e.0, eqb-true b q e.1, is))
    (right_added ((a == p) && (b == q)) (label a b) rights right h)

of_union : (m r : RightSet) (q : Right) → has m q ≡ true → has (union m r) q ≡ true
of_union m r q h = has-union m r q ∙ ap (λ b. b || has r q) h

of_added : (m r : RightSet) (q : Right) → has r q ≡ true → has (union m r) q ≡ true
of_added m r q h = has-union m r q ∙ either (has m q) (has r q) h
  where
    either : (a b : Bool) → b ≡ true → (a || b) ≡ true
    either true b h = refl
    either false b h = h

still : (t : Bool) (m r : RightSet) (q : Right) → has m q ≡ true → has (cond t (union m r) m) q ≡ true
still true m r q h = of_union m r q h
still false m r q h = h

-- what stood there is there with more rights too
pub Holds-still : (label : ℕ → ℕ → RightSet) (p q : ℕ) (rights : RightSet) (a : ℕ) (right : Right) (b : ℕ) → Holds label a right b → Holds (with_rights label p q rights) a right b
Holds-still label p q rights a right b h = still ((a == p) && (b == q)) (label a b) rights right h

itself : (n : ℕ) → (n == n) ≡ true
itself n = eq-eqb n n refl

pub Holds-added : (label : ℕ → ℕ → RightSet) (p q : ℕ) (rights : RightSet) (right : Right) → has rights right ≡ true → Holds (with_rights label p q rights) p right q
Holds-added label p q rights right h =
    ap (λ t. has (cond t (union (label p q) rights) (label p q)) right) (ap₂ (λ s t. s && t) (itself p) (itself q))
    ∙ of_added (label p q) rights right h

pub Holds-push : (es : List Edge) (e : Edge) (a : ℕ) (q : Right) (b : ℕ) → Holds (label_in es) a q b → Holds (label_in (es ++ e ∷ [])) a q b
Holds-push es e a q b h =
    ap (λ m. has m q) (label_in-push es e a b) ∙ Holds-still (label_in es) e.from e.to e.label a q b h

Holds-new : (es : List Edge) (e : Edge) (q : Right) → has e.label q ≡ true → Holds (label_in (es ++ e ∷ [])) e.from q e.to
Holds-new es e q h = ap (λ m. has m q) (label_in-push es e e.from e.to) ∙ Holds-added (label_in es) e.from e.to e.label q h

pub Holds-pushed : (es : List Edge) (e : Edge) (a : ℕ) (q : Right) (b : ℕ) → Holds (label_in (es ++ e ∷ [])) a q b → Holds (label_in es) a q b ⊎ ((a ≡ e.from) × (b ≡ e.to) × (has e.label q ≡ true))
Holds-pushed es e a q b h =
    Holds-with_rights (label_in es) e.from e.to e.label a q b (sym (ap (λ m. has m q) (label_in-push es e a b)) ∙ h)

-- ---- the listing of a vertex

module _ (f : ℕ → RightSet) (P : ℕ × RightSet → Type 0) where
  abbrev listed_from : ℕ → ℕ → List (ℕ × RightSet)
  listed_from m n = filter (λ e. not (is_none_held e.1)) (map (λ y. (y, f y)) (range_with_len m n))

  head_listed : (t : Bool) (m : ℕ) (rest : List (ℕ × RightSet)) → t ≡ false → All P (cond (not t) ((m, f m) ∷ rest) rest) → P (m, f m)
  head_listed true m rest some all = absurd (true≢false some)
  head_listed false m rest some all = All-head P (m, f m) rest all

  rest_listed : (t : Bool) (m : ℕ) (rest : List (ℕ × RightSet)) → All P (cond (not t) ((m, f m) ∷ rest) rest) → All P rest
  rest_listed true m rest all = all
  rest_listed false m rest all = All-tail P (m, f m) rest all

  all_listed : (n m b : ℕ) → All P (listed_from m n) → m ≤ b → b < m + n → is_none_held (f b) ≡ false → P (b, f b)
  all_listed zero m b all low high some = absurd (omega (arith, low, high))
  all_listed (suc n) m b all low high some =
      ⊎_elim
      (λ (here : m ≡ b).
      let Q : ℕ → Type 0 = λ k. P (k, f k) in
      subst Q here (head_listed (is_none_held (f m)) m (listed_from (m + 1) n) (subst (λ k. is_none_held (f k) ≡ false) (sym here) some) all))
      (λ other. all_listed n (m + 1) b (rest_listed (is_none_held (f m)) m (listed_from (m + 1) n) all) (omega (arith, low, other)) (omega (arith, high)) some)
      (cases_eq m b)

  -- what holds of each vertex with its label holds of all in a row
  all_mapped : ((y : ℕ) → P (y, f y)) → (ys : List ℕ) → All P (map (λ y. (y, f y)) ys)
  all_mapped each [] = λ k d inside. absurd (omega (arith, inside))
  all_mapped each (y ∷ ys) = All-cons P (y, f y) (map (λ y. (y, f y)) ys) (each y) (all_mapped each ys)

  each_listed : ((y : ℕ) → P (y, f y)) → (n : ℕ) → All P (listed_from 0 n)
  each_listed each n = All-filter (λ e. not (is_none_held e.1)) P (map (λ y. (y, f y)) (range_with_len 0 n)) (all_mapped each (range_with_len 0 n))

-- a listing has the labels
pub listed_labels : (label : ℕ → ℕ → RightSet) (n x : ℕ) → All (λ (edge : ℕ × RightSet). edge.1 ≡ label x edge.0) (listing_of label n x)
listed_labels label n x = each_listed (label x) (λ edge. edge.1 ≡ label x edge.0) (λ y. refl) n

pub row_stands : (p : PlainGraph) (es : List Edge) (from : ℕ) → IsPlain p → (row : List (ℕ × RightSet)) → row ≡ listing_of (graph_of p).label (graph_of p).made from → All (StandsIn es from) row → (b : ℕ) (q : Right) → Holds (graph_of p).label from q b → Holds (label_in es) from q b
row_stands p es from plain row is all b q h =
    let below = ((IsMade-plain p plain).ends from b q h).1 in
    all_listed ((graph_of p).label from) (StandsIn es from) (graph_of p).made 0 b (subst (All (StandsIn es from)) is all) (omega arith) (omega (arith, below))
    (Holds-edge ((graph_of p).label from b) q h) q h

-- one edge more of a row is in the list
pub row_more : (es new : List Edge) (from : ℕ) (shown : List (ℕ × RightSet)) (i : ℕ) (x : ℕ × RightSet) → new ≡ es ++ record { from = from; to = x.0; label = x.1 } ∷ [] → i < length shown → x ≡ get_or shown i x → AllWithin (StandsIn es from) shown 0 i → AllWithin (StandsIn new from) shown 0 (i + 1)
row_more es new from shown i x is inside here all =
    let e : Edge = record { from = from; to = x.0; label = x.1 } in
    AllWithin-more (StandsIn new from) shown 0 i
    (λ k d low below q h. let to = (get_or shown k d).0 in subst (λ (l : List Edge). Holds (label_in l) from q to) (sym is) (Holds-push es e from q to (all k d low below q h)))
    (at_read shown (StandsIn new from) i x inside here (λ q h. subst (λ (l : List Edge). Holds (label_in l) from q x.0) (sym is) (Holds-new es e q h)))

-- one edge more of a row is among the labels
pub among_more : (es new : List Edge) (label : ℕ → ℕ → RightSet) (e : Edge) → new ≡ es ++ e ∷ [] → e.label ≡ label e.from e.to → AreAmong es label → AreAmong new label
among_more es new label e is here among a b q h =
    ⊎_elim (λ old. among a b q old)
    (λ (at_a, at_b, has_it).
    let there : Holds label e.from q e.to = subst (λ (m : RightSet). has m q ≡ true) here has_it in
    subst (λ (k : ℕ). Holds label a q k) (sym at_b) (subst (λ (k : ℕ). Holds label k q e.to) (sym at_a) there))
    (Holds-pushed es e a q b (subst (λ (l : List Edge). Holds (label_in l) a q b) is h))

-- ---- pictures

-- two sets that hold the same rights are one
same_held : (a b : RightSet) → ((q : Right) → has a q ≡ true → has b q ≡ true) → ((q : Right) → has b q ≡ true → has a q ≡ true) → a ≡ b
same_held a b on back = same_rights a b (λ q. alike (has a q) (has b q) (on q) (back q))
  where
    alike : (s t : Bool) → (s ≡ true → t ≡ true) → (t ≡ true → s ≡ true) → s ≡ t
    alike true t on back = sym (on refl)
    alike false true on back = back refl
    alike false false on back = refl

pub pictured : (p : PlainGraph) (s : Shown) → IsPlain p → s.subjects ≡ p.subjects → s.made ≡ length p.values → s.limit ≡ p.limit → ((a b : ℕ) (q : Right) → a < (graph_of p).made → Holds (graph_of p).label a q b → Holds (label_in s.edges) a q b) → AreAmong s.edges (graph_of p).label → IsPictureOf s (graph_of p)
pictured p s plain subjects made limit all only =
    let is_made = IsMade-plain p plain in
    record {
      is_made = is_made;
      subjects = sym subjects;
      made = sym made;
      limit = sym limit;
      labels = λ a b. same_held ((graph_of p).label a b) (label_in s.edges a b) (λ q h. all a b q ((is_made.ends a b q h).0) h) (λ q h. only a b q h);
    }

pub with_edge-pictured : (s t : Shown) (g : ProtectionGraph) (e : Edge) → t.subjects ≡ s.subjects → t.made ≡ s.made → t.limit ≡ s.limit → t.edges ≡ s.edges ++ e ∷ [] → IsPictureOf s g → e.from < g.made → e.to < g.made → IsPictureOf t (with_edge g e.from e.to e.label)
with_edge-pictured s t g e subjects made limit edges picture from_made to_made = record {
  is_made = record {
    subjects = picture.is_made.subjects;
    ends = λ a b q h. ⊎_elim (λ old. picture.is_made.ends a b q old)
        (λ (at_a, at_b, is). (omega (arith, at_a, from_made), omega (arith, at_b, to_made)))
        (Holds-with_rights g.label e.from e.to e.label a q b h);
  };
  subjects = picture.subjects ∙ sym subjects;
  made = picture.made ∙ sym made;
  limit = picture.limit ∙ sym limit;
  labels = λ a b.
      ap (λ m. cond ((a == e.from) && (b == e.to)) (union m e.label) m) (picture.labels a b)
      ∙ (sym (label_in-push s.edges e a b) ∙ ap (λ l. label_in l a b) (sym edges));
}
