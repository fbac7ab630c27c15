-- What a snapshot of a store shows: the vertices that its subjects reach, by rising name, and their edges. The lists are those of
-- vertices as an audit keeps them.
use mathlib.Core.Bool.{true≢false}
use Rattle.std.proofs.Common.{◌≡◌, ◌≢◌, ◌↔◌, ◌⊎◌, inl, inr, ◌+◌, ◌<◌, ◌≤◌, ◌==◌, ◌∷◌, [], ℕ, zero, suc, Bool, true, false, not, cond, List, length, get_or, map, take, ◌++◌, Option, Some, None, refl, sym, ap, subst, ◌∙◌, arith}
use Rattle.std.specs.Prelude.{IfSome, is_some}
use Rattle.std.specs.List.{All, AllPairs, Contains, IsDistinct, filter, range_with_len}
use Rattle.std.specs.List.Sorted.{IsNonDecreasingBy, IsPermutation}
use Rattle.std.proofs.lemmas.Bool.{cases_lt, eq-eqb, eqb-false, eqb-true, false≢true}
use Rattle.std.proofs.lemmas.Bool.Decides.{Decides-eqb, Decides-like, same_from_decides}
use Rattle.std.proofs.lemmas.List.{get_or-map, length-map, map-append, map_more}
use Rattle.std.proofs.lemmas.List.Elements.{All-cons, All-contains, All-head, All-nil, Contains-get_or}
use Rattle.std.proofs.lemmas.List.Sorted.{Contains-permutation, IsPermutation-map, IsPermutation-sym}
use Rattle.std.proofs.lemmas.Map.Keys.{IsDistinct-IsPermutation}
use Rattle.std.proofs.lemmas.Map.Made.{AllPairs-from_IsDistinct}
use Rattle.tg_rights.specs.RightSet.{RightSet, no_rights, is_none_held}
use Rattle.tg_rights.proofs.RightLaws.{none_held-same}
use Rattle.tg_model.specs.declared.edge.Edge.{Edge}
use Rattle.tg_model.specs.declared.value.Value.{Value}
use Rattle.tg_model.specs.Graph.{HasEdge, IsReachable, listing_of}
use Rattle.tg_model.specs.Opened.{Plan, IsPlan, label_in}
use Rattle.tg_model.specs.Picture.{Shown}
use Rattle.tg_model.specs.Plain.{Edges, IsRisingRow, RisesFrom, rights_in_row}
use Rattle.tg_model.proofs.RowLaws.{none_before}
use Rattle.tg_snapshot.specs.declared.vertex.ShownVertex.{ShownVertex}
use Rattle.tg_snapshot.specs.Snapshot.{Saved, IsSnapshot, ShowsName, value_shown}
use Rattle.tg_journal.specs.declared.vertices.Vertex.{Vertex}
use Rattle.tg_journal.specs.Inner.Showing.{AreListsOf, edges_from, shown_if_stored}
use Rattle.tg_journal.specs.Live.{NamesFrom, at_name, label_between, value_of}
use Rattle.tg_journal.specs.Saving.{CanBeSaved}
use Rattle.tg_journal.proofs.SavingLaws.{CanBeSaved-after, CanBeSaved-opened, CanBeSaved-shown}
use Rattle.tg_journal.proofs.ShowingLaws.{RowsRise, among-push, edges_among, ends_follow, ends_held, labels_among, names_rise, shown_among, values_among}
use Rattle.tg_word.specs.declared.Place.{Place}
use Rattle.tg_rows.specs.Content.{Content}
use Rattle.tg_rows.specs.Rows.{IsVertexAt}
use Rattle.tg_rows.proofs.Members.{Contains-cases, Contains-here, Contains-more, Contains-none}
use Rattle.tg_graph.specs.Heap.{HeapState, content_of, subject_names}
use Rattle.tg_graph.specs.Standing.{IsReached}
use Rattle.tg_graph.proofs.StandingLaws.{IsReachable-IsReached, IsReached-IsReachable}
use Rattle.tg_store.specs.Inner.Reaching.{AreBelow, AreReachedAlong, AreReachedIn, IsFoundIn, names_found}
use Rattle.tg_store.specs.Inner.Saving.{ShowsEdges, ShowsValues}
use Rattle.tg_store.specs.Origin.{start_at, start_shown}
use Rattle.tg_store.specs.Store.{StoreState, IsFaithful, graph_of_store}
use Rattle.tg_store.specs.declared.store.picture.FoundVertices.{FoundVertices}
use Rattle.tg_store.proofs.StandLaws.{limit_of}

-- ---- the listing of a vertex is a row that rises, with its labels

after : (y a : ℕ) → (y == a) ≡ false → a ≤ y → a + 1 ≤ y
after y a other from = let apart : y ≢ a = eqb-false y a other in omega (arith, from, apart)

module _ (label : ℕ → RightSet) where
  abbrev listing : ℕ → ℕ → Edges
  listing a n = filter (λ e. not (is_none_held e.1)) (map (λ y. (y, label y)) (range_with_len a n))

  lower : (a : ℕ) (row : Edges) → RisesFrom (a + 1) row → RisesFrom a row
  lower a [] rises = tt
  lower a (e ∷ row) rises = (omega (arith, rises.0), rises.1, rises.2)

  listing_rises : (a n : ℕ) → RisesFrom a (listing a n)
  listing_rises a zero = tt
  listing_rises a (suc n) = by_label (is_none_held (label a)) refl (listing_rises (a + 1) n)
    where
      by_label : (none : Bool) → is_none_held (label a) ≡ none → RisesFrom (a + 1) (listing (a + 1) n) → RisesFrom a (cond (not none) ((a, label a) ∷ listing (a + 1) n) (listing (a + 1) n))
      by_label true none rest = lower a (listing (a + 1) n) rest
      by_label false some rest = (omega arith, some, rest)

  -- what comes after its names has no rights
  none_beyond : (a n y : ℕ) → a + n ≤ y → rights_in_row (listing a n) y ≡ no_rights
  none_beyond a zero y beyond = refl
  none_beyond a (suc n) y beyond = by_label (is_none_held (label a)) (y == a) refl (none_beyond (a + 1) n y (omega (arith, beyond)))
    where
      by_label : (none at : Bool) → (y == a) ≡ at → rights_in_row (listing (a + 1) n) y ≡ no_rights → rights_in_row (cond (not none) ((a, label a) ∷ listing (a + 1) n) (listing (a + 1) n)) y ≡ no_rights
      by_label true at is rest = rest
      by_label false true is rest = let same = eqb-true y a is in absurd (omega (arith, same, beyond))
      by_label false false is rest = ap (λ (b : Bool). cond b (label a) (rights_in_row (listing (a + 1) n) y)) is ∙ rest

  listed_rights : (a n y : ℕ) → a ≤ y → y < a + n → rights_in_row (listing a n) y ≡ label y
  listed_rights a zero y from below = absurd (omega (arith, from, below))
  listed_rights a (suc n) y from below =
      by_label (is_none_held (label a)) refl (y == a) refl (λ other. listed_rights (a + 1) n y (after y a other from) (omega (arith, below)))
    where
      by_label : (none : Bool) → is_none_held (label a) ≡ none → (at : Bool) → (y == a) ≡ at → ((y == a) ≡ false → rights_in_row (listing (a + 1) n) y ≡ label y)
          → rights_in_row (cond (not none) ((a, label a) ∷ listing (a + 1) n) (listing (a + 1) n)) y ≡ label y
      by_label true none true at later =
          let same = eqb-true y a at in
          none_before (a + 1) (listing (a + 1) n) y (listing_rises (a + 1) n) (omega (arith, same))
          ∙ sym (ap label same ∙ none_held-same (label a) none)
      by_label true none false at later = later at
      by_label false some true at later = ap (λ (b : Bool). cond b (label a) (rights_in_row (listing (a + 1) n) y)) at ∙ ap label (sym (eqb-true y a at))
      by_label false some false at later = ap (λ (b : Bool). cond b (label a) (rights_in_row (listing (a + 1) n) y)) at ∙ later at

-- ---- vertices of names

-- the vertices of these names, as an audit keeps them
module _ (row : ℕ → Edges) (value : ℕ → Option Value) where
  abbrev pub vertex_of : ℕ → Vertex
  vertex_of x = record { name = x; row = row x; value = value x }

  abbrev pub vertices_of : List ℕ → List Vertex
  vertices_of names = map vertex_of names

  names_from : (n : ℕ) (vs : List (ℕ × Place)) → AllPairs (λ v w. v.0 < w.0) vs → All (λ v. n ≤ v.0) vs → NamesFrom n (vertices_of (names_found vs))
  names_from n [] rise low = tt
  names_from n (v ∷ vs) rise low = (
    All-head (λ (w : ℕ × Place). n ≤ w.0) v vs low,
    names_from (v.0 + 1) vs (λ i j d lt inside. rise (suc i) (suc j) d (omega (arith, lt)) (omega (arith, inside))) (λ k d inside. let less = rise 0 (suc k) d (omega arith) (omega (arith, inside)) in omega (arith, less)),
  )

  rows_rise : ((x : ℕ) → IsRisingRow (row x)) → (names : List ℕ) → RowsRise (λ _. true) (vertices_of names)
  rows_rise rises [] = All-nil (λ (v : Vertex). true ≡ true → IsRisingRow v.row)
  rows_rise rises (x ∷ names) = All-cons (λ (v : Vertex). true ≡ true → IsRisingRow v.row) (vertex_of x) (vertices_of names) (λ _. rises x) (rows_rise rises names)

  module _ {X : Type 0} (of : Vertex → X) (none : X) where
    abbrev found : List ℕ → ℕ → X
    found names = at_name of none (vertices_of names)

    abbrev own : ℕ → X
    own y = of (vertex_of y)

    at_named : (names : List ℕ) (y : ℕ) → Contains names y → found names y ≡ own y
    at_named [] y has = absurd (Contains-none y has)
    at_named (x ∷ names) y has = by_name (y == x) refl (Contains-cases x names y has) (at_named names y)
      where
        by_name : (b : Bool) → (y == x) ≡ b → (x ≡ y) ⊎ Contains names y → (Contains names y → found names y ≡ own y) → cond b (own x) (found names y) ≡ own y
        by_name true same has rest = ap own (sym (eqb-true y x same))
        by_name false other (inl here) rest = absurd (false≢true (sym other ∙ eq-eqb y x (sym here)))
        by_name false other (inr later) rest = rest later

    at_other : (names : List ℕ) (y : ℕ) → (found names y ≡ none) ⊎ Contains names y
    at_other [] y = inl refl
    at_other (x ∷ names) y = by_name (y == x) refl (at_other names y)
      where
        by_name : (b : Bool) → (y == x) ≡ b → (found names y ≡ none) ⊎ Contains names y → (cond b (own x) (found names y) ≡ none) ⊎ Contains (x ∷ names) y
        by_name true same rest = inr (subst (Contains (x ∷ names)) (sym (eqb-true y x same)) (Contains-here x names))
        by_name false other (inl is) = inl is
        by_name false other (inr later) = inr (Contains-more x names y later)

-- ---- the two lists

abbrev pub values_shown : Content → List ℕ → List ShownVertex
values_shown c names = shown_among (λ _. true) (vertices_of (λ _. []) c.value names)

abbrev pub edges_shown : Content → ℕ → List ℕ → List Edge
edges_shown c made names = edges_among (λ _. true) (vertices_of (listing_of c.label made) (λ _. None) names)

-- what is at a place past the end of a list
abbrev pub nobody : ℕ × Place
nobody = (0, record { space = 0; block = 0; cell = 0 })

-- one vertex more
module _ (c : Content) (vs : List (ℕ × Place)) (i : ℕ) (v : ℕ × Place) (low : i < length vs) (here : v ≡ get_or vs i v) where
  names_more : names_found (take (i + 1) vs) ≡ names_found (take i vs) ++ v.0 ∷ []
  names_more = map_more (λ (w : ℕ × Place). w.0) vs i v low ∙ ap (λ (w : ℕ × Place). names_found (take i vs) ++ w.0 ∷ []) (sym here)

  vertices_more : (row : ℕ → Edges) (value : ℕ → Option Value) → vertices_of row value (names_found (take (i + 1) vs)) ≡ vertices_of row value (names_found (take i vs)) ++ vertex_of row value v.0 ∷ []
  vertices_more row value =
      ap (vertices_of row value) names_more
      ∙ map-append (vertex_of row value) (names_found (take i vs)) (v.0 ∷ [])

  pub values_shown-more : (s : ShownVertex) (old new : List ShownVertex) → s.name ≡ v.0 → c.value v.0 ≡ Some s.value → old ≡ values_shown c (names_found (take i vs)) → new ≡ old ++ s ∷ [] → new ≡ values_shown c (names_found (take (i + 1) vs))
  values_shown-more s old new named stored was pushed =
      pushed
      ∙ ap (λ (shown : List ShownVertex). shown ++ s ∷ []) was
      ∙ ap (λ (more : List ShownVertex). values_shown c (names_found (take i vs)) ++ more) (sym one)
      ∙ sym (among-push (λ (u : Vertex). shown_if_stored u.name u.value) (λ _. true) (vertices_of (λ _. []) c.value (names_found (take i vs))) (vertex_of (λ _. []) c.value v.0))
      ∙ ap (shown_among (λ _. true)) (sym (vertices_more (λ _. []) c.value))
    where
      one : shown_if_stored v.0 (c.value v.0) ≡ s ∷ []
      one = ap (shown_if_stored v.0) stored ∙ ap (λ (name : ℕ). record { name = name; value = s.value } ∷ []) (sym named)

  pub edges_shown-more : (made : ℕ) (old new : List Edge) → old ≡ edges_shown c made (names_found (take i vs)) → new ≡ old ++ edges_from v.0 (listing_of c.label made v.0) → new ≡ edges_shown c made (names_found (take (i + 1) vs))
  edges_shown-more made old new was added =
      added
      ∙ ap (λ (edges : List Edge). edges ++ edges_from v.0 (listing_of c.label made v.0)) was
      ∙ sym (among-push (λ (u : Vertex). edges_from u.name u.row) (λ _. true) (vertices_of (listing_of c.label made) (λ _. None) (names_found (take i vs))) (vertex_of (listing_of c.label made) (λ _. None) v.0))
      ∙ ap (edges_among (λ _. true)) (sym (vertices_more (listing_of c.label made) (λ _. None)))

module _ (c : Content) (vs : List (ℕ × Place)) (rise : AllPairs (λ v w. v.0 < w.0) vs) where
  abbrev names : List ℕ
  names = names_found vs

  pub shows_values : ShowsValues c names (values_shown c names)
  shows_values = record { values = λ y has. value_is y ∙ at_named (λ _. []) c.value (λ v. v.value) None names y has; only = only; rise = names_rise (λ _. true) kept from }
    where
      kept : List Vertex
      kept = vertices_of (λ _. []) c.value names

      from : NamesFrom 0 kept
      from = names_from (λ _. []) c.value 0 vs rise (λ k d inside. omega arith)

      value_is : (y : ℕ) → value_shown (values_shown c names) y ≡ value_of kept y
      value_is y = values_among (λ _. true) 0 kept y from

      only : (y : ℕ) → ShowsName (values_shown c names) y → Contains names y
      only y shown = elim (at_other (λ _. []) c.value (λ v. v.value) None names y) [
        | inl none ↦ absurd (false≢true (sym (ap is_some (value_is y ∙ none)) ∙ shown))
        | inr has ↦ has
      ]

  pub shows_edges : (made : ℕ) → AreBelow c made → ShowsEdges c names (edges_shown c made names)
  shows_edges made below = record {
    labels = λ x y has. label_is x y ∙ at_named (listing_of c.label made) (λ _. None) (λ v. rights_in_row v.row y) no_rights names x has ∙ listed x y;
    only = only;
    rise = ends_follow (λ _. true) kept from rows;
    held = ends_held (λ _. true) kept from rows;
  }
    where
      kept : List Vertex
      kept = vertices_of (listing_of c.label made) (λ _. None) names

      from : NamesFrom 0 kept
      from = names_from (listing_of c.label made) (λ _. None) 0 vs rise (λ k d inside. omega arith)

      rows : RowsRise (λ _. true) kept
      rows = rows_rise (listing_of c.label made) (λ _. None) (λ x. listing_rises (c.label x) 0 made) names

      label_is : (x y : ℕ) → label_in (edges_shown c made names) x y ≡ label_between kept x y
      label_is x y = labels_among (λ _. true) 0 kept x y from rows

      listed : (x y : ℕ) → rights_in_row (listing_of c.label made x) y ≡ c.label x y
      listed x y = by_rights (is_none_held (c.label x y)) refl (cases_lt y made)
        where
          by_rights : (none : Bool) → is_none_held (c.label x y) ≡ none → (y < made) ⊎ (made ≤ y) → rights_in_row (listing_of c.label made x) y ≡ c.label x y
          by_rights none is (inl low) = listed_rights (c.label x) 0 made y (omega arith) (omega (arith, low))
          by_rights true is (inr beyond) = none_beyond (c.label x) 0 made y (omega (arith, beyond)) ∙ sym (none_held-same (c.label x y) is)
          by_rights false edge (inr beyond) = let low = below.targets x y edge in absurd (omega (arith, low, beyond))

      only : (x y : ℕ) → HasEdge (label_in (edges_shown c made names)) x y → Contains names x
      only x y edge = elim (at_other (listing_of c.label made) (λ _. None) (λ v. rights_in_row v.row y) no_rights names x) [
        | inl none ↦ absurd (true≢false (sym (ap is_none_held (label_is x y ∙ none)) ∙ edge))
        | inr has ↦ has
      ]

-- ---- vertices that a walk found, by rising name

module _ (heap : HeapState) (found : FoundVertices) (vs : List (ℕ × Place)) (is : IsFoundIn heap.table.spaces found) (permuted : IsPermutation found.vertices.items vs) where
  same_names : IsPermutation (names_found found.vertices.items) (names_found vs)
  same_names = IsPermutation-map (λ (v : ℕ × Place). v.0) found.vertices.items vs permuted

  once : IsDistinct (λ a b. a == b) (names_found vs)
  once = IsDistinct-IsPermutation (λ a b. a == b) (λ a b. same_from_decides (a == b) (b == a) (Decides-eqb a b) (Decides-like (b == a) sym sym (Decides-eqb b a))) (names_found found.vertices.items) (names_found vs) same_names is.once

  rise_when_sorted : IsNonDecreasingBy (λ v. v.0) vs → AllPairs (λ v w. v.0 < w.0) vs
  rise_when_sorted sorted i j d lt low =
      let le : (get_or vs i d).0 ≤ (get_or vs j d).0 = sorted i j d (omega (arith, lt)) low in
      let long = length-map vs (λ (v : ℕ × Place). v.0) in
      let apart = AllPairs-from_IsDistinct (λ a b. Decides-eqb a b) (names_found vs) once i j 0 lt (omega (arith, low, long)) in
      let at_i : get_or (names_found vs) i 0 ≡ (get_or vs i d).0 = get_or-map (λ (v : ℕ × Place). v.0) vs i d 0 (omega (arith, lt, low)) in
      let at_j : get_or (names_found vs) j 0 ≡ (get_or vs j d).0 = get_or-map (λ (v : ℕ × Place). v.0) vs j d 0 low in
      strictly le (λ same. apart (at_i ∙ same ∙ sym at_j))
    where
      strictly : {a b : ℕ} → a ≤ b → (a ≡ b → ⊥) → a < b
      strictly le apart = omega (arith, le, apart)

  pub reached_sorted : (c : Content) → IsNonDecreasingBy (λ v. v.0) vs → ((x : ℕ) → Contains (names_found found.vertices.items) x ↔ IsReached c (subject_names heap) x) → AreReachedAlong heap c vs
  reached_sorted c sorted reached = record {
    placed = λ k d low.
        All-contains (λ (v : ℕ × Place). IsVertexAt heap.table.spaces v.0 v.1) found.vertices.items (get_or vs k d) is.placed
        (Contains-permutation vs found.vertices.items (get_or vs k d) (IsPermutation-sym found.vertices.items vs permuted) (Contains-get_or vs k d low));
    rise = rise_when_sorted sorted;
    names = λ x. (
      λ has. (reached x).0 (Contains-permutation (names_found vs) (names_found found.vertices.items) x (IsPermutation-sym (names_found found.vertices.items) (names_found vs) same_names) has),
      λ is. Contains-permutation (names_found found.vertices.items) (names_found vs) x same_names ((reached x).1 is),
    );
  }

-- ---- the snapshot

module _ (s : StoreState) (faithful : IsFaithful s) where
  can_begin : (plan : Plan) (shown : Option Saved) → IsPlan plan → IfSome shown IsSnapshot → CanBeSaved (start_shown plan shown)
  can_begin plan None is none = CanBeSaved-opened plan is
  can_begin plan (Some snapshot) is saved = CanBeSaved-shown snapshot saved

  -- each store has a snapshot
  pub store_can_be_saved : CanBeSaved (graph_of_store s)
  store_can_be_saved = CanBeSaved-after (start_at s.opening) s.entries (can_begin s.opening.plan s.opening.shown faithful.origin.plan faithful.origin.snapshot) faithful.legal

  pub lists_of_store : (vs : List (ℕ × Place)) (picture : Shown) (shown : List ShownVertex) → AreReachedIn s.heap vs → picture.subjects ≡ subject_names s.heap → picture.made ≡ (graph_of_store s).made → picture.limit ≡ s.opening.plan.limit
      → ShowsValues (content_of s.heap) (names_found vs) shown → ShowsEdges (content_of s.heap) (names_found vs) picture.edges → AreListsOf (graph_of_store s) picture shown
  lists_of_store vs picture shown are subjects made limit values edges n = record {
    subjects = subjects ∙ faithful.subjects;
    made = made;
    limit = limit ∙ sym (limit_of s faithful);
    value = λ y reachable. values.values y (named y reachable) ∙ faithful.stands.values y (faithful.stands.reachable y reachable);
    label = λ x y reachable. edges.labels x y (named x reachable) ∙ faithful.stands.labels x y (faithful.stands.reachable x reachable);
    no_vertex_else = λ y there. reached y (values.only y there);
    no_edge_else = λ x y edge. reached x (edges.only x y edge);
  }
    where
      named : (y : ℕ) → IsReachable (graph_of_store s) y → Contains (names_found vs) y
      named y reachable = (are.names y).1 (IsReached-IsReachable (content_of s.heap) (graph_of_store s) faithful.stands (subject_names s.heap) (sym faithful.subjects) y reachable)

      reached : (y : ℕ) → Contains (names_found vs) y → IsReachable (graph_of_store s) y
      reached y has = IsReachable-IsReached (content_of s.heap) (graph_of_store s) faithful.stands (subject_names s.heap) (sym faithful.subjects) y ((are.names y).0 has)
