-- What a walk over a heap from its active subjects finds on its way, and that at its end this is all that they reach.
use Rattle.std.proofs.Common.{◌≡◌, ◌↔◌, ◌⊎◌, inl, inr, ⊎_elim, ℕ, ◌+◌, ◌<◌, ◌≤◌, ◌==◌, nat_eq, Bool, true, false, if◌then◌else◌, List, [], ◌∷◌, ◌++◌, length, get_or, map, take, refl, sym, ap, ◌∙◌, subst, arith}
use Rattle.std.specs.List.{All, Contains, IsDistinct, list_any}
use Rattle.std.proofs.lemmas.Cmp.{nat_eq_equiv}
use Rattle.std.proofs.lemmas.List.{append-nil, append_assoc, length-map, map-append, map_more, take-append-le, take_all, take_more}
use Rattle.std.proofs.lemmas.List.Elements.{All-contains, All-nil, All-push, Contains-append_cases, Contains-append_left, Contains-append_right, Contains-push, Contains-push_cases}
use Rattle.std.proofs.lemmas.Map.Keys.{IsDistinct-from_apart, IsDistinct-push}
use Rattle.std.proofs.lemmas.Map.Steps.{length-le_from_distinct_below}
use Rattle.std.proofs.lemmas.Map.Views.{Contains-from_any, exact_unsigned_eq}
use Rattle.indexmap.specs.IndexSet.{insert_key}
use Rattle.tg_rights.specs.RightSet.{RightSet, is_none_held}
use Rattle.tg_model.specs.declared.edge.Edge.{Edge}
use Rattle.tg_model.specs.Graph.{HasEdge, listing_of}
use Rattle.tg_model.specs.Walks.{begins, goes, Walk-within}
use Rattle.tg_word.specs.declared.Place.{Place}
use Rattle.tg_space.specs.SpaceList.{SpaceList}
use Rattle.tg_rows.specs.Content.{Content}
use Rattle.tg_rows.specs.Rows.{IsVertexAt}
use Rattle.tg_graph.specs.Standing.{IsReached}
use Rattle.tg_rows.proofs.Listing.{listed, listed_from}
use Rattle.tg_rows.proofs.Members.{Contains-cases, Contains-from_map, Contains-map, Contains-none}
use Rattle.tg_store.specs.Inner.Reaching.{FindsIn, FindsMore, IsEdgeOf, IsFoundIn, IsReachedEdgeOf, names_found}
use Rattle.tg_store.specs.declared.store.picture.FoundVertices.{FoundVertices}

-- ---- one vertex more

module _ (h : SpaceList) (old new : FoundVertices) (name : ℕ) (place : Place) (is : IsFoundIn h old) (vertices : new.vertices.items ≡ old.vertices.items ++ (name, place) ∷ []) where
  names_pushed : names_found new.vertices.items ≡ names_found old.vertices.items ++ name ∷ []
  names_pushed = ap names_found vertices ∙ map-append (λ (v : ℕ × Place). v.0) old.vertices.items ((name, place) ∷ [])

  now_found : Contains (names_found new.vertices.items) name
  now_found = subst (λ (xs : List ℕ). Contains xs name) (sym names_pushed) (Contains-push (names_found old.vertices.items) name)

  pub finds_added : name < old.made → list_any (nat_eq name) old.names.keys ≡ false → IsVertexAt h name place → new.names.keys ≡ insert_key nat_eq old.names.keys name → new.made ≡ old.made → FindsIn h old new (λ x. x ≡ name)
  finds_added low none vertex keys made =
      let names = names_found old.vertices.items in
      record {
        found = record {
          named =
              keys
              ∙ ap (λ (b : Bool). if b then old.names.keys else old.names.keys ++ name ∷ []) none
              ∙ ap (λ (xs : List ℕ). xs ++ name ∷ []) is.named
              ∙ sym names_pushed;
          below = subst (λ (n : ℕ). All (λ x. x < n) (names_found new.vertices.items)) (sym made)
              (subst (All (λ x. x < old.made)) (sym names_pushed) (All-push (λ x. x < old.made) names name is.below low));
          once = subst (IsDistinct (λ a b. a == b)) (sym names_pushed)
              (IsDistinct-push nat_eq_equiv names name is.once (subst (λ (xs : List ℕ). list_any (nat_eq name) xs ≡ false) is.named none));
          placed = subst (All (λ (v : ℕ × Place). IsVertexAt h v.0 v.1)) (sym vertices) (All-push (λ (v : ℕ × Place). IsVertexAt h v.0 v.1) old.vertices.items (name, place) is.placed vertex);
        };
        made = made;
        more = record {
          more = (name, place) ∷ [];
          behind = vertices;
          only = λ x has. ⊎_elim (λ (at : name ≡ x). sym at) (λ none. absurd (Contains-none x none)) (Contains-cases name [] x has);
          all = λ x at. subst (Contains (names_found new.vertices.items)) (sym at) now_found;
        };
      }

-- where it was found before
pub finds_none : (h : SpaceList) (found : FoundVertices) (name : ℕ) → IsFoundIn h found → list_any (nat_eq name) found.names.keys ≡ true → FindsIn h found found (λ x. x ≡ name)
finds_none h found name is any = record {
  found = is;
  made = refl;
  more = record {
    more = [];
    behind = sym (append-nil found.vertices.items);
    only = λ x none. absurd (Contains-none x none);
    all = λ x at. subst (Contains (names_found found.vertices.items)) (sym at)
        (Contains-from_any exact_unsigned_eq name (names_found found.vertices.items) (subst (λ (xs : List ℕ). list_any (nat_eq name) xs ≡ true) is.named any));
  };
}

-- nothing is found yet
pub finds_nothing : (h : SpaceList) (found : FoundVertices) → found.vertices.items ≡ [] → found.names.keys ≡ [] → IsFoundIn h found
finds_nothing h found vertices names = record {
  named = names ∙ sym (ap names_found vertices);
  below = subst (λ (vs : List (ℕ × Place)). All (λ x. x < found.made) (names_found vs)) (sym vertices) (All-nil (λ x. x < found.made));
  once = subst (λ (vs : List (ℕ × Place)). IsDistinct (λ a b. a == b) (names_found vs)) (sym vertices) (IsDistinct-from_apart (λ a b. a == b) [] (λ i j d lt low. absurd (omega (arith, low))));
  placed = subst (All (λ (v : ℕ × Place). IsVertexAt h v.0 v.1)) (sym vertices) (All-nil (λ (v : ℕ × Place). IsVertexAt h v.0 v.1));
}

-- there are no more than names
pub few_found : (h : SpaceList) (found : FoundVertices) → IsFoundIn h found → length found.vertices.items ≤ found.made
few_found h found is =
    let names = names_found found.vertices.items in
    let few = length-le_from_distinct_below names found.made is.once
    (λ q any. All-contains (λ x. x < found.made) names q is.below (Contains-from_any exact_unsigned_eq q names any)) in
    let long = length-map found.vertices.items (λ (v : ℕ × Place). v.0) in
    omega (arith, few, long)

-- ---- one row more

-- names that were found stay so where vertices come after
pub found_behind : (old new : FoundVertices) (more : List (ℕ × Place)) → new.vertices.items ≡ old.vertices.items ++ more → names_found new.vertices.items ≡ names_found old.vertices.items ++ names_found more
found_behind old new more behind = ap names_found behind ∙ map-append (λ (v : ℕ × Place). v.0) old.vertices.items more

pub stays_found : (old new : FoundVertices) (more : List (ℕ × Place)) → new.vertices.items ≡ old.vertices.items ++ more → (x : ℕ) → Contains (names_found old.vertices.items) x → Contains (names_found new.vertices.items) x
stays_found old new more behind x has = subst (λ (xs : List ℕ). Contains xs x) (sym (found_behind old new more behind)) (Contains-append_left (names_found old.vertices.items) (names_found more) x has)

-- what one more name makes of those that are there
push_is : (xs : List ℕ) (y x : ℕ) → Contains (xs ++ y ∷ []) x ↔ (Contains xs x ⊎ (y ≡ x))
push_is xs y x = (Contains-push_cases xs y x, ⊎_elim (Contains-append_left xs (y ∷ []) x) (λ (at : y ≡ x). subst (Contains (xs ++ y ∷ [])) at (Contains-push xs y)))

-- one subject more
pub subjects_more : (old new : FoundVertices) (names : List ℕ) (name : ℕ) → FindsMore old new (λ x. x ≡ name) → ((x : ℕ) → Contains (names_found old.vertices.items) x ↔ Contains names x) → (x : ℕ) → Contains (names_found new.vertices.items) x ↔ Contains (names ++ name ∷ []) x
subjects_more old new names name finds are x = (
  λ has. (push_is names name x).1 (⊎_elim (λ was. inl ((are x).0 was)) (λ came. inr (sym (finds.only x came)))
      (Contains-append_cases (names_found old.vertices.items) (names_found finds.more) x (subst (λ (xs : List ℕ). Contains xs x) (found_behind old new finds.more finds.behind) has))),
  λ has. ⊎_elim (λ was. stays_found old new finds.more finds.behind x ((are x).1 was)) (λ (at : name ≡ x). finds.all x (sym at)) ((push_is names name x).0 has),
)

-- an edge of a row, as a list has it
abbrev pub edge_from : ℕ → ℕ × RightSet → Edge
edge_from from a = record { from = from; to = a.0; label = a.1 }

abbrev pub row_edges : ℕ → List (ℕ × RightSet) → List Edge
row_edges from row = map (edge_from from) row

-- The first edges of a row were put after a list, and the vertices to which they lead were found.
pub record FollowsRow (label : ℕ → ℕ → RightSet) (from : ℕ) (row : List (ℕ × RightSet)) (old new : FoundVertices) (before after : List Edge) (n : ℕ) : Type 0 where
  pub more : List (ℕ × Place)
  pub behind : new.vertices.items ≡ old.vertices.items ++ more
  pub only : (x : ℕ) → Contains (names_found more) x → HasEdge label from x
  pub all : (x : ℕ × RightSet) → Contains (take n row) x → Contains (names_found new.vertices.items) x.0
  pub edges : after ≡ before ++ row_edges from (take n row)

module _ (label : ℕ → ℕ → RightSet) (from : ℕ) (row : List (ℕ × RightSet)) (old : FoundVertices) (before : List Edge) where
  pub row_begins : FollowsRow label from row old old before before 0
  row_begins = record {
    more = [];
    behind = sym (append-nil old.vertices.items);
    only = λ x none. absurd (Contains-none x none);
    all = λ x none. absurd (Contains-none x none);
    edges = sym (append-nil before);
  }

  module _ (now next : FoundVertices) (after later : List Edge) (n : ℕ) (a : ℕ × RightSet) (low : n < length row) (here : a ≡ get_or row n a) (so_far : FollowsRow label from row old now before after n) where
    taken : take (n + 1) row ≡ take n row ++ a ∷ []
    taken = take_more row n a low ∙ ap (λ (x : ℕ × RightSet). take n row ++ x ∷ []) (sym here)

    pub row_goes : HasEdge label from a.0 → FindsMore now next (λ x. x ≡ a.0) → later ≡ after ++ edge_from from a ∷ [] → FollowsRow label from row old next before later (n + 1)
    row_goes edge finds pushed = record {
      more = so_far.more ++ finds.more;
      behind = finds.behind ∙ ap (λ (vs : List (ℕ × Place)). vs ++ finds.more) so_far.behind ∙ append_assoc old.vertices.items so_far.more finds.more;
      only = λ x has. ⊎_elim (so_far.only x) (λ new_one. subst (HasEdge label from) (sym (finds.only x new_one)) edge)
          (Contains-append_cases (names_found so_far.more) (names_found finds.more) x
          (subst (λ (xs : List ℕ). Contains xs x) (map-append (λ (v : ℕ × Place). v.0) so_far.more finds.more) has));
      all = λ x has. ⊎_elim
          (λ was. stays_found now next finds.more finds.behind x.0 (so_far.all x was))
          (λ (at : a ≡ x). finds.all x.0 (sym (ap (λ (e : ℕ × RightSet). e.0) at)))
          (Contains-push_cases (take n row) a x (subst (λ (xs : List (ℕ × RightSet)). Contains xs x) taken has));
      edges =
          pushed
          ∙ ap (λ (es : List Edge). es ++ edge_from from a ∷ []) so_far.edges
          ∙ append_assoc before (row_edges from (take n row)) (edge_from from a ∷ [])
          ∙ ap (λ (es : List Edge). before ++ es)
          (sym (map-append (edge_from from) (take n row) (a ∷ [])) ∙ ap (row_edges from) (sym taken));
    }

  -- the whole row, which is the listing of the vertex
  module _ (new : FoundVertices) (after : List Edge) (n made : ℕ) (past : length row ≤ n) (is : row ≡ listing_of label made from) (follows : FollowsRow label from row old new before after n) where
    whole : take n row ≡ row
    whole = take_all n row past

    in_row : (a : ℕ × RightSet) → Contains row a → (a.0 < made) × (a.1 ≡ label from a.0) × (is_none_held a.1 ≡ false)
    in_row a has = listed_from label made from a (subst (λ (xs : List (ℕ × RightSet)). Contains xs a) is has)

    pub row_found : ((y : ℕ) → HasEdge label from y → y < made) → FindsMore old new (HasEdge label from)
    row_found below = record {
      more = follows.more;
      behind = follows.behind;
      only = follows.only;
      all = λ x edge.
          let there : Contains row (x, label from x) = subst (λ (xs : List (ℕ × RightSet)). Contains xs (x, label from x)) (sym is) (listed label made from x (below x edge) edge) in
          follows.all (x, label from x) (subst (λ (xs : List (ℕ × RightSet)). Contains xs (x, label from x)) (sym whole) there);
    }

    edges_are : after ≡ before ++ row_edges from row
    edges_are = follows.edges ∙ ap (λ (xs : List (ℕ × RightSet)). before ++ row_edges from xs) whole

    of_row : (edge : Edge) → Contains (row_edges from row) edge → (edge.from ≡ from) × IsEdgeOf label edge
    of_row edge has =
        let at = Contains-from_map (edge_from from) row edge has in
        let a = at.0 in
        let told = in_row a at.1 in
        let made_edge : Edge = edge_from from a in
        let P : Edge → Type 0 = λ e. (e.from ≡ from) × IsEdgeOf label e in
        let own : P made_edge = (refl, record { there = ap is_none_held (sym told.1) ∙ told.2; rights = told.1 }) in
        subst P at.2 own

    in_edges : (edge : Edge) → edge.from ≡ from → IsEdgeOf label edge → ((y : ℕ) → HasEdge label from y → y < made) → Contains (row_edges from row) edge
    in_edges edge at edge_is below =
        let there : HasEdge label from edge.to = subst (λ (k : ℕ). HasEdge label k edge.to) at edge_is.there in
        let held : edge.label ≡ label from edge.to = edge_is.rights ∙ ap (λ (k : ℕ). label k edge.to) at in
        let a : ℕ × RightSet = (edge.to, label from edge.to) in
        let listed_there : Contains row a = subst (λ (xs : List (ℕ × RightSet)). Contains xs a) (sym is) (listed label made from edge.to (below edge.to there) there) in
        let same : edge_from from a ≡ edge = λ i. record { from = sym at i; to = edge.to; label = sym held i } in
        subst (Contains (row_edges from row)) same
        (Contains-map (edge_from from) row a listed_there)

    pub row_edges_are : ((y : ℕ) → HasEdge label from y → y < made) → (edge : Edge) → Contains after edge ↔ (Contains before edge ⊎ ((edge.from ≡ from) × IsEdgeOf label edge))
    row_edges_are below edge = (
      λ has. ⊎_elim inl (λ row_has. inr (of_row edge row_has)) (Contains-append_cases before (row_edges from row) edge (subst (λ (es : List Edge). Contains es edge) edges_are has)),
      λ either. subst (λ (es : List Edge). Contains es edge) (sym edges_are)
          (⊎_elim
          (Contains-append_left before (row_edges from row) edge)
          (λ (at, edge_is). Contains-append_right before (row_edges from row) edge (in_edges edge at edge_is below))
          either),
    )

-- ---- the walk

-- Those to whom the rows of the first n lead that were found were found too, and none but what the subjects reach.
pub record Finds (c : Content) (subjects : List ℕ) (found : FoundVertices) (n : ℕ) : Type 0 where
  pub roots : (x : ℕ) → Contains subjects x → Contains (names_found found.vertices.items) x
  pub reached : (x : ℕ) → Contains (names_found found.vertices.items) x → IsReached c subjects x
  pub closed : (a b : ℕ) → Contains (names_found (take n found.vertices.items)) a → HasEdge c.label a b → Contains (names_found found.vertices.items) b

pub find_begins : (c : Content) (subjects : List ℕ) (found : FoundVertices) → ((x : ℕ) → Contains (names_found found.vertices.items) x ↔ Contains subjects x) → Finds c subjects found 0
find_begins c subjects found are = record {
  roots = λ x has. (are x).1 has;
  reached = λ x has. begins ((are x).0 has);
  closed = λ a b none. absurd (Contains-none a none);
}

-- The same, and the edges of these rows are the list's.
pub record Walks (c : Content) (subjects : List ℕ) (found : FoundVertices) (edges : List Edge) (n : ℕ) : Type 0 where
  pub finds : Finds c subjects found n
  pub shown : (edge : Edge) → Contains edges edge ↔ (Contains (names_found (take n found.vertices.items)) edge.from × IsEdgeOf c.label edge)

pub walk_begins : (c : Content) (subjects : List ℕ) (found : FoundVertices) → ((x : ℕ) → Contains (names_found found.vertices.items) x ↔ Contains subjects x) → Walks c subjects found [] 0
walk_begins c subjects found are = record {
  finds = find_begins c subjects found are;
  shown = λ edge. (λ none. absurd (Contains-none edge none), λ (none, is). absurd (Contains-none edge.from none));
}

-- the walk goes on with the row of a vertex that was read
module _ (c : Content) (subjects : List ℕ) (old new : FoundVertices) (n : ℕ) (v : ℕ × Place) (low : n < length old.vertices.items) (here : v ≡ get_or old.vertices.items n v) (finds : FindsMore old new (HasEdge c.label v.0)) where
  abbrev walked : List ℕ
  walked = names_found (take n old.vertices.items)

  walked_more : names_found (take (n + 1) new.vertices.items) ≡ walked ++ v.0 ∷ []
  walked_more =
      ap (λ (vs : List (ℕ × Place)). names_found (take (n + 1) vs)) finds.behind
      ∙ ap names_found (take-append-le (n + 1) old.vertices.items finds.more (omega (arith, low)))
      ∙ map_more (λ (w : ℕ × Place). w.0) old.vertices.items n v low
      ∙ ap (λ (w : ℕ × Place). walked ++ w.0 ∷ []) (sym here)

  steps : (x : ℕ) → Contains (names_found (take (n + 1) new.vertices.items)) x ↔ (Contains walked x ⊎ (v.0 ≡ x))
  steps x = subst (λ (xs : List ℕ). Contains xs x ↔ (Contains walked x ⊎ (v.0 ≡ x))) (sym walked_more) (push_is walked v.0 x)

  pub find_row : Finds c subjects old n → Finds c subjects new (n + 1)
  find_row so_far = record {
    roots = λ x is. stays_found old new finds.more finds.behind x (so_far.roots x is);
    reached = λ x has. ⊎_elim (so_far.reached x) (λ new_one. goes (so_far.reached v.0 (Contains-map (λ (w : ℕ × Place). w.0) old.vertices.items v (n, low, sym here))) (finds.only x new_one))
        (Contains-append_cases (names_found old.vertices.items) (names_found finds.more) x (subst (λ (xs : List ℕ). Contains xs x) (found_behind old new finds.more finds.behind) has));
    closed = λ a b there edge. ⊎_elim
        (λ before_it. stays_found old new finds.more finds.behind b (so_far.closed a b before_it edge))
        (λ (at : v.0 ≡ a). finds.all b (subst (λ (k : ℕ). HasEdge c.label k b) (sym at) edge))
        ((steps a).0 there);
  }

  pub walk_row : (before after : List Edge) → Walks c subjects old before n → ((edge : Edge) → Contains after edge ↔ (Contains before edge ⊎ ((edge.from ≡ v.0) × IsEdgeOf c.label edge))) → Walks c subjects new after (n + 1)
  walk_row before after walks edges_are = record {
    finds = find_row walks.finds;
    shown = λ edge. (
      λ has. ⊎_elim
          (λ old_edge. let is = (walks.shown edge).0 old_edge in ((steps edge.from).1 (inl is.0), is.1))
          (λ (at, is). ((steps edge.from).1 (inr (sym at)), is))
          ((edges_are edge).0 has),
      λ (there, is). (edges_are edge).1 (⊎_elim (λ before_it. inl ((walks.shown edge).1 (before_it, is))) (λ at. inr (sym at, is)) ((steps edge.from).0 there)),
    );
  }

-- at the end all that is reached was found
module _ (c : Content) (subjects : List ℕ) (found : FoundVertices) (n : ℕ) (finds : Finds c subjects found n) (past : length found.vertices.items ≤ n) where
  all_walked : names_found (take n found.vertices.items) ≡ names_found found.vertices.items
  all_walked = ap names_found (take_all n found.vertices.items past)

  walked_of : (x : ℕ) → Contains (names_found found.vertices.items) x → Contains (names_found (take n found.vertices.items)) x
  walked_of x has = subst (λ (xs : List ℕ). Contains xs x) (sym all_walked) has

  all_found : (x : ℕ) → IsReached c subjects x → Contains (names_found found.vertices.items) x
  all_found = Walk-within (Contains (names_found found.vertices.items)) finds.roots (λ a b has edge. finds.closed a b (walked_of a has) edge)

  pub find_over : (x : ℕ) → Contains (names_found found.vertices.items) x ↔ IsReached c subjects x
  find_over x = (finds.reached x, all_found x)

-- and walked along
pub walk_over : (c : Content) (subjects : List ℕ) (found : FoundVertices) (edges : List Edge) (n : ℕ) → Walks c subjects found edges n → length found.vertices.items ≤ n → (edge : Edge) → Contains edges edge ↔ IsReachedEdgeOf c subjects edge
walk_over c subjects found edges n walks past edge = (
  λ has. let is = (walks.shown edge).0 has in record { from = walks.finds.reached edge.from (subst (λ (xs : List ℕ). Contains xs edge.from) (all_walked c subjects found n walks.finds past) is.0); is = is.1 },
  λ is. (walks.shown edge).1 (walked_of c subjects found n walks.finds past edge.from (all_found c subjects found n walks.finds past edge.from is.from), is.is),
)

-- ---- what is read

-- a vertex that was read
pub vertex_at : (h : SpaceList) (found : FoundVertices) (n : ℕ) (v : ℕ × Place) → IsFoundIn h found → n < length found.vertices.items → v ≡ get_or found.vertices.items n v → IsVertexAt h v.0 v.1
vertex_at h found n v is low here = subst (λ (w : ℕ × Place). IsVertexAt h w.0 w.1) (sym here) (is.placed n v low)

-- an edge of a listing
pub listed_at : (label : ℕ → ℕ → RightSet) (from : ℕ) (row : List (ℕ × RightSet)) (made n : ℕ) (a : ℕ × RightSet) → row ≡ listing_of label made from → n < length row → a ≡ get_or row n a → (a.0 < made) × HasEdge label from a.0
listed_at label from row made n a is low here =
    let told = listed_from label made from a (subst (λ (xs : List (ℕ × RightSet)). Contains xs a) is (n, low, sym here)) in
    (told.0, ap is_none_held (sym told.1) ∙ told.2)
