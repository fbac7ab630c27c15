-- Who has an edge to a vertex of those that a walk found, and who shares rights over it.
use mathlib.Core.Bool.{true≢false}
use Rattle.std.proofs.Common.{◌≡◌, ◌↔◌, ◌∙◌, ℕ, ◌+◌, ◌<◌, ◌&&◌, Bool, true, false, not, cond, List, [], ◌∷◌, ◌++◌, length, map, refl, sym, ap, subst, arith}
use Rattle.std.specs.Prelude.{IfOk, Some, None, Result, Ok, Err, is_some}
use Rattle.std.specs.List.{AllPairs, Contains, filter}
use Rattle.std.specs.List.Sorted.{IsStrictlyIncreasing}
use Rattle.std.proofs.lemmas.List.{append-nil, get_or-map, length-map, map-append}
use Rattle.std.proofs.lemmas.List.Elements.{filter-append}
use Rattle.std.proofs.lemmas.List.Kept.{AllPairs-filter}
use Rattle.tg_rights.specs.RightSet.{RightSet, has, is_none_held, label_of, minus, no_rights, only, set_where}
use Rattle.tg_rights.specs.declared.Right.{Right}
use Rattle.tg_rights.specs.declared.Right.TheVariants as right
use Rattle.tg_rights.proofs.RightLaws.{has-no_rights, has-none_held, has-set_where, same_rights}
use Rattle.tg_model.proofs.RowLaws.{labelled, unlabelled}
use Rattle.tg_model.specs.Graph.{ProtectionGraph, HasEdge, IsReachable}
use Rattle.tg_word.specs.declared.Place.{Place}
use Rattle.tg_rows.specs.Content.{Content}
use Rattle.tg_rows.proofs.Members.{Contains-filter, Contains-from_filter, Contains-from_map, Contains-map}
use Rattle.tg_graph.specs.Heap.{HeapState, subject_names}
use Rattle.tg_graph.specs.Standing.{IsContentOf}
use Rattle.tg_graph.proofs.StandingLaws.{IsReachable-IsReached, IsReached-IsReachable}
use Rattle.tg_store.specs.Holding.{AreEdgesTo, AreHolders, common}
use Rattle.tg_store.specs.Inner.Reaching.{AreReachedAlong, edges_over, names_found, names_sharing}
use Rattle.tg_store.specs.Withdrawing.{AreHoldersOfSome}

-- what follows of a value that is there
pub if_ok : {T E : Type 0} {P Q : T → Type 0} (r : Result T E) → IfOk r P → ((t : T) → P t → Q t) → IfOk r Q
if_ok (Ok t) is next = next t is
if_ok (Err e) is next = tt

-- ---- rights that are in two sets

both_kept : (a b : Bool) → (a && not (a && not b)) ≡ (a && b)
both_kept true true = refl
both_kept true false = refl
both_kept false b = refl

pub minus-minus : (a b : RightSet) → minus a (minus a b) ≡ common a b
minus-minus a b = λ i. set_where (λ x. both_kept (has a x) (has b x) i)

not_not : (b : Bool) → not (not b) ≡ b
not_not true = refl
not_not false = refl

shares_one : (r w t g a l u v : Bool) (x : Right)
    → not (is_none_held (common (only x) (record { r = r; w = w; t = t; g = g; a = a; l = l; u = u; v = v }))) ≡ has (record { r = r; w = w; t = t; g = g; a = a; l = l; u = u; v = v }) x
shares_one true w t g a l u v right.R = refl
shares_one false w t g a l u v right.R = refl
shares_one r true t g a l u v right.W = refl
shares_one r false t g a l u v right.W = refl
shares_one r w true g a l u v right.T = refl
shares_one r w false g a l u v right.T = refl
shares_one r w t true a l u v right.G = refl
shares_one r w t false a l u v right.G = refl
shares_one r w t g true l u v right.A = refl
shares_one r w t g false l u v right.A = refl
shares_one r w t g a true u v right.L = refl
shares_one r w t g a false u v right.L = refl
shares_one r w t g a l true v right.U = refl
shares_one r w t g a l false v right.U = refl
shares_one r w t g a l u true right.V = refl
shares_one r w t g a l u false right.V = refl

-- a set shares a right with the set of that right alone exactly if it has the right
pub shares-only : (x : Right) (s : RightSet) → not (is_none_held (common (only x) s)) ≡ has s x
shares-only x s = shares_one s.r s.w s.t s.g s.a s.l s.u s.v x

-- a label that is there is that of the set
pub label_there : (s : RightSet) → is_some (label_of s) ≡ not (is_none_held s)
label_there s =
    elim (is_none_held s) as (λ v. is_some (cond v None (Some s)) ≡ not v) [
      | true ↦ refl
      | false ↦ refl
    ]

pub true_not_false : (b : Bool) → not b ≡ true → b ≡ false
true_not_false b is = sym (not_not b) ∙ ap not is

pub false_not_true : (b : Bool) → b ≡ false → not b ≡ true
false_not_true b is = ap not is

none_common : (a b : Bool) → b ≡ false → (a && b) ≡ false
none_common true b is = is
none_common false b is = refl

-- a set that shares a right has one
pub some_common : (a b : RightSet) → is_none_held (common a b) ≡ false → is_none_held b ≡ false
some_common a b some =
    elim (is_none_held b) as (λ v. is_none_held b ≡ v → v ≡ false) [
      | true ↦ λ none. absurd (true≢false (sym (nothing none) ∙ some))
      | false ↦ λ held. refl
    ] refl
  where
    nothing : is_none_held b ≡ true → is_none_held (common a b) ≡ true
    nothing none = ap is_none_held
        (same_rights (common a b) no_rights
        (λ x. has-set_where (λ y. has a y && has b y) x ∙ none_common (has a x) (has b x) (has-none_held b none x) ∙ sym (has-no_rights x)))

-- ---- lists of edges

abbrev pub EdgesOf : Type 0
EdgesOf = List (ℕ × RightSet)

abbrev pub Rising : EdgesOf → Type 0
Rising edges = AllPairs (λ d e. d.0 < e.0) edges

nowhere : Place
nowhere = record { space = 0; block = 0; cell = 0 }

names_rising : (edges : EdgesOf) → Rising edges → IsStrictlyIncreasing (map (λ e. e.0) edges)
names_rising edges rising k inside =
    let more : k + 1 < length edges = subst (λ n. k + 1 < n) (length-map edges (λ (e : ℕ × RightSet). e.0)) inside in
    let here : k < length edges = omega (arith, more) in
    let lower : k < k + 1 = omega arith in
    rw (get_or-map (λ (e : ℕ × RightSet). e.0) edges k (0, no_rights) 0 here, get_or-map (λ (e : ℕ × RightSet). e.0) edges (k + 1) (0, no_rights) 0 more)
    (rising k (k + 1) (0, no_rights) lower more)

-- the names that share rights, one edge more
module _ (rights : RightSet) (edges : EdgesOf) (e : ℕ × RightSet) where
  abbrev shares : ℕ × RightSet → Bool
  shares d = not (is_none_held (common rights d.1))

  pushed : names_sharing rights (edges ++ e ∷ []) ≡ names_sharing rights edges ++ map (λ d. d.0) (cond (shares e) (e ∷ []) [])
  pushed =
      ap (λ (es : EdgesOf). map (λ (d : ℕ × RightSet). d.0) es) (filter-append shares edges (e ∷ []))
      ∙ map-append (λ (d : ℕ × RightSet). d.0) (filter shares edges) (filter shares (e ∷ []))

  pub names_sharing-push : shares e ≡ true → names_sharing rights (edges ++ e ∷ []) ≡ names_sharing rights edges ++ e.0 ∷ []
  names_sharing-push some = pushed ∙ ap (λ (v : Bool). names_sharing rights edges ++ map (λ (d : ℕ × RightSet). d.0) (cond v (e ∷ []) [])) some

  pub names_sharing-same : shares e ≡ false → names_sharing rights (edges ++ e ∷ []) ≡ names_sharing rights edges
  names_sharing-same none =
      pushed ∙ ap (λ (v : Bool). names_sharing rights edges ++ map (λ (d : ℕ × RightSet). d.0) (cond v (e ∷ []) [])) none
      ∙ append-nil (names_sharing rights edges)

-- the edges to y, one vertex more
module _ (label : ℕ → ℕ → RightSet) (y : ℕ) where
  abbrev edge_of : ℕ × Place → ℕ × RightSet
  edge_of v = (v.0, label v.0 y)

  abbrev is_edge : ℕ × RightSet → Bool
  is_edge e = not (is_none_held e.1)

  module _ (vertices : List (ℕ × Place)) (v : ℕ × Place) where
    vertex_pushed : edges_over label y (vertices ++ v ∷ []) ≡ edges_over label y vertices ++ cond (is_edge (edge_of v)) (edge_of v ∷ []) []
    vertex_pushed =
        ap (filter is_edge) (map-append edge_of vertices (v ∷ []))
        ∙ filter-append is_edge (map edge_of vertices) (edge_of v ∷ [])

    pub edges_over-push : (l : RightSet) → Some l ≡ label_of (label v.0 y) → edges_over label y (vertices ++ v ∷ []) ≡ edges_over label y vertices ++ (v.0, l) ∷ []
    edges_over-push l told =
        let is = labelled (label v.0 y) l (sym told) in
        let held : is_none_held (label v.0 y) ≡ false = ap is_none_held (sym is.0) ∙ is.1 in
        vertex_pushed
        ∙ ap (λ (b : Bool). edges_over label y vertices ++ cond (not b) (edge_of v ∷ []) []) held
        ∙ ap (λ (s : RightSet). edges_over label y vertices ++ (v.0, s) ∷ []) (sym is.0)

    pub edges_over-same : None ≡ label_of (label v.0 y) → edges_over label y (vertices ++ v ∷ []) ≡ edges_over label y vertices
    edges_over-same told =
        let none : is_none_held (label v.0 y) ≡ true = ap is_none_held (unlabelled (label v.0 y) (sym told)) in
        vertex_pushed
        ∙ ap (λ (b : Bool). edges_over label y vertices ++ cond (not b) (edge_of v ∷ []) []) none
        ∙ append-nil (edges_over label y vertices)

  -- ---- which edges these are

  pub edges_over-rise : (vertices : List (ℕ × Place)) → AllPairs (λ v w. v.0 < w.0) vertices → Rising (edges_over label y vertices)
  edges_over-rise vertices rise = AllPairs-filter (λ (d e : ℕ × RightSet). d.0 < e.0) is_edge (map edge_of vertices) mapped
    where
      mapped : Rising (map edge_of vertices)
      mapped i j d lower inside =
          let far : j < length vertices = subst (λ n. j < n) (length-map vertices edge_of) inside in
          let near : i < length vertices = omega (arith, lower, far) in
          rw (get_or-map edge_of vertices i (0, nowhere) d near, get_or-map edge_of vertices j (0, nowhere) d far)
          (rise i j (0, nowhere) lower far)

  pub in_edges_over : (vertices : List (ℕ × Place)) (x : ℕ) (l : RightSet) → Contains (edges_over label y vertices) (x, l)
      ↔ (Contains (names_found vertices) x × HasEdge label x y × (l ≡ label x y))
  in_edges_over vertices x l = (there, back)
    where
      there : Contains (edges_over label y vertices) (x, l) → Contains (names_found vertices) x × HasEdge label x y × (l ≡ label x y)
      there has =
          let kept = Contains-from_filter is_edge (map edge_of vertices) (x, l) has in
          let from = Contains-from_map edge_of vertices (x, l) kept.0 in
          let at : from.0.0 ≡ x = ap (λ (e : ℕ × RightSet). e.0) from.2 in
          let labels : label x y ≡ l = ap (λ (n : ℕ). label n y) (sym at) ∙ ap (λ (e : ℕ × RightSet). e.1) from.2 in (
            subst (λ (n : ℕ). Contains (names_found vertices) n) at (Contains-map (λ (v : ℕ × Place). v.0) vertices from.0 from.1),
            ap is_none_held labels ∙ true_not_false (is_none_held l) kept.1,
            sym labels,
          )

      back : Contains (names_found vertices) x × HasEdge label x y × (l ≡ label x y) → Contains (edges_over label y vertices) (x, l)
      back is =
          let from = Contains-from_map (λ (v : ℕ × Place). v.0) vertices x is.0 in
          let same : edge_of from.0 ≡ (x, l) = (λ i. (from.2 i, label (from.2 i) y)) ∙ ap (λ (s : RightSet). (x, s)) (sym is.2) in
          Contains-filter is_edge (map edge_of vertices) (x, l)
          (subst (λ (e : ℕ × RightSet). Contains (map edge_of vertices) e) same (Contains-map edge_of vertices from.0 from.1))
          (false_not_true (is_none_held l) (ap is_none_held is.2 ∙ is.1))

-- ---- on the graph

module _ (heap : HeapState) (c : Content) (g : ProtectionGraph) (stands : IsContentOf c g) (same_subjects : g.subjects ≡ subject_names heap) (vertices : List (ℕ × Place)) (reached : AreReachedAlong heap c vertices) (y : ℕ)
    (edges : EdgesOf) (are : edges ≡ edges_over c.label y vertices) where
  to_graph : (x : ℕ) (l : RightSet) → Contains edges (x, l) → IsReachable g x × HasEdge g.label x y × (l ≡ g.label x y)
  to_graph x l has =
      let is = (in_edges_over c.label y vertices x l).0 (subst (λ (es : EdgesOf). Contains es (x, l)) are has) in
      let here = IsReachable-IsReached c g stands (subject_names heap) same_subjects x ((reached.names x).0 is.0) in
      let same : c.label x y ≡ g.label x y = stands.labels x y (stands.reachable x here) in
      (here, ap is_none_held (sym same) ∙ is.1, is.2 ∙ same)

  of_graph : (x : ℕ) (l : RightSet) → IsReachable g x × HasEdge g.label x y × (l ≡ g.label x y) → Contains edges (x, l)
  of_graph x l is =
      let same : c.label x y ≡ g.label x y = stands.labels x y (stands.reachable x is.0) in
      let found = (reached.names x).1 (IsReached-IsReachable c g stands (subject_names heap) same_subjects x is.0) in
      subst (λ (es : EdgesOf). Contains es (x, l)) (sym are)
      ((in_edges_over c.label y vertices x l).1 (found, ap is_none_held same ∙ is.1, is.2 ∙ sym same))

  -- those of the vertices that a walk reached are those of the graph
  pub edges_to_are : AreEdgesTo g y edges
  edges_to_are = record {
    rising = subst Rising (sym are) (edges_over-rise c.label y vertices reached.rise);
    each = λ x l. (to_graph x l, of_graph x l);
  }

-- who of them shares rights
module _ (g : ProtectionGraph) (y : ℕ) (edges : EdgesOf) (to : AreEdgesTo g y edges) (rights : RightSet) where
  abbrev sharing : ℕ × RightSet → Bool
  sharing e = not (is_none_held (common rights e.1))

  pub sharing_rise : IsStrictlyIncreasing (names_sharing rights edges)
  sharing_rise = names_rising (filter sharing edges) (AllPairs-filter (λ (d e : ℕ × RightSet). d.0 < e.0) sharing edges to.rising)

  abbrev Shares : ℕ → Type 0
  Shares n = IsReachable g n × (is_none_held (common rights (g.label n y)) ≡ false)

  shares_there : (n : ℕ) → Contains (names_sharing rights edges) n → Shares n
  shares_there n has =
      let from = Contains-from_map (λ (e : ℕ × RightSet). e.0) (filter sharing edges) n has in
      let kept = Contains-from_filter sharing edges from.0 from.1 in
      let is = (to.each from.0.0 from.0.1).0 kept.0 in
      subst Shares from.2 (is.0, ap (λ (s : RightSet). is_none_held (common rights s)) (sym is.2) ∙ true_not_false (is_none_held (common rights from.0.1)) kept.1)

  shares_back : (n : ℕ) → Shares n → Contains (names_sharing rights edges) n
  shares_back n is =
      let edge : ℕ × RightSet = (n, g.label n y) in
      let there = (to.each n (g.label n y)).1 (is.0, some_common rights (g.label n y) is.1, refl) in
      Contains-map (λ (e : ℕ × RightSet). e.0) (filter sharing edges) edge
      (Contains-filter sharing edges edge there (false_not_true (is_none_held (common rights (g.label n y))) is.1))

  pub sharing_are : (n : ℕ) → Contains (names_sharing rights edges) n ↔ Shares n
  sharing_are n = (shares_there n, shares_back n)

-- who of them has a right holds it
pub holders_are : (g : ProtectionGraph) (y : ℕ) (edges : EdgesOf) → AreEdgesTo g y edges → (x : Right) (names : List ℕ) → names ≡ names_sharing (only x) edges → AreHolders g x y names
holders_are g y edges to x names are =
    subst (AreHolders g x y) (sym are)
    (record {
      rising = sharing_rise g y edges to (only x);
      each = λ n. (
        λ has. let is = (sharing_are g y edges to (only x) n).0 has in (is.0, sym (shares-only x (g.label n y)) ∙ false_not_true (is_none_held (common (only x) (g.label n y))) is.1),
        λ is. (sharing_are g y edges to (only x) n).1 (is.0, true_not_false (is_none_held (common (only x) (g.label n y))) (shares-only x (g.label n y) ∙ is.1)),
      );
    })

-- who of them has some of several rights holds some
pub some_holders_are : (g : ProtectionGraph) (y : ℕ) (edges : EdgesOf) → AreEdgesTo g y edges → (rights : RightSet) (names : List ℕ) → names ≡ names_sharing rights edges → AreHoldersOfSome g rights y names
some_holders_are g y edges to rights names are = subst (AreHoldersOfSome g rights y) (sym are) (record { rising = sharing_rise g y edges to rights; each = sharing_are g y edges to rights })
