-- What is read of a heap for a withdrawal: who gives up, what each gives up, and which vertices are reached once that is done.
use Rattle.std.proofs.Common.{◌≡◌, ◌∙◌, ⊎_elim, ℕ, ◌+◌, ◌<◌, ◌≤◌, ◌==◌, ◌||◌, ◌&&◌, Bool, true, false, not, cond, List, [], ◌∷◌, ◌++◌, length, get_or, map, take, refl, sym, ap, subst}
use Rattle.std.specs.List.{Contains, filter, list_any}
use Rattle.std.proofs.lemmas.Bool.{true≢false}
use Rattle.std.proofs.lemmas.List.{append-nil, append_assoc, map-append, take_all, take_more}
use Rattle.std.proofs.lemmas.List.Elements.{Contains-append_cases, Contains-push_cases, filter-append}
use Rattle.tg_rights.specs.RightSet.{RightSet, is_none_held, minus, no_rights}
use Rattle.tg_model.specs.Graph.{ProtectionGraph, HasEdge, listing_of}
use Rattle.tg_model.specs.Walks.{begins}
use Rattle.tg_word.specs.declared.Place.{Place}
use Rattle.tg_rows.proofs.Listing.{listed}
use Rattle.tg_rows.specs.Content.{Content}
use Rattle.tg_rows.proofs.Members.{Contains-from_filter, Contains-from_map, Contains-here, Contains-more, Contains-none}
use Rattle.tg_graph.specs.Heap.{HeapState, subject_names}
use Rattle.tg_graph.specs.Standing.{IsContentOf}
use Rattle.tg_store.specs.Holding.{common}
use Rattle.tg_store.specs.Inner.Reaching.{AreReachedAlong, FindsMore, edges_over, names_found, names_sharing}
use Rattle.tg_store.specs.Inner.Withdrawing.{content_left}
use Rattle.tg_store.specs.Withdrawing.{AreHoldersOfSome, given_up, givers_among, labels_left, withdrawn}
use Rattle.tg_store.specs.declared.store.picture.FoundVertices.{FoundVertices}
use Rattle.tg_store.specs.declared.store.withdrawal.Withdrawal.{Withdrawal}
use Rattle.tg_store.proofs.HoldingLaws.{edges_to_are, some_holders_are}
use Rattle.tg_store.proofs.ReachingLaws.{stays_found}
use Rattle.tg_store.proofs.WithdrawLaws.{stands_left}

-- ---- who gives up

-- one subject more
module _ (keep xs : List ℕ) (x : ℕ) where
  abbrev gives : ℕ → Bool
  gives z = not (list_any (λ k. k == z) keep)

  subject_pushed : givers_among (xs ++ x ∷ []) keep ≡ givers_among xs keep ++ cond (gives x) (x ∷ []) []
  subject_pushed = filter-append gives xs (x ∷ [])

  pub givers-push : gives x ≡ true → givers_among (xs ++ x ∷ []) keep ≡ givers_among xs keep ++ x ∷ []
  givers-push outside = subject_pushed ∙ ap (λ (v : Bool). givers_among xs keep ++ cond v (x ∷ []) []) outside

  pub givers-same : gives x ≡ false → givers_among (xs ++ x ∷ []) keep ≡ givers_among xs keep
  givers-same kept = subject_pushed ∙ ap (λ (v : Bool). givers_among xs keep ++ cond v (x ∷ []) []) kept ∙ append-nil (givers_among xs keep)

-- a name is looked up among vertices as among their names
pub any_found : (name : ℕ) (vertices : List (ℕ × Place)) → list_any (λ v. v.0 == name) vertices ≡ list_any (λ x. x == name) (names_found vertices)
any_found name [] = refl
any_found name (v ∷ vertices) = ap (λ b. (v.0 == name) || b) (any_found name vertices)

-- what vertices give up is told of their names
pub given_found : (label : ℕ → ℕ → RightSet) (y : ℕ) (rights : RightSet) (vertices : List (ℕ × Place)) → edges_over (λ a b. common rights (label a b)) y vertices ≡ given_up label y rights (names_found vertices)
given_found label y rights vertices = ap (filter (λ (e : ℕ × RightSet). not (is_none_held e.1))) (each vertices)
  where
    each : (vs : List (ℕ × Place)) → map {B = ℕ × RightSet} (λ v. (v.0, common rights (label v.0 y))) vs ≡ map {B = ℕ × RightSet} (λ x. (x, common rights (label x y))) (names_found vs)
    each [] = refl
    each (v ∷ vs) = ap (λ (es : List (ℕ × RightSet)). (v.0, common rights (label v.0 y)) ∷ es) (each vs)

-- ---- what is left

pub not_both : (here : Bool) (s r : RightSet) → cond (here && false) s r ≡ r
not_both true s r = refl
not_both false s r = refl

pub not_false_true : (b : Bool) → not b ≡ false → b ≡ true
not_false_true true is = refl
not_false_true false is = absurd (true≢false is)

nothing_kept : (t : Bool) (rights : RightSet) → cond t (minus no_rights rights) no_rights ≡ no_rights
nothing_kept true rights = refl
nothing_kept false rights = refl

-- nothing is left of no edge
pub left_nothing : (label : ℕ → ℕ → RightSet) (y : ℕ) (rights : RightSet) (givers : List ℕ) (a b : ℕ) → label a b ≡ no_rights → labels_left label y rights givers a b ≡ no_rights
left_nothing label y rights givers a b none =
    let gives = (b == y) && list_any (λ x. x == a) givers in
    ap (λ (s : RightSet). cond gives (minus s rights) s) none ∙ nothing_kept gives rights

-- who gives up acts
pub given_by : (label : ℕ → ℕ → RightSet) (y : ℕ) (rights : RightSet) (subjects keep : List ℕ) (e : ℕ × RightSet) → Contains (given_up label y rights (givers_among subjects keep)) e → Contains subjects e.0
given_by label y rights subjects keep e has =
    let give : ℕ → ℕ × RightSet = λ x. (x, common rights (label x y)) in
    let kept = Contains-from_filter (λ (d : ℕ × RightSet). not (is_none_held d.1)) (map give (givers_among subjects keep)) e has in
    let from = Contains-from_map give (givers_among subjects keep) e kept.0 in
    let acts = Contains-from_filter (λ (x : ℕ). not (list_any (λ k. k == x) keep)) subjects from.0 from.1 in
    subst (λ (x : ℕ). Contains subjects x) (ap (λ (d : ℕ × RightSet). d.0) from.2) acts.0

-- what the givers hold is the same in both
given_alike : (label other : ℕ → ℕ → RightSet) (y : ℕ) (rights : RightSet) (givers : List ℕ) → ((x : ℕ) → Contains givers x → label x y ≡ other x y) → given_up label y rights givers ≡ given_up other y rights givers
given_alike label other y rights givers same = ap (filter (λ (e : ℕ × RightSet). not (is_none_held e.1))) (each givers same)
  where
    each : (xs : List ℕ) → ((x : ℕ) → Contains xs x → label x y ≡ other x y) → map {B = ℕ × RightSet} (λ x. (x, common rights (label x y))) xs ≡ map {B = ℕ × RightSet} (λ x. (x, common rights (other x y))) xs
    each [] alike = refl
    each (x ∷ xs) alike = λ i. (x, common rights (alike x (Contains-here x xs) i)) ∷ each xs (λ z has. alike z (Contains-more x xs z has)) i

-- what is given up on the content is what is given up on the graph
pub given_on_graph : (c : Content) (g : ProtectionGraph) → IsContentOf c g → (subjects : List ℕ) → g.subjects ≡ subjects → (y : ℕ) (rights : RightSet) (keep : List ℕ)
    → given_up c.label y rights (givers_among subjects keep) ≡ given_up g.label y rights (givers_among g.subjects keep)
given_on_graph c g stands subjects same y rights keep =
    ap (λ (xs : List ℕ). given_up c.label y rights (givers_among xs keep)) (sym same)
    ∙ given_alike c.label g.label y rights (givers_among g.subjects keep)
    (λ x has. stands.labels x y (stands.reachable x (begins (Contains-from_filter (λ z. not (list_any (λ k. k == z) keep)) g.subjects x has).0)))

-- who still holds some is who holds some on the graph after the withdrawal
pub left_reported : (heap : HeapState) (c : Content) (g : ProtectionGraph) → IsContentOf c g → g.subjects ≡ subject_names heap → (target : ℕ) (rights : RightSet) (keep : List ℕ) (w : Withdrawal)
    → w.target ≡ target → w.rights ≡ rights → names_found w.givers.items ≡ givers_among (subject_names heap) keep → (vertices : List (ℕ × Place)) → AreReachedAlong heap (content_left w c) vertices
    → (names : List ℕ) → names ≡ names_sharing w.rights (edges_over (content_left w c).label w.target vertices) → AreHoldersOfSome (withdrawn g target rights keep) rights target names
left_reported heap c g stands same target rights keep w target_is rights_is givers_are vertices reached names are =
    let left : Content = record c { label = labels_left c.label target rights (givers_among g.subjects keep) } in
    let givers : names_found w.givers.items ≡ givers_among g.subjects keep = givers_are ∙ ap (λ (xs : List ℕ). givers_among xs keep) (sym same) in
    let content : content_left w c ≡ left = λ i. record c { label = labels_left c.label (target_is i) (rights_is i) (givers i) } in
    some_holders_are (withdrawn g target rights keep) target (edges_over left.label target vertices)
    (edges_to_are heap left (withdrawn g target rights keep) (stands_left c g stands target rights (givers_among g.subjects keep)) same vertices (subst (λ (k : Content). AreReachedAlong heap k vertices) content reached) target (edges_over left.label target vertices) refl)
    rights names (are ∙ (λ i. names_sharing (rights_is i) (edges_over (content i).label (target_is i) vertices)))

-- ---- a row

-- Of the first edges of a row those that are left were followed.
pub record FollowsLeft (label : ℕ → ℕ → RightSet) (from : ℕ) (row : List (ℕ × RightSet)) (old new : FoundVertices) (n : ℕ) : Type 0 where
  pub more : List (ℕ × Place)
  pub behind : new.vertices.items ≡ old.vertices.items ++ more
  pub only : (x : ℕ) → Contains (names_found more) x → HasEdge label from x
  pub all : (a : ℕ × RightSet) → Contains (take n row) a → HasEdge label from a.0 → Contains (names_found new.vertices.items) a.0

module _ (label : ℕ → ℕ → RightSet) (from : ℕ) (row : List (ℕ × RightSet)) (old : FoundVertices) where
  pub left_begins : FollowsLeft label from row old old 0
  left_begins = record {
    more = [];
    behind = sym (append-nil old.vertices.items);
    only = λ x none. absurd (Contains-none x none);
    all = λ a none edge. absurd (Contains-none a none);
  }

  module _ (now : FoundVertices) (n : ℕ) (a : ℕ × RightSet) (low : n < length row) (here : a ≡ get_or row n a) (so_far : FollowsLeft label from row old now n) where
    taken : take (n + 1) row ≡ take n row ++ a ∷ []
    taken = take_more row n a low ∙ ap (λ (x : ℕ × RightSet). take n row ++ x ∷ []) (sym here)

    pub left_goes : (next : FoundVertices) → HasEdge label from a.0 → FindsMore now next (λ x. x ≡ a.0) → FollowsLeft label from row old next (n + 1)
    left_goes next edge finds = record {
      more = so_far.more ++ finds.more;
      behind = finds.behind ∙ ap (λ (vs : List (ℕ × Place)). vs ++ finds.more) so_far.behind ∙ append_assoc old.vertices.items so_far.more finds.more;
      only = λ x has. ⊎_elim (so_far.only x) (λ new_one. subst (HasEdge label from) (sym (finds.only x new_one)) edge)
          (Contains-append_cases (names_found so_far.more) (names_found finds.more) x
          (subst (λ (xs : List ℕ). Contains xs x) (map-append (λ (v : ℕ × Place). v.0) so_far.more finds.more) has));
      all = λ x has there. ⊎_elim
          (λ was. stays_found now next finds.more finds.behind x.0 (so_far.all x was there))
          (λ (at : a ≡ x). finds.all x.0 (sym (ap (λ (e : ℕ × RightSet). e.0) at)))
          (Contains-push_cases (take n row) a x (subst (λ (xs : List (ℕ × RightSet)). Contains xs x) taken has));
    }

    pub left_skips : is_none_held (label from a.0) ≡ true → FollowsLeft label from row old now (n + 1)
    left_skips gone = record {
      more = so_far.more;
      behind = so_far.behind;
      only = so_far.only;
      all = λ x has there. ⊎_elim
          (λ was. so_far.all x was there)
          (λ (at : a ≡ x). absurd (true≢false (sym (ap (λ (e : ℕ × RightSet). is_none_held (label from e.0)) (sym at) ∙ gone) ∙ there)))
          (Contains-push_cases (take n row) a x (subst (λ (xs : List (ℕ × RightSet)). Contains xs x) taken has));
    }

  -- the whole row, which is the listing of the vertex before
  pub left_found : (whole : ℕ → ℕ → RightSet) (new : FoundVertices) (n made : ℕ) → length row ≤ n → row ≡ listing_of whole made from → ((y : ℕ) → HasEdge label from y → HasEdge whole from y)
      → ((y : ℕ) → HasEdge whole from y → y < made) → FollowsLeft label from row old new n → FindsMore old new (HasEdge label from)
  left_found whole new n made past is before below follows = record {
    more = follows.more;
    behind = follows.behind;
    only = follows.only;
    all = λ x edge.
        let was = before x edge in
        let there : Contains row (x, whole from x) = subst (λ (xs : List (ℕ × RightSet)). Contains xs (x, whole from x)) (sym is) (listed whole made from x (below x was) was) in
        follows.all (x, whole from x) (subst (λ (xs : List (ℕ × RightSet)). Contains xs (x, whole from x)) (sym (take_all n row past)) there) edge;
  }
