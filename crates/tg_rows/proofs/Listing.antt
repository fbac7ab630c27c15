-- The sorted edges of a row are the listing of its vertex.
use Rattle.std.proofs.Common.{◌≡◌, ◌≢◌, ℕ, zero, suc, ◌<◌, ◌≤◌, ◌⊎◌, inl, inr, ◌==◌, not, ◌&&◌, cond, Bool, true, false, List, [], ◌∷◌, ◌++◌, length, get_or, map, refl, sym, ap, subst, arith, ◌∙◌}
use Rattle.std.specs.List.{All, AllPairs, Contains, IsDistinct, filter, range_with_len}
use Rattle.std.specs.List.Sorted.{IsNonDecreasingBy, IsPermutation}
use Rattle.std.proofs.lemmas.Bool.Decides.{Decides-eqb, Decides-like, same_from_decides}
use Rattle.std.proofs.lemmas.List.Elements.{All-contains, All-head, All-tail}
use Rattle.std.proofs.lemmas.List.FromFn.{length-map-range_with_len, get_or-map-range_with_len}
use Rattle.std.proofs.lemmas.List.Kept.{AllPairs-filter}
use Rattle.std.proofs.lemmas.List.Sorted.{Contains-permutation, IsPermutation-map, IsPermutation-sym}
use Rattle.std.proofs.lemmas.List.{get_or-map, length-map}
use Rattle.std.proofs.lemmas.Map.Keys.{IsDistinct-IsPermutation}
use Rattle.std.proofs.lemmas.Map.Made.{AllPairs-from_IsDistinct}
use Rattle.tg_rights.specs.RightSet.{RightSet, is_none_held}
use Rattle.tg_model.specs.Graph.{listing_of}
use Rattle.tg_model.proofs.PlainLaws.{is_subject, is_worker}
use Rattle.tg_word.specs.Word.{rights_in}
use Rattle.tg_space.specs.SpaceList.{SpaceList}
use Rattle.tg_space.specs.Soundness.{IsReference}
use Rattle.tg_rows.specs.Rows.{edges_in, name_in, names_in, rights_to}
use Rattle.tg_rows.proofs.Finding.{referring}
use Rattle.tg_rows.proofs.Members.{All-left, Contains-cases, Contains-filter, Contains-from_filter, Contains-from_map, Contains-here, Contains-map, Contains-more, Contains-none}
use Rattle.tg_rows.proofs.Slots.{IsOther, names_in-some, rights_at, taken_others}

-- ---- rising lists

abbrev Edges : Type 0
Edges = List (ℕ × RightSet)

-- the names rise
abbrev pub IsRising : Edges → Type 0
IsRising es = AllPairs (λ a b. a.0 < b.0) es

rising_head : (e : ℕ × RightSet) (es : Edges) → IsRising (e ∷ es) → (a : ℕ × RightSet) → Contains es a → e.0 < a.0
rising_head e es rises a has = All-contains (λ b. e.0 < b.0) es a (λ k d low. rises zero (suc k) d (omega arith) (omega arith)) has

rising_tail : (e : ℕ × RightSet) (es : Edges) → IsRising (e ∷ es) → IsRising es
rising_tail e es rises = λ i j d lt low. rises (suc i) (suc j) d (omega arith) (omega arith)

-- two rising lists with the same edges are the same
pub same_rising : (xs ys : Edges) → IsRising xs → IsRising ys → ((a : ℕ × RightSet) → Contains xs a → Contains ys a) → ((a : ℕ × RightSet) → Contains ys a → Contains xs a) → xs ≡ ys
same_rising [] [] rx ry there back = refl
same_rising [] (y ∷ ys) rx ry there back = absurd (Contains-none y (back y (Contains-here y ys)))
same_rising (x ∷ xs) [] rx ry there back = absurd (Contains-none x (there x (Contains-here x xs)))
same_rising (x ∷ xs) (y ∷ ys) rx ry there back =
    let same : x ≡ y = first (Contains-cases y ys x (there x (Contains-here x xs))) (Contains-cases x xs y (back y (Contains-here y ys))) in
    let rest : xs ≡ ys = same_rising xs ys (rising_tail x xs rx) (rising_tail y ys ry)
    (λ a has. later_there same a has (Contains-cases y ys a (there a (Contains-more x xs a has))))
    (λ a has. later_back same a has (Contains-cases x xs a (back a (Contains-more y ys a has)))) in
    λ i. same i ∷ rest i
  where
    first : (y ≡ x) ⊎ Contains ys x → (x ≡ y) ⊎ Contains xs y → x ≡ y
    first (inl e) other = sym e
    first (inr later) (inl e) = e
    first (inr later) (inr earlier) =
        let low = rising_head y ys ry x later in
        let high = rising_head x xs rx y earlier in
        absurd (omega arith)

    later_there : x ≡ y → (a : ℕ × RightSet) → Contains xs a → (y ≡ a) ⊎ Contains ys a → Contains ys a
    later_there same a has (inl e) =
        let low = rising_head x xs rx a has in
        let equal : x.0 ≡ a.0 = ap (λ (b : ℕ × RightSet). b.0) (same ∙ e) in
        absurd (omega arith)
    later_there same a has (inr later) = later

    later_back : x ≡ y → (a : ℕ × RightSet) → Contains ys a → (x ≡ a) ⊎ Contains xs a → Contains xs a
    later_back same a has (inl e) =
        let low = rising_head y ys ry a has in
        let equal : y.0 ≡ a.0 = ap (λ (b : ℕ × RightSet). b.0) (sym same ∙ e) in
        absurd (omega arith)
    later_back same a has (inr later) = later

-- names that don't fall and differ rise
pub rising_from_sorted : (es : Edges) → IsNonDecreasingBy (λ e. e.0) es → IsDistinct (λ a b. a == b) (map (λ e. e.0) es) → IsRising es
rising_from_sorted es sorted distinct = λ i j d lt low.
    let le : (get_or es i d).0 ≤ (get_or es j d).0 = sorted i j d (omega arith) low in
    let long : length (map (λ e. e.0) es) ≡ length es = length-map es (λ (e : ℕ × RightSet). e.0) in
    let apart = AllPairs-from_IsDistinct (λ a b. Decides-eqb a b) (map (λ e. e.0) es) distinct i j 0 lt (omega arith) in
    let at_i : get_or (map (λ e. e.0) es) i 0 ≡ (get_or es i d).0 = get_or-map (λ (e : ℕ × RightSet). e.0) es i d 0 (omega arith) in
    let at_j : get_or (map (λ e. e.0) es) j 0 ≡ (get_or es j d).0 = get_or-map (λ (e : ℕ × RightSet). e.0) es j d 0 low in
    let ne : (get_or es i d).0 ≢ (get_or es j d).0 = λ e. apart (at_i ∙ e ∙ sym at_j) in
    omega arith

-- ---- the listing

module _ (label : ℕ → ℕ → RightSet) (n x : ℕ) where
  listing_rises : IsRising (listing_of label n x)
  listing_rises = AllPairs-filter (λ a b. a.0 < b.0) (λ e. not (is_none_held e.1)) (map (λ y. (y, label x y)) (range_with_len 0 n)) range_rises
    where
      range_rises : IsRising (map (λ y. (y, label x y)) (range_with_len 0 n))
      range_rises i j d lt low =
          let edge : ℕ → ℕ × RightSet = λ y. (y, label x y) in
          let long = length-map-range_with_len edge 0 n in
          let at_i : get_or (map edge (range_with_len 0 n)) i d ≡ edge i = get_or-map-range_with_len edge 0 n i i d (omega arith) (omega arith) in
          let at_j : get_or (map edge (range_with_len 0 n)) j d ≡ edge j = get_or-map-range_with_len edge 0 n j j d (omega arith) (omega arith) in
          rw at_i (rw at_j lt)

  pub listed_from : (a : ℕ × RightSet) → Contains (listing_of label n x) a → (a.0 < n) × (a.1 ≡ label x a.0) × (is_none_held a.1 ≡ false)
  listed_from a has =
      let edge : ℕ → ℕ × RightSet = λ y. (y, label x y) in
      let both = Contains-from_filter (λ e. not (is_none_held e.1)) (map edge (range_with_len 0 n)) a has in
      let at = Contains-from_map edge (range_with_len 0 n) a both.0 in
      let low = is_worker n at.0 at.1 in
      let name : at.0 ≡ a.0 = ap (λ (e : ℕ × RightSet). e.0) at.2 in
      let rights : label x at.0 ≡ a.1 = ap (λ (e : ℕ × RightSet). e.1) at.2 in
      (omega arith, sym rights ∙ ap (label x) name, not_none (is_none_held a.1) both.1)
    where
      not_none : (b : Bool) → not b ≡ true → b ≡ false
      not_none true e = sym e
      not_none false e = refl

  pub listed : (y : ℕ) → y < n → is_none_held (label x y) ≡ false → Contains (listing_of label n x) (y, label x y)
  listed y low some =
      let edge : ℕ → ℕ × RightSet = λ y. (y, label x y) in
      Contains-filter (λ e. not (is_none_held e.1)) (map edge (range_with_len 0 n)) (y, label x y) (Contains-map edge (range_with_len 0 n) y (is_subject n y low)) (ap not some)

-- ---- the edges of a row

module _ (h : SpaceList) where
  edge_is : (words : List ℕ) (a : ℕ × RightSet) → Contains (edges_in h words) a → (word : ℕ) × Contains words word × (is_none_held (rights_in word) ≡ false) × ((name_in h word, rights_in word) ≡ a)
  edge_is words a has =
      let at = Contains-from_map (λ word. (name_in h word, rights_in word)) (filter (λ word. not (is_none_held (rights_in word))) words) a has in
      let both = Contains-from_filter (λ word. not (is_none_held (rights_in word))) words at.0 at.1 in
      (at.0, both.0, not_none (is_none_held (rights_in at.0)) both.1, at.2)
    where
      not_none : (b : Bool) → not b ≡ true → b ≡ false
      not_none true e = sym e
      not_none false e = refl

  split_at : (words : List ℕ) (word : ℕ) → Contains words word → (xs : List ℕ) × (ys : List ℕ) × (words ≡ xs ++ word ∷ ys)
  split_at [] word has = absurd (Contains-none word has)
  split_at (w ∷ words) word has = by_case (split_at words word) (Contains-cases w words word has)
    where
      by_case : (Contains words word → (xs : List ℕ) × (ys : List ℕ) × (words ≡ xs ++ word ∷ ys)) → (w ≡ word) ⊎ Contains words word → (xs : List ℕ) × (ys : List ℕ) × (w ∷ words ≡ xs ++ word ∷ ys)
      by_case later (inl e) = ([], words, ap (λ v. v ∷ words) e)
      by_case later (inr has_later) = let rest = later has_later in (w ∷ rest.0, rest.1, ap (λ vs. w ∷ vs) rest.2)

  -- an edge of a row has the rights over its name
  edge_rights : (words : List ℕ) (word : ℕ) → Contains words word → word ≢ 0 → IsDistinct (λ a b. a == b) (names_in h words) → rights_to h (name_in h word) words ≡ rights_in word
  edge_rights words word has some distinct =
      let at = split_at words word has in
      let apart : IsDistinct (λ a b. a == b) (names_in h (at.0 ++ word ∷ at.1)) = subst (λ ws. IsDistinct (λ a b. a == b) (names_in h ws)) at.2 distinct in
      let others = All-left (IsOther h (name_in h word)) at.0 at.1 (taken_others h at.0 at.1 word some apart) in
      ap (rights_to h (name_in h word)) at.2 ∙ rights_at h (name_in h word) word at.0 at.1 others some refl

  -- where there are rights over a name, the row has the edge
  edge_from_rights : (words : List ℕ) (y : ℕ) → is_none_held (rights_to h y words) ≡ false → Contains (edges_in h words) (y, rights_to h y words)
  edge_from_rights [] y some = absurd cc
  edge_from_rights (w ∷ words) y some = by_tests (edge_from_rights words y) (not (w == 0) && (name_in h w == y)) refl (is_none_held (rights_in w)) refl some
    where
      edges : List (ℕ × RightSet)
      edges = edges_in h words

      by_tests : (is_none_held (rights_to h y words) ≡ false → Contains (edges_in h words) (y, rights_to h y words)) →
          (b : Bool) → (not (w == 0) && (name_in h w == y)) ≡ b → (n : Bool) → is_none_held (rights_in w) ≡ n →
          is_none_held (cond b (rights_in w) (rights_to h y words)) ≡ false → Contains (edges_in h (w ∷ words)) (y, cond b (rights_in w) (rights_to h y words))
      by_tests later true t true n held = absurd cc
      by_tests later true t false n held =
          let named : name_in h w ≡ y = (referring h y w t).1 in
          rw n (subst (λ z. Contains ((name_in h w, rights_in w) ∷ edges) (z, rights_in w)) named (Contains-here (name_in h w, rights_in w) edges))
      by_tests later false t true n held = rw n (later held)
      by_tests later false t false n held = rw n (Contains-more (name_in h w, rights_in w) edges (y, rights_to h y words) (later held))

  -- the names of the edges of references are those to which these refer
  edge_names : (words : List ℕ) → All (IsReference h) words → map (λ e. e.0) (edges_in h words) ≡ names_in h words
  edge_names [] all = refl
  edge_names (w ∷ words) all = by_kind (edge_names words (All-tail (IsReference h) w words all)) (All-head (IsReference h) w words all)
    where
      by_kind : map (λ e. e.0) (edges_in h words) ≡ names_in h words → IsReference h w → map (λ e. e.0) (edges_in h (w ∷ words)) ≡ names_in h (w ∷ words)
      by_kind rest (inl zero_word) =
          subst (λ v. map (λ e. e.0) (edges_in h (v ∷ words)) ≡ names_in h (v ∷ words)) (sym zero_word) rest
      by_kind rest (inr refers) =
          let some : w ≢ 0 = λ z. let none : is_none_held (rights_in w) ≡ true = ap (λ v. is_none_held (rights_in v)) z in let held = refers.rights in cc in
          rw refers.rights (ap (λ ns. name_in h w ∷ ns) rest ∙ sym (names_in-some h w words some))

-- the sorted edges of a row are the listing
pub listing_is : (h : SpaceList) (words : List ℕ) (label : ℕ → ℕ → RightSet) (x n : ℕ) (edges : List (ℕ × RightSet)) →
    ((y : ℕ) → label x y ≡ rights_to h y words) → All (IsReference h) words → IsDistinct (λ a b. a == b) (names_in h words) → ((word : ℕ) → Contains words word → word ≢ 0 → name_in h word < n) →
    IsPermutation (edges_in h words) edges → IsNonDecreasingBy (λ e. e.0) edges → edges ≡ listing_of label n x
listing_is h words label x n edges reads all distinct below permuted sorted =
    same_rising edges (listing_of label n x) (rising_from_sorted edges sorted apart) (listing_rises label n x) there back
  where
    apart : IsDistinct (λ a b. a == b) (map (λ e. e.0) edges)
    apart =
        let eq : ℕ → ℕ → Bool = λ a b. a == b in
        let name : ℕ × RightSet → ℕ = λ e. e.0 in
        IsDistinct-IsPermutation eq (λ a b. same_from_decides (a == b) (b == a) (Decides-eqb a b) (Decides-like (b == a) sym sym (Decides-eqb b a))) (map name (edges_in h words)) (map name edges) (IsPermutation-map name (edges_in h words) edges permuted)
        (subst (IsDistinct eq) (sym (edge_names h words all)) distinct)

    there : (a : ℕ × RightSet) → Contains edges a → Contains (listing_of label n x) a
    there a has =
        let at = edge_is h words a (Contains-permutation edges (edges_in h words) a (IsPermutation-sym (edges_in h words) edges permuted) has) in
        let word = at.0 in
        let some : word ≢ 0 = λ z. let none : is_none_held (rights_in word) ≡ true = ap (λ v. is_none_held (rights_in v)) z in let held = at.2 in cc in
        let rights : label x (name_in h word) ≡ rights_in word = reads (name_in h word) ∙ edge_rights h words word at.1 some distinct in
        let found = listed label n x (name_in h word) (below word at.1 some) (ap is_none_held rights ∙ at.2) in
        subst (Contains (listing_of label n x)) (ap (λ r. (name_in h word, r)) rights ∙ at.3) found

    back : (a : ℕ × RightSet) → Contains (listing_of label n x) a → Contains edges a
    back a has =
        let from = listed_from label n x a has in
        let rights : a.1 ≡ rights_to h a.0 words = from.1 ∙ reads a.0 in
        let here : Contains (edges_in h words) (a.0, rights_to h a.0 words) = edge_from_rights h words a.0 (ap is_none_held (sym rights) ∙ from.2) in
        let same : (a.0, rights_to h a.0 words) ≡ a = ap (λ r. (a.0, r)) (sym rights) in
        Contains-permutation (edges_in h words) edges a permuted (subst (Contains (edges_in h words)) same here)
