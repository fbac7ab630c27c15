-- Chains of chunks, and rows: an object and the chunks to which its link leads.
use Rattle.std.proofs.Common.{◌≡◌, ◌≢◌, ℕ, zero, suc, ◌<◌, ◌≤◌, ◌-◌, ◌⊎◌, ◌==◌, inl, inr, true, false, List, [], ◌∷◌, length, get_or, map, refl, sym, ap, subst, arith, ◌∙◌, ⊎_elim}
use Rattle.std.specs.List.{All, IsDistinct, flat_map, list_any}
use Rattle.std.proofs.lemmas.Bool.{cases_Bool, eqb-true}
use Rattle.std.proofs.lemmas.Bool.Decides.{eqb_tells}
use Rattle.std.proofs.lemmas.List.{get_or-map, length-map}
use Rattle.std.proofs.lemmas.List.Elements.{All-nil, All-cons, All-head, All-tail, All-append}
use Rattle.std.proofs.lemmas.Map.Keys.{IsDistinct-from_apart}
use Rattle.std.proofs.lemmas.Map.Steps.{length-le_from_distinct_below}
use Rattle.tg_word.specs.declared.Place.{Place}
use Rattle.tg_word.specs.Word.{place_in}
use Rattle.tg_block.specs.declared.CellKind.TheVariants.{Object, Chunk}
use Rattle.tg_space.specs.SpaceList.{SpaceList, IsSpaceList, HasCell, cell_at, cells_of, flat_of}
use Rattle.tg_space.specs.Soundness.{AreSound, IsKindAt, IsReference}
use Rattle.tg_space.specs.declared.root.Root.{Root}
use Rattle.tg_space.proofs.Flat.{flat_inside, same_place}
use Rattle.tg_rows.specs.Rows.{IsChain, references_of, row_words}
use Rattle.tg_space.specs.Rows.{chunks_from, link_at, row_of}
use Rattle.tg_rows.proofs.Places.{links_apart}
use Rattle.tg_rows.proofs.Layouts.{apart_kinds, link_some, references_at, same_link}

-- ---- one step

pub record Step (h : SpaceList) (left word : ℕ) : Type 0 where
  pub some : 0 < left
  pub chunk : IsKindAt h Chunk (place_in word)
  pub is : chunks_from h left word ≡ place_in word ∷ chunks_from h (left - 1) (link_at h (place_in word))
  pub ends : IsChain h (link_at h (place_in word)) (chunks_from h (left - 1) (link_at h (place_in word)))

pub chain_none : (h : SpaceList) (left : ℕ) → chunks_from h left 0 ≡ []
chain_none h zero = refl
chain_none h (suc n) = refl

pub chain_more : (h : SpaceList) (left word : ℕ) → word ≢ 0 → chunks_from h (suc left) word ≡ place_in word ∷ chunks_from h left (link_at h (place_in word))
chain_more h left word some =
    let test : (word == 0) ≡ false = ⊎_elim (λ t. absurd (some t.1)) (λ f. f.0) (eqb_tells word 0) in rw test refl

pub chain_step : (h : SpaceList) (left word : ℕ) → word ≢ 0 → IsChain h word (chunks_from h left word) → Step h left word
chain_step h zero word some ends = absurd (some ends)
chain_step h (suc n) word some ends =
    let one = chain_more h n word some in
    let parts : IsChain h word (place_in word ∷ chunks_from h n (link_at h (place_in word))) = subst (IsChain h word) one ends in
    let less : suc n - 1 ≡ n = omega arith in
    record {
      some = omega arith;
      chunk = parts.2;
      is = one ∙ ap (λ k. place_in word ∷ chunks_from h k (link_at h (place_in word))) (sym less);
      ends = subst (λ k. IsChain h (link_at h (place_in word)) (chunks_from h k (link_at h (place_in word)))) (sym less) parts.3;
    }

-- ---- chains are determined

pub chain_enough : (h : SpaceList) (ps : List Place) (link left : ℕ) → IsChain h link ps → length ps ≤ left → chunks_from h left link ≡ ps
chain_enough h [] link left ends le = ap (chunks_from h left) ends ∙ chain_none h left
chain_enough h (p ∷ ps) link zero ends le = absurd (omega arith)
chain_enough h (p ∷ ps) link (suc n) ends le =
    chain_more h n link ends.0 ∙ ap (λ q. q ∷ chunks_from h n (link_at h q)) ends.1 ∙ ap (λ qs. p ∷ qs) (chain_enough h ps (link_at h p) n ends.3 (omega arith))

pub chain_same : (h : SpaceList) (ps qs : List Place) (link : ℕ) → IsChain h link ps → IsChain h link qs → ps ≡ qs
chain_same h [] [] link one two = refl
chain_same h [] (q ∷ qs) link one two = absurd (two.0 one)
chain_same h (p ∷ ps) [] link one two = absurd (one.0 two)
chain_same h (p ∷ ps) (q ∷ qs) link one two =
    let same : p ≡ q = sym one.1 ∙ two.1 in
    let rest = chain_same h ps qs (link_at h p) one.3 (subst (λ r. IsChain h (link_at h r) qs) (sym same) two.3) in
    ap (λ r. r ∷ ps) same ∙ ap (λ rs. q ∷ rs) rest

-- each cell of a chain is a chunk
pub chain_chunks : (h : SpaceList) (ps : List Place) (link : ℕ) → IsChain h link ps → All (IsKindAt h Chunk) ps
chain_chunks h [] link ends = All-nil (IsKindAt h Chunk)
chain_chunks h (p ∷ ps) link ends =
    All-cons (IsKindAt h Chunk) p ps ends.2 (chain_chunks h ps (link_at h p) ends.3)

-- a cell of a row, but its first, is named by the link of the one before
record Follows (h : SpaceList) (before at : Place) : Type 0 where
  some : link_at h before ≢ 0
  to : place_in (link_at h before) ≡ at
  chunk : IsKindAt h Chunk at

chain_follows : (h : SpaceList) (p : Place) (ps : List Place) → IsChain h (link_at h p) ps → (k : ℕ) (d : Place) → k < length ps → Follows h (get_or (p ∷ ps) k d) (get_or ps k d)
chain_follows h p [] ends k d low = absurd (omega arith)
chain_follows h p (q ∷ qs) ends zero d low = record { some = ends.0; to = ends.1; chunk = ends.2 }
chain_follows h p (q ∷ qs) ends (suc k) d low = chain_follows h q qs ends.3 k d (omega arith)

-- the cells of a row are held
pub row_held : (h : SpaceList) (p : Place) (ps : List Place) → IsKindAt h Object p → IsChain h (link_at h p) ps → All (HasCell h) (p ∷ ps)
row_held h p ps object ends =
    All-cons (HasCell h) p ps object.held (λ k d low. (chain_chunks h ps (link_at h p) ends k d low).held)

below_from_any : (xs : List ℕ) (n : ℕ) → All (λ x. x < n) xs → (q : ℕ) → list_any (λ x. q == x) xs ≡ true → q < n
below_from_any [] n all q has = absurd cc
below_from_any (x ∷ xs) n all q has = by_test (cases_Bool (q == x)) (below_from_any xs n (All-tail (λ y. y < n) x xs all) q)
  where
    by_test : ((q == x) ≡ true) ⊎ ((q == x) ≡ false) → (list_any (λ y. q == y) xs ≡ true → q < n) → q < n
    by_test (inl t) _ =
        let low : x < n = All-head (λ y. y < n) x xs all in
        let same : q ≡ x = eqb-true q x t in
        omega arith
    by_test (inr f) rest = rest (rw f at has)

-- ---- rows of sound spaces

module _ (h : SpaceList) (is : IsSpaceList h) (roots : List Root) (sound : AreSound h roots) where
  -- cells that are named by the links of two held cells are the same only where those are
  same_before : (a b at : Place) → HasCell h a → HasCell h b → Follows h a at → Follows h b at → a ≡ b
  same_before a b at held_a held_b one two =
      links_apart h is roots sound a b held_a held_b one.some
      (same_link h (link_at h a) (link_at h b) (link_some h is roots sound a held_a one.some) (link_some h is roots sound b held_b two.some) (one.to ∙ sym two.to))

  -- a cell is in one row, once
  pub row_apart : (p q : Place) (ps qs : List Place) → IsKindAt h Object p → IsKindAt h Object q → IsChain h (link_at h p) ps → IsChain h (link_at h q) qs → (k j : ℕ) (d : Place) →
      k < length (p ∷ ps) → j < length (q ∷ qs) → get_or (p ∷ ps) k d ≡ get_or (q ∷ qs) j d → (p ≡ q) × (k ≡ j)
  row_apart p q ps qs op oq ep eq zero zero d lk lj same = (same, refl)
  row_apart p q ps qs op oq ep eq zero (suc j) d lk lj same =
      let next = chain_follows h q qs eq j d (omega arith) in
      absurd (apart_kinds h p op (subst (IsKindAt h Chunk) (sym same) next.chunk))
  row_apart p q ps qs op oq ep eq (suc k) zero d lk lj same =
      let next = chain_follows h p ps ep k d (omega arith) in
      absurd (apart_kinds h q oq (subst (IsKindAt h Chunk) same next.chunk))
  row_apart p q ps qs op oq ep eq (suc k) (suc j) d lk lj same =
      let low_k : k < length ps = omega arith in
      let low_j : j < length qs = omega arith in
      let one = chain_follows h p ps ep k d low_k in
      let two = subst (λ (r : Place). Follows h (get_or (q ∷ qs) j d) r) (sym same) (chain_follows h q qs eq j d low_j) in
      let held_k = row_held h p ps op ep k d (omega arith) in
      let held_j = row_held h q qs oq eq j d (omega arith) in
      let before = same_before (get_or (p ∷ ps) k d) (get_or (q ∷ qs) j d) (get_or ps k d) held_k held_j one two in
      let rest = row_apart p q ps qs op oq ep eq k j d (omega arith) (omega arith) before in
      (rest.0, ap suc rest.1)

  -- a chain has fewer cells than there are
  pub chain_short : (p : Place) (ps : List Place) → IsKindAt h Object p → IsChain h (link_at h p) ps → length ps < length (cells_of h)
  chain_short p ps object ends =
      let row = p ∷ ps in
      let numbers = map (flat_of h) row in
      let long : length numbers ≡ length row = length-map row (flat_of h) in
      let below : All (λ (n : ℕ). n < length (cells_of h)) numbers = (λ k d low.
      let inside : k < length row = omega arith in
      subst (λ (n : ℕ). n < length (cells_of h)) (sym (get_or-map (flat_of h) row k p d inside))
      (flat_inside h is.spaces (get_or row k p) (row_held h p ps object ends k p inside))) in
      let apart : IsDistinct (λ (a b : ℕ). a == b) numbers = IsDistinct-from_apart (λ (a b : ℕ). a == b) numbers (λ i j d less low.
      let low_j : j < length row = omega arith in
      let low_i : i < length row = omega arith in
      let at_i = get_or-map (flat_of h) row i p d low_i in
      let at_j = get_or-map (flat_of h) row j p d low_j in
      ⊎_elim
      (λ t.
      let same = same_place h is.spaces (get_or row i p) (get_or row j p) (row_held h p ps object ends i p low_i) (row_held h p ps object ends j p low_j) (sym at_i ∙ t.1 ∙ at_j) in
      let one : i ≡ j = (row_apart p p ps ps object object ends ends i j p low_i low_j same).1 in
      absurd (omega arith))
      (λ f. f.0) (eqb_tells (get_or numbers i d) (get_or numbers j d))) in
      let few = length-le_from_distinct_below numbers (length (cells_of h)) apart (below_from_any numbers (length (cells_of h)) below) in
      omega arith

  -- so there is fuel enough for it
  pub chain_whole : (p : Place) (ps : List Place) → IsKindAt h Object p → IsChain h (link_at h p) ps → chunks_from h (length (cells_of h)) (link_at h p) ≡ ps
  chain_whole p ps object ends = chain_enough h ps (link_at h p) (length (cells_of h)) ends (let short = chain_short p ps object ends in omega arith)

  all_references : (ps : List Place) → All (HasCell h) ps → All (IsReference h) (flat_map (λ q. references_of (cell_at h q)) ps)
  all_references [] held = All-nil (IsReference h)
  all_references (p ∷ ps) held =
      All-append (IsReference h) (references_of (cell_at h p)) (flat_map (λ q. references_of (cell_at h q)) ps)
      (references_at h is roots sound p (All-head (HasCell h) p ps held)) (all_references ps (All-tail (HasCell h) p ps held))

  pub row_references : (p : Place) → IsKindAt h Object p → IsChain h (link_at h p) (chunks_from h (length (cells_of h)) (link_at h p)) → All (IsReference h) (row_words h p)
  row_references p object ends = all_references (row_of h p) (row_held h p (chunks_from h (length (cells_of h)) (link_at h p)) object ends)
