-- How many blocks are before each space.
use Rattle.std.proofs.Common.{◌≡◌, ◌≢◌, ℕ, zero, suc, ◌<◌, ◌≤◌, ◌^◌, ◌+◌, ◌-◌, ◌++◌, ◌∷◌, ◌⊎◌, inl, inr, List, [], length, get_or, map, set, replicate, take, drop, sym, ap, subst, arith, ◌∙◌, add-one}
use Rattle.std.proofs.lemmas.List.{get_or-set_other, length-set, length-append, length-map, length-drop, length-take-le, length_push, get_or_append_left, get_or_past, ext_get_or, nil_from_length, get_or-append_right, get_or-map, get_or-drop, get_or-replicate, get_or-set_same, get_or-take, length-replicate, take-set-le, append-nil, drop_all, take_all, take_at}
use Rattle.std.proofs.lemmas.Grind.{get_or_default_zero}
use Rattle.std.proofs.lemmas.List.Elements.{All-drop, All-take}
use Rattle.std.specs.List.{All, sum_by}
use borrow.Rule.Slice.PartMut.{put_mid}
use Rattle.std.proofs.lemmas.Bool.{cases_eq, cases_lt}
use Rattle.tg_block.specs.Cells.{free_block}
use Rattle.tg_space.specs.SpaceList.{SpaceList, BlockList, IsEmptyFrom, IsSpaceList, space_of, block_count, blocks_before, with_block}
use Rattle.tg_space.specs.SpaceTable.{IsPrefixCount}
use Rattle.tg_space.proofs.Flat.{before_few, before_le, before_mono, before_more}
use Rattle.tg_space.proofs.Tables.{space_of-with_block}

-- ---- a space has one more block

module _ (h : SpaceList) (space : ℕ) (low : space < length h) where
  grown : BlockList
  grown = space_of h space ++ free_block ∷ []

  -- up to the space that grew, as many blocks are before each
  before_kept : (k : ℕ) → k ≤ space → blocks_before (with_block h space) k ≡ blocks_before h k
  before_kept k le = ap (sum_by (λ (blocks : BlockList). length blocks)) (take-set-le k h space (space_of h space ++ free_block ∷ []) le)

  long : length (with_block h space) ≡ length h
  long = length-set h space (space_of h space ++ free_block ∷ [])

  one_further : (j : ℕ) → space < suc j → suc j ≤ length h → (space < j → blocks_before (with_block h space) j ≡ blocks_before h j + 1) → blocks_before (with_block h space) (j + 1) ≡ blocks_before h (j + 1) + 1
  one_further j past inside earlier = by_space (cases_eq j space)
    where
      by_space : (j ≡ space) ⊎ (j ≢ space) → blocks_before (with_block h space) (j + 1) ≡ blocks_before h (j + 1) + 1
      by_space (inl here) =
          let one_more : length (space_of (with_block h space) j) ≡ length (space_of h j) + 1 =
          ap (λ n. length (space_of (with_block h space) n)) here ∙ ap (λ (b : BlockList). length b) (space_of-with_block h space low)
          ∙ length_push (space_of h space) free_block ∙ ap (λ n. length (space_of h n) + 1) (sym here) in
          omega (arith, before_kept j (omega (arith, here)), before_more h j (omega (arith, inside)), before_more (with_block h space) j (omega (arith, inside, long)), one_more)
      by_space (inr other) =
          omega (
            arith,
            earlier (omega (arith, past, other)),
            before_more h j (omega (arith, inside)),
            before_more (with_block h space) j (omega (arith, inside, long)),
            ap (λ (b : BlockList). length b) (get_or-set_other h space j (space_of h space ++ free_block ∷ []) [] other),
          )

  -- and after it one more
  before_grown : (k : ℕ) → space < k → k ≤ length h → blocks_before (with_block h space) k ≡ blocks_before h k + 1
  before_grown zero past inside = absurd (omega (arith, past))
  before_grown (suc j) past inside =
      let earlier : space < j → blocks_before (with_block h space) j ≡ blocks_before h j + 1 = λ later. before_grown j later (omega (arith, inside)) in
      let step : blocks_before (with_block h space) (j + 1) ≡ blocks_before h (j + 1) + 1 = one_further j past inside earlier in
      subst (λ n. blocks_before (with_block h space) n ≡ blocks_before h n + 1) (add-one j) step

-- so the count goes on from there
pub count_grown : (h : SpaceList) (space : ℕ) (starts : List ℕ) → space < length h → IsPrefixCount starts h →
    IsPrefixCount (take (space + 1) starts ++ map (λ n. n + 1) (drop (space + 1) starts)) (with_block h space)
count_grown h space starts low count = record {
  long = length-append front (map (λ n. n + 1) back) ∙ omega (arith, short, count.long, length-map back (λ n. n + 1), length-drop (space + 1) starts, low) ∙ ap (λ n. n + 1) (sym (long h space low));
  counts = λ k le. by_space k (omega (arith, le, long h space low)) (cases_lt space k);
}
  where
    front : List ℕ
    front = take (space + 1) starts

    back : List ℕ
    back = drop (space + 1) starts

    short : length front ≡ space + 1
    short = length-take-le (space + 1) starts (omega (arith, low, count.long))

    by_space : (k : ℕ) → k ≤ length h → (space < k) ⊎ (k ≤ space) → get_or (front ++ map (λ n. n + 1) back) k 0 ≡ blocks_before (with_block h space) k
    by_space k le (inl past) =
        let at : space + 1 + (k - (space + 1)) ≡ k = omega (arith, past) in
        let inside : k - (space + 1) < length back = omega (arith, length-drop (space + 1) starts, count.long, le, past) in
        get_or-append_right front (map (λ n. n + 1) back) (space + 1) k 0 short (omega (arith, past))
        ∙ get_or-map (λ n. n + 1) back (k - (space + 1)) 0 0 inside
        ∙ ap (λ n. n + 1) (get_or-drop (space + 1) starts (k - (space + 1)) 0 ∙ ap (λ n. get_or starts n 0) at ∙ count.counts k le)
        ∙ sym (before_grown h space low k past le)
    by_space k le (inr kept) =
        get_or_append_left front (map (λ n. n + 1) back) 0 k (omega (arith, short, kept)) ∙ get_or-take (space + 1) starts k 0 (omega (arith, kept)) ∙ count.counts k le ∙ sym (before_kept h space low k kept)

-- as the code does it: with the part of the count after the space
pub count_put : (h grown : SpaceList) (space : ℕ) (starts now back : List ℕ) (n : ℕ) → grown ≡ with_block h space → space < length h → IsPrefixCount starts h → now ≡ starts → n ≡ length starts →
    back ≡ map (λ k. k + 1) (take (length now - (space + 1)) (drop (space + 1) now)) →
    let put : List ℕ = put_mid (space + 1) (length now - (space + 1)) now back in
    IsPrefixCount (take n (put ++ drop (length put) starts)) grown
count_put h grown space starts now back n grown_is low count same long is =
    let all : take (length starts - (space + 1)) (drop (space + 1) starts) ≡ drop (space + 1) starts = take_all (length starts - (space + 1)) (drop (space + 1) starts) (omega (arith, length-drop (space + 1) starts)) in
    let behind : back ≡ map (λ k. k + 1) (drop (space + 1) starts) = is ∙ ap (λ xs. map (λ k. k + 1) (take (length xs - (space + 1)) (drop (space + 1) xs))) same ∙ ap (map (λ k. k + 1)) all in
    let put : List ℕ = put_mid (space + 1) (length now - (space + 1)) now back in
    let put_is : put ≡ take (space + 1) starts ++ map (λ k. k + 1) (drop (space + 1) starts) =
    ap (λ xs. take (space + 1) xs ++ (back ++ drop (length xs - (space + 1)) (drop (space + 1) xs))) same
    ∙ ap (λ ys. take (space + 1) starts ++ (back ++ ys)) (drop_all (length starts - (space + 1)) (drop (space + 1) starts) (omega (arith, length-drop (space + 1) starts)))
    ∙ ap (λ ys. take (space + 1) starts ++ ys) (append-nil back ∙ behind) in
    let counted = count_grown h space starts low count in
    let whole : length put ≡ n = ap length put_is ∙ counted.long ∙ ap (λ k. k + 1) (length-set h space (space_of h space ++ free_block ∷ [])) ∙ sym count.long ∙ sym long in
    subst (λ g. IsPrefixCount (take n (put ++ drop (length put) starts)) g) (sym grown_is)
    (subst (λ xs. IsPrefixCount xs (with_block h space)) (sym (take_at put (drop (length put) starts) n whole ∙ put_is)) counted)

-- the numbers after a space can be counted on
pub few_behind : (h : SpaceList) (space : ℕ) (starts now : List ℕ) → IsSpaceList h → IsPrefixCount starts h → now ≡ starts → (many : ℕ) →
    All (λ n. n + 1 < 2 ^ 64) (take many (drop (space + 1) now))
few_behind h space starts now is count same many =
    All-take (λ n. n + 1 < 2 ^ 64) many (drop (space + 1) now) (All-drop (λ n. n + 1 < 2 ^ 64) (space + 1) now
    (subst (All (λ n. n + 1 < 2 ^ 64)) (sym same) (λ k d low.
    let at : get_or starts k d ≡ blocks_before h k = get_or_default_zero starts k d low ∙ count.counts k (omega (arith, low, count.long)) in
    omega (arith, at, before_few h is k))))

-- ---- only Old and Aged have blocks

before_nursery : (h : SpaceList) → IsEmptyFrom 2 h → (k : ℕ) → k + 2 ≤ length h → blocks_before h (k + 2) ≡ length (space_of h 0) + length (space_of h 1)
before_nursery h is zero le = omega (arith, before_more h 0 (omega (arith, is.inside)), before_more h 1 (omega (arith, is.inside)))
before_nursery h is (suc k) le =
    let next : suc k + 2 ≡ k + 2 + 1 = omega arith in
    ap (blocks_before h) next
    ∙ omega (arith, before_nursery h is k (omega (arith, le)), before_more h (k + 2) (omega (arith, le)), ap (λ (b : BlockList). length b) (is.empty (k + 2) (omega arith)))

pub count_two : (h : SpaceList) (many total old : ℕ) → IsEmptyFrom 2 h → many ≡ length h + 1 →
    old ≡ length (space_of h 0) → total ≡ old + length (space_of h 1) → IsPrefixCount (set (set (replicate many total) 0 0) 1 old) h
count_two h many total old is is_many is_old is_total = record {
  long = length-set (set (replicate many total) 0 0) 1 old ∙ length-set (replicate many total) 0 0 ∙ length-replicate many total ∙ is_many;
  counts = by_space;
}
  where
    zeroed : List ℕ
    zeroed = set (replicate many total) 0 0

    by_space : (k : ℕ) → k ≤ length h → get_or (set zeroed 1 old) k 0 ≡ blocks_before h k
    by_space zero le =
        get_or-set_other zeroed 1 0 old 0 (omega arith)
        ∙ get_or-set_same (replicate many total) 0 0 0 (omega (arith, length-replicate many total, is_many))
    by_space (suc zero) le =
        get_or-set_same zeroed 1 old 0 (omega (arith, length-set (replicate many total) 0 0, length-replicate many total, is_many, is.inside))
        ∙ omega (arith, is_old, before_more h 0 (omega (arith, is.inside)))
    by_space (suc (suc k)) le =
        let two : k + 2 ≡ suc (suc k) = omega arith in
        get_or-set_other zeroed 1 (suc (suc k)) old 0 (omega arith)
        ∙ get_or-set_other (replicate many total) 0 (suc (suc k)) 0 0 (omega arith)
        ∙ get_or-replicate many (suc (suc k)) total 0 (omega (arith, le, is_many))
        ∙ is_total ∙ omega (arith, is_old, before_nursery h is k (omega (arith, le)), ap (blocks_before h) two)

-- ---- no block behind

-- a space after which all blocks were counted has none
pub empty_behind : (h : SpaceList) (n : ℕ) → n ≤ length h → block_count h ≤ blocks_before h n → IsEmptyFrom n h
empty_behind h n low all = record { inside = low; empty = λ k le. by_place k le (cases_lt k (length h)) }
  where
    by_place : (k : ℕ) → n ≤ k → (k < length h) ⊎ (length h ≤ k) → space_of h k ≡ []
    by_place k le (inl inside) =
        nil_from_length (space_of h k) (omega (arith, all, before_mono h n k le, before_more h k inside, before_le h (k + 1)))
    by_place k le (inr past) = get_or_past h k [] past

-- spaces that all have none
pub all_empty : (h : SpaceList) → ((k : ℕ) → k < length h → space_of h k ≡ []) → h ≡ replicate {A = BlockList} (length h) []
all_empty h each =
    ext_get_or [] h (replicate {A = BlockList} (length h) []) (sym (length-replicate {A = BlockList} (length h) []))
    (λ k low. each k low ∙ sym (get_or-replicate (length h) k [] [] low))
