-- Copies that are one after the other, and copies that name no young cell.
use Rattle.std.proofs.Common.{◌≡◌, ◌≢◌, ℕ, ◌<◌, ◌≤◌, ◌+◌, ◌-◌, ◌*◌, ◌/◌, ◌%◌, ◌^◌, ◌==◌, Bool, true, false, [], List, length, get_or, map, take, drop, replicate, refl, sym, ap, subst, arith, ◌∙◌, lit<, ⊎_elim}
use Rattle.std.specs.List.{All, Contains, flat_map}
use Rattle.std.proofs.lemmas.Bool.{cases_lt}
use Rattle.std.proofs.lemmas.Bool.Decides.{nat_tests}
use Rattle.std.proofs.lemmas.List.{drop_at, get_or-append_right, get_or-map, get_or-replicate, get_or-take, get_or_append_left, get_or_default, get_or_past, length-append, length-map, length-replicate, length-take-le}
use Rattle.std.proofs.lemmas.List.Concat.{get_or-flat_map}
use Rattle.std.proofs.lemmas.List.Elements.{All-contains, All-contains_itself, All-filter, All-get_or, All-take, Contains-get_or}
use Rattle.tg_word.specs.declared.Place.{Place}
use Rattle.tg_word.specs.Word.{IsPlace, place_in, rights_in}
use Rattle.tg_word.proofs.Packing.{place_in-word_at}
use Rattle.tg_block.specs.Cells.{IsBlock, cell_of, free_cell}
use Rattle.tg_space.specs.Collection.{new_place}
use Rattle.tg_space.specs.Generations.{NamesYoung}
use Rattle.tg_space.specs.SpaceList.{SpaceList, BlockList, IsSpaceList, cells_of, flat_of}
use Rattle.tg_space.specs.SpaceTable.{place_in_space}
use Rattle.tg_space.specs.Targets.{cell_numbered, every_space, first_pointer, image_of, moved_word, pointers_of}
use Rattle.tg_space.specs.declared.kind.Kind.TheVariants.{Full}
use Rattle.tg_space.specs.declared.root.Root.{Root}
use Rattle.tg_space.proofs.Flat.{all_cells_whole, length-blocks}
use Rattle.tg_evac.specs.Win.{Win}
use Rattle.tg_evac.specs.Claims.{AreGivenInOrder, AreTraced, IsWonIn, is_in, win_at, won_in}
use Rattle.tg_evac.specs.Copies.{AreOld, HasCopy, HavePlaces, HoldCells, HoldCopies, IsPlaceIn, copy_of, new_cell}
use Rattle.tg_evac.proofs.Adopted.{free_is_not_young}
use Rattle.tg_evac.proofs.Claiming.{in_none, is_in_one, place_back}
use Rattle.tg_evac.proofs.Copying.{filter_has, same_place}
use Rattle.tg_evac.proofs.Reasons.{all_in_old}

-- ---- cells in blocks, one after the other

-- the cell of a block is the one with its number
pub block_cell : (blocks : BlockList) → All IsBlock blocks → (b i : ℕ) → b < length blocks → i < 64 → cell_of (get_or blocks b []) i ≡ get_or (flat_map (λ (block : List (List ℕ)). block) blocks) (64 * b + i) []
block_cell blocks are b i low inside =
    let long : length (get_or blocks b []) ≡ 64 = (All-get_or IsBlock blocks b [] low are).0 in
    let before : length (flat_map (λ (block : List (List ℕ)). block) (take b blocks)) ≡ 64 * b =
    length-blocks (take b blocks) (All-take IsBlock b blocks are) ∙ ap (λ (n : ℕ). 64 * n) (length-take-le b blocks (omega arith)) in
    let at : length (flat_map (λ (block : List (List ℕ)). block) (take b blocks)) + i ≡ 64 * b + i = omega arith in
    sym (ap (λ (n : ℕ). get_or (flat_map (λ (block : List (List ℕ)). block) blocks) n []) (sym at) ∙ get_or-flat_map (λ (block : List (List ℕ)). block) blocks b i [] [] low (omega arith))

module _ (cells : List (List ℕ)) (blocks : BlockList) (hold : HoldCells cells blocks) (are : All IsBlock blocks) where
  -- how many blocks that takes
  pub held_count : 64 * length blocks ≡ length cells + hold.free
  held_count = sym (length-blocks blocks are) ∙ ap length hold.is ∙ length-append cells (replicate hold.free free_cell) ∙ ap (λ (n : ℕ). length cells + n) (length-replicate hold.free free_cell)

  pub held_cell : (b i : ℕ) → b < length blocks → i < 64 → 64 * b + i < length cells → cell_of (get_or blocks b []) i ≡ get_or cells (64 * b + i) []
  held_cell b i low inside below =
      block_cell blocks are b i low inside ∙ ap (λ (cs : List (List ℕ)). get_or cs (64 * b + i) []) hold.is ∙ get_or_append_left cells (replicate hold.free free_cell) [] (64 * b + i) below

  pub held_rest : (b i : ℕ) → b < length blocks → i < 64 → length cells ≤ 64 * b + i → cell_of (get_or blocks b []) i ≡ free_cell
  held_rest b i low inside past =
      let count = held_count in
      block_cell blocks are b i low inside ∙ ap (λ (cs : List (List ℕ)). get_or cs (64 * b + i) []) hold.is
      ∙ get_or-append_right cells (replicate hold.free free_cell) (length cells) (64 * b + i) [] refl past ∙ get_or-replicate hold.free (64 * b + i - length cells) free_cell [] (omega arith)

-- ---- the copies of a space

module _ (to kept : ℕ) (two : to < 2) (won : List Win) (order : AreGivenInOrder to (64 * kept) (won_in to won)) (few : 64 * kept + length (won_in to won) ≤ 2 ^ 26) where
  pub place_at : (k : ℕ) → k < length (won_in to won) → place_in (win_at (won_in to won) k).word ≡ place_in_space to (64 * kept + k)
  place_at k low = ap place_in (order k low) ∙ place_back to (64 * kept + k) two (omega arith)

  module _ (copy : ℕ → List ℕ) (blocks : BlockList) (are : All IsBlock blocks) (hold : HoldCells (map (λ (w : Win). copy w.cell) (won_in to won)) blocks) where
    abbrev cells : List (List ℕ)
    cells = map (λ (w : Win). copy w.cell) (won_in to won)

    long : length cells ≡ length (won_in to won)
    long = length-map (won_in to won) (λ (w : Win). copy w.cell)

    copy_at : (k : ℕ) → k < length (won_in to won) → HasCopy to kept copy blocks (win_at (won_in to won) k)
    copy_at k low =
        let count = held_count cells blocks hold are in let same = long in
        let at : place_in_space to (64 * kept + k) ≡ place_in (win_at (won_in to won) k).word = sym (place_at k low) in
        let block : (64 * kept + k) / 64 - kept ≡ k / 64 = omega arith in
        let cell : (64 * kept + k) % 64 ≡ k % 64 = omega arith in
        let whole : 64 * (k / 64) + k % 64 ≡ k = omega arith in
        record {
          place = subst (λ (p : Place). IsPlaceIn to kept blocks p) at (record { space = refl; behind = omega arith; block = omega arith; cell = omega arith });
          words = ap (λ (p : Place). new_cell kept blocks p) (sym at) ∙ ap (λ (n : ℕ). cell_of (get_or blocks n []) ((64 * kept + k) % 64)) block ∙ ap (λ (n : ℕ). cell_of (get_or blocks (k / 64) []) n) cell
              ∙ held_cell cells blocks hold are (k / 64) (k % 64) (omega arith) (omega arith) (omega arith) ∙ ap (λ (n : ℕ). get_or cells n []) whole
              ∙ get_or-map (λ (w : Win). copy w.cell) (won_in to won) k (win_at [] 0) [] low;
        }

    rest_free : (p : Place) → IsPlaceIn to kept blocks p → ((w : Win) → Contains won w → place_in w.word ≢ p) → new_cell kept blocks p ≡ free_cell
    rest_free p inside apart =
        let cell = inside.cell in let block = inside.block in let behind = inside.behind in let same = long in
        let n : ℕ = 64 * (p.block - kept) + p.cell in
        ⊎_elim
        (λ (low : n < length (won_in to won)).
        let w : Win = win_at (won_in to won) n in
        let held : Contains won w = All-get_or (Contains won) (won_in to won) n (win_at [] 0) low (All-filter (is_in to) (Contains won) won (All-contains_itself won)) in
        let is : place_in_space to (64 * kept + n) ≡ p = same_place (place_in_space to (64 * kept + n)) p (sym inside.space) (omega arith) (omega arith) in
        absurd (apart w held (place_at n low ∙ is)))
        (λ (past : length (won_in to won) ≤ n). held_rest cells blocks hold are (p.block - kept) p.cell block cell (omega arith))
        (cases_lt n (length (won_in to won)))

    pub copies_in_order : HoldCopies to kept copy won blocks
    copies_in_order = record {
      copied = λ w held in_space.
          let there = filter_has (is_in to) won w held (is_in_one to w in_space) in
          subst (λ (v : Win). HasCopy to kept copy blocks v) (get_or_default (won_in to won) there.0 (win_at [] 0) w there.1 ∙ there.2) (copy_at there.0 there.1);
      rest = rest_free;
    }

-- ---- copies in Old that name cells of Old

first_pointer-some : (tag : ℕ) → 0 < first_pointer tag
first_pointer-some tag = grind (arith, nat_tests)

first_pointer-le : (tag : ℕ) → first_pointer tag ≤ 8
first_pointer-le tag = grind (arith, nat_tests)

module _ (h : SpaceList) (forward : List ℕ) (places : HavePlaces forward) (old : AreOld forward) where
  -- the new place of a cell is one of Old, in range
  new_inside : (c : ℕ) → IsPlace (new_place forward c)
  new_inside c = ⊎_elim
      (λ (low : c < length forward). All-get_or (λ (w : ℕ). IsPlace (place_in w)) forward c 0 low places)
      (λ (past : length forward ≤ c). subst (λ (w : ℕ). IsPlace (place_in w)) (sym (get_or_past forward c 0 past)) (record { space = lit< tt; block = lit< tt; cell = lit< tt }))
      (cases_lt c (length forward))

  new_old : (c : ℕ) → (new_place forward c).space ≡ 0
  new_old c = ⊎_elim
      (λ (low : c < length forward). All-get_or (λ (w : ℕ). (place_in w).space ≡ 0) forward c 0 low old)
      (λ (past : length forward ≤ c). ap (λ (w : ℕ). (place_in w).space) (get_or_past forward c 0 past))
      (cases_lt c (length forward))

  -- a moved word names a cell of Old
  moved_old : (word : ℕ) → (place_in (moved_word every_space h (new_place forward) word)).space ≡ 0
  moved_old word = by_test (word == 0) refl
    where
      by_test : (z : Bool) → (word == 0) ≡ z → (place_in (moved_word every_space h (new_place forward) word)).space ≡ 0
      by_test true z = rw z refl
      by_test false z =
          let c = flat_of h (place_in word) in
          rw z (ap (λ (p : Place). p.space) (place_in-word_at (rights_in word) (new_place forward c) (new_inside c)) ∙ new_old c)

  -- so no copy names a young cell
  pub names_none : (words : List ℕ) → length words ≡ 8 → NamesYoung (image_of every_space h (new_place forward) words) → ⊥
  names_none words long names =
      let n = first_pointer (get_or words 0 0) in
      let m = moved_word every_space h (new_place forward) in
      let le = first_pointer-le (get_or words 0 0) in
      let some = first_pointer-some (get_or words 0 0) in
      let at : length (take n words) ≡ n = length-take-le n words (omega arith) in
      let tag : get_or (image_of every_space h (new_place forward) words) 0 0 ≡ get_or words 0 0 =
      get_or_append_left (take n words) (map m (drop n words)) 0 0 (omega arith) ∙ get_or-take n words 0 0 some in
      let rest : pointers_of (image_of every_space h (new_place forward) words) ≡ map m (drop n words) =
      ap (λ (k : ℕ). drop k (image_of every_space h (new_place forward) words)) (ap first_pointer tag) ∙ drop_at (take n words) (map m (drop n words)) n at in
      let held : Contains (map m (drop n words)) names.0 = subst (λ (ws : List ℕ). Contains ws names.0) rest names.1 in
      let low : held.0 < length (drop n words) = rw length-map at held.1 in
      let is : m (get_or (drop n words) held.0 0) ≡ names.0 = sym (get_or-map m (drop n words) held.0 0 0 low) ∙ get_or_default (map m (drop n words)) held.0 0 names.0 held.1 ∙ held.2 in
      names.2 (ap (λ (w : ℕ). (place_in w).space) (sym is) ∙ moved_old (get_or (drop n words) held.0 0))

  -- and neither does a cell of blocks that hold copies
  pub none_young_block : (won : List Win) (blocks : BlockList) → IsSpaceList h → length forward ≡ length (cells_of h) → All (IsWonIn forward) won → HoldCopies 0 0 (copy_of Full h forward) won blocks →
      (p : Place) → IsPlaceIn 0 0 blocks p → NamesYoung (new_cell 0 blocks p) → ⊥
  none_young_block won blocks are whole stand hold p inside names = free_is_not_young (subst (λ (ws : List ℕ). NamesYoung ws) (hold.rest p inside copied) names)
    where
      copied : (w : Win) → Contains won w → place_in w.word ≢ p
      copied w held e =
          let st : IsWonIn forward w = All-contains (IsWonIn forward) won w stand held in
          let low : w.cell < length (cells_of h) = let below = st.cell in omega arith in
          let has = hold.copied w held (ap (λ (q : Place). q.space) e ∙ inside.space) in
          names_none (cell_numbered h w.cell) (All-get_or (λ (ws : List ℕ). length ws ≡ 8) (cells_of h) w.cell [] low (all_cells_whole h are.spaces))
          (subst (λ (ws : List ℕ). NamesYoung ws) (ap (λ (q : Place). new_cell 0 blocks q) (sym e) ∙ has.words) names)

-- none of the pairs of a full collection is in Aged
pub none_in_aged : (h : SpaceList) (roots : List Root) (won : List Win) → AreTraced Full h roots won → length (won_in 1 won) ≡ 0
none_in_aged h roots won traced = ap length (in_none 1 won (λ k d low e. absurd (let z = all_in_old h roots won traced (get_or won k d) (Contains-get_or won k d low) in omega arith)))
