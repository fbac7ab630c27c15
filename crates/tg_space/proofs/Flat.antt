-- The flat numbers of cells.
use Rattle.std.proofs.Common.{◌≡◌, ℕ, ◌<◌, ◌≤◌, ◌+◌, ◌*◌, ◌^◌, List, [], ◌∷◌, length, get_or, take, refl, sym, ap, arith, ◌∙◌, ⊎_elim}
use Rattle.std.specs.List.{All, flat_map, sum_by}
use Rattle.std.proofs.lemmas.List.{length-append, take_all, take-take, length-take-le}
use Rattle.std.proofs.lemmas.Bool.{cases_lt}
use Rattle.std.proofs.lemmas.List.Sums.{sum_by_more, sum_by-take-le, sum_by-le, sum_by-cons}
use Rattle.std.proofs.lemmas.List.Concat.{get_or-flat_map}
use Rattle.std.proofs.lemmas.List.Elements.{All-nil, All-append, All-get_or, All-take, All-tail, All-head, All-weaker}
use Rattle.tg_word.specs.declared.Place.{Place}
use Rattle.tg_word.specs.declared.TheConstants.{SPACES}
use Rattle.tg_block.specs.Cells.{IsBlock}
use Rattle.tg_space.specs.SpaceList.{SpaceList, BlockList, IsSpace, IsSpaceList, HasCell, space_of, cell_at, blocks_before, block_count, flat_of, cells_of}

-- a list of blocks has 64 cells a block
pub length-blocks : (blocks : BlockList) → All IsBlock blocks → length (flat_map (λ (b : List (List ℕ)). b) blocks) ≡ 64 * length blocks
length-blocks [] are = refl
length-blocks (b ∷ bs) are =
    let head : length b ≡ 64 = (All-head IsBlock b bs are).0 in
    let rest = length-blocks bs (All-tail IsBlock b bs are) in
    omega (arith, length-append b (flat_map (λ (x : List (List ℕ)). x) bs))

pub length-cells_of : (h : SpaceList) → All IsSpace h → length (cells_of h) ≡ 64 * sum_by (λ (s : BlockList). length s) h
length-cells_of [] are = refl
length-cells_of (s ∷ h) are =
    let head = length-blocks s (All-head IsSpace s h are).1 in
    let rest = length-cells_of h (All-tail IsSpace s h are) in
    omega (arith, length-append (flat_map (λ (x : List (List ℕ)). x) s) (cells_of h), sum_by-cons (λ (x : BlockList). length x) s h)

-- each space ends where the next begins
pub before_more : (h : SpaceList) (n : ℕ) → n < length h → blocks_before h (n + 1) ≡ blocks_before h n + length (space_of h n)
before_more h n inside = sum_by_more (λ (x : BlockList). length x) h n [] inside

pub before_le : (h : SpaceList) (n : ℕ) → blocks_before h n ≤ block_count h
before_le h n = sum_by-take-le (λ (x : BlockList). length x) h n

pub before_mono : (h : SpaceList) (a b : ℕ) → a ≤ b → blocks_before h a ≤ blocks_before h b
before_mono h a b le =
    rw (take-take a b h le) at (sum_by-take-le (λ (x : BlockList). length x) (take b h) a)

module _ (h : SpaceList) (are : All IsSpace h) where
  pub flat_inside : (p : Place) → HasCell h p → flat_of h p < length (cells_of h)
  flat_inside p holds =
      omega (arith, before_more h p.space holds.space, before_le h (p.space + 1), length-cells_of h are)

  pub get_or-flat_of : (p : Place) → HasCell h p → get_or (cells_of h) (flat_of h p) [] ≡ cell_at h p
  get_or-flat_of p holds =
      let blocks = space_of h p.space in
      let shape : All IsBlock blocks = (All-get_or IsSpace h p.space [] holds.space are).1 in
      let before : length (cells_of (take p.space h)) ≡ 64 * blocks_before h p.space = length-cells_of (take p.space h) (All-take IsSpace p.space h are) in
      let before_block : length (flat_map (λ (b : List (List ℕ)). b) (take p.block blocks)) ≡ 64 * p.block =
      length-blocks (take p.block blocks) (All-take IsBlock p.block blocks shape) ∙ ap (λ n. 64 * n) (length-take-le p.block blocks (omega arith)) in
      let whole : length (flat_map (λ (b : List (List ℕ)). b) blocks) ≡ 64 * length blocks = length-blocks blocks shape in
      let long : length (get_or blocks p.block []) ≡ 64 = (All-get_or IsBlock blocks p.block [] holds.block shape).0 in
      let outer = get_or-flat_map (λ (s : BlockList). flat_map (λ (b : List (List ℕ)). b) s) h p.space (64 * p.block + p.cell) [] [] holds.space (omega arith) in
      let inner = get_or-flat_map (λ (b : List (List ℕ)). b) blocks p.block p.cell [] [] holds.block (omega arith) in
      let at_outer : flat_of h p ≡ length (cells_of (take p.space h)) + (64 * p.block + p.cell) = omega arith in
      let at_inner : 64 * p.block + p.cell ≡ length (flat_map (λ (b : List (List ℕ)). b) (take p.block blocks)) + p.cell = omega arith in
      ap (λ n. get_or (cells_of h) n []) at_outer ∙ outer ∙ ap (λ n. get_or (flat_map (λ (b : List (List ℕ)). b) blocks) n []) at_inner ∙ inner

  -- a number is in the space whose blocks reach over it, and in no other
  same_space : (p q : Place) → HasCell h p → HasCell h q → flat_of h p ≡ flat_of h q → p.space < q.space → ⊥
  same_space p q hp hq e lt =
      omega (arith, before_mono h (p.space + 1) q.space (omega arith), before_more h p.space hp.space)

  pub same_place : (p q : Place) → HasCell h p → HasCell h q → flat_of h p ≡ flat_of h q → p ≡ q
  same_place p q hp hq e =
      let le : p.space ≤ q.space = ⊎_elim (λ g. absurd (same_space q p hq hp (sym e) g)) (λ l. l) (cases_lt q.space p.space) in
      let ge : q.space ≤ p.space = ⊎_elim (λ g. absurd (same_space p q hp hq e g)) (λ l. l) (cases_lt p.space q.space) in
      let space : p.space ≡ q.space = omega arith in
      let before = ap (blocks_before h) space in
      let block : p.block ≡ q.block = omega arith in
      let cell : p.cell ≡ q.cell = omega arith in
      let made : Place = record { space = p.space; block = p.block; cell = p.cell } in
      let e : made ≡ q = rw (space, block, cell) in
      e

-- a sum over the first spaces stays small
pub before_few : (h : SpaceList) → IsSpaceList h → (n : ℕ) → blocks_before h n ≤ SPACES * 2 ^ 20
before_few h is n =
    let each : All (λ (s : BlockList). length s ≤ 2 ^ 20) h = All-weaker IsSpace (λ (s : BlockList). length s ≤ 2 ^ 20) (λ s q. q.0) h is.spaces in
    let whole = sum_by-le (λ (x : BlockList). length x) (2 ^ 20) h each in
    omega (arith, before_le h n, is.few)

pub blocks_all : (h : SpaceList) (n : ℕ) → length h ≤ n → blocks_before h n ≡ sum_by (λ (x : BlockList). length x) h
blocks_all h n le = ap (sum_by (λ (x : BlockList). length x)) (take_all n h le)

-- each cell has 8 words
all_block_cells : (blocks : BlockList) → All IsBlock blocks → All (λ (words : List ℕ). length words ≡ 8) (flat_map (λ (b : List (List ℕ)). b) blocks)
all_block_cells [] are = All-nil (λ (words : List ℕ). length words ≡ 8)
all_block_cells (b ∷ bs) are =
    All-append (λ (words : List ℕ). length words ≡ 8) b (flat_map (λ (x : List (List ℕ)). x) bs)
    (All-head IsBlock b bs are).1 (all_block_cells bs (All-tail IsBlock b bs are))

pub all_cells_whole : (h : SpaceList) → All IsSpace h → All (λ (words : List ℕ). length words ≡ 8) (cells_of h)
all_cells_whole [] are = All-nil (λ (words : List ℕ). length words ≡ 8)
all_cells_whole (s ∷ h) are =
    All-append (λ (words : List ℕ). length words ≡ 8) (flat_map (λ (x : List (List ℕ)). x) s) (cells_of h)
    (all_block_cells s (All-head IsSpace s h are).1) (all_cells_whole h (All-tail IsSpace s h are))
