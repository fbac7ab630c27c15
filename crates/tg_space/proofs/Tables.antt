-- What changes keep of a table of spaces.
use Rattle.std.proofs.Common.{◌≡◌, ◌≢◌, ℕ, zero, suc, ◌<◌, ◌≤◌, ◌+◌, ◌*◌, ◌^◌, ◌/◌, ◌++◌, ◌∷◌, ◌⊎◌, inl, inr, ◌-◌, List, [], length, get_or, set, replicate, take, drop, refl, sym, ap, subst, arith, ◌∙◌, ⊎_elim, add-one}
use Rattle.std.specs.List.{All}
use Rattle.std.proofs.lemmas.List.{get_or-set_same, get_or-set_other, length-set, get_or_read, length_push, get_or_push, get_or_append_left, get_or-replicate, get_or_past, length-replicate, take_at}
use Rattle.std.proofs.lemmas.List.Elements.{All-get_or, All-set, All-cons, All-nil, All-replicate}
use Rattle.std.proofs.lemmas.Bool.{cases_eq, cases_lt}
use Rattle.tg_word.specs.declared.Place.{Place}
use Rattle.tg_word.specs.declared.TheConstants.{SPACES}
use Rattle.tg_block.specs.Cells.{IsBlock, free_cell, free_block, cell_of}
use Rattle.tg_space.specs.SpaceList.{SpaceList, BlockList, IsEmptyFrom, IsSpace, IsSpaceList, HasCell, space_of, block_of, cell_at, blocks_before, block_count, with_cell_at, with_word_at, with_block, flat_of, cells_of}
use Rattle.tg_space.specs.declared.kind.Kind.TheVariants.{Full, Nursery}
use Rattle.tg_space.specs.declared.limits.Limits.{Limits}
use Rattle.tg_space.specs.SpaceTable.{SpaceTable, adopted, with_adopted, IsFreeBehind, IsSpaceTable, IsPrefixCount, IsHandedOut, used_of, number_in_space, with_spaces}
use Rattle.tg_space.proofs.Flat.{before_more, before_few, blocks_all, flat_inside, get_or-flat_of, length-cells_of}
use Rattle.tg_space.proofs.Writing.{other_cell}

-- two lists of spaces with as many blocks in each space
pub record SameShape (a b : SpaceList) : Type 0 where
  pub long : length b ≡ length a
  pub blocks : (space : ℕ) → length (space_of b space) ≡ length (space_of a space)

same_before : (a b : SpaceList) → SameShape a b → (space : ℕ) → space ≤ length a → blocks_before b space ≡ blocks_before a space
same_before a b same zero le = refl
same_before a b same (suc k) le =
    let step : blocks_before b (k + 1) ≡ blocks_before a (k + 1) =
    omega (arith, same_before a b same k (omega arith), before_more a k (omega arith), before_more b k (omega (arith, same.long)), same.blocks k) in
    subst (λ (n : ℕ). blocks_before b n ≡ blocks_before a n) (add-one k) step

pub same_starts : (starts : List ℕ) (a b : SpaceList) → SameShape a b → IsPrefixCount starts a → IsPrefixCount starts b
same_starts starts a b same count = record {
  long = count.long ∙ ap (λ (n : ℕ). n + 1) (sym same.long);
  counts = λ space le. let inside : space ≤ length a = omega (arith, same.long) in count.counts space inside ∙ sym (same_before a b same space inside);
}

pub same_holds : (a b : SpaceList) → SameShape a b → (p : Place) → HasCell b p → HasCell a p
same_holds a b same p holds = record {
  space = omega (arith, same.long, holds.space);
  block = omega (arith, same.blocks p.space, holds.block);
  cell = holds.cell;
}

pub holds_same : (a b : SpaceList) → SameShape a b → (p : Place) → HasCell a p → HasCell b p
holds_same a b same p holds = record {
  space = omega (arith, same.long, holds.space);
  block = omega (arith, same.blocks p.space, holds.block);
  cell = holds.cell;
}

-- the block of a held cell has 64 cells
pub block_whole : (h : SpaceList) (p : Place) → IsSpaceList h → HasCell h p → p.cell < length (block_of h p.space p.block)
block_whole h p is holds =
    let blocks : All IsBlock (space_of h p.space) = (All-get_or IsSpace h p.space [] holds.space is.spaces).1 in
    let long : length (block_of h p.space p.block) ≡ 64 = (All-get_or IsBlock (space_of h p.space) p.block [] holds.block blocks).0 in
    omega (arith, holds.cell)

-- a write of a cell keeps the shape
pub shape_cell : (h : SpaceList) (p : Place) (words : List ℕ) → HasCell h p → SameShape h (with_cell_at h p words)
shape_cell h p words holds = record {
  long = length-set h p.space new_space;
  blocks = λ space. by_space space (cases_eq space p.space);
}
  where
    new_space : BlockList
    new_space = set (space_of h p.space) p.block (set (block_of h p.space p.block) p.cell words)

    by_space : (space : ℕ) → (space ≡ p.space) ⊎ (space ≢ p.space) → length (space_of (set h p.space new_space) space) ≡ length (space_of h space)
    by_space space (inl same) =
        ap (λ (s : ℕ). length (space_of (set h p.space new_space) s)) same
        ∙ ap (λ (blocks : BlockList). length blocks) (get_or-set_same h p.space new_space [] holds.space)
        ∙ length-set (space_of h p.space) p.block (set (block_of h p.space p.block) p.cell words)
        ∙ ap (λ (s : ℕ). length (space_of h s)) (sym same)
    by_space space (inr other) = ap (λ (blocks : BlockList). length blocks) (get_or-set_other h p.space space new_space [] other)

-- and so does one of a word
pub shape_written : (h : SpaceList) (p : Place) (i word : ℕ) → HasCell h p → SameShape h (with_word_at h p i word)
shape_written h p i word = shape_cell h p (set (cell_at h p) i word)

-- a write to a cell that was handed out keeps a table of spaces
pub table_cell : (t : SpaceTable) (p : Place) (words : List ℕ) → IsSpaceTable t → HasCell t.spaces p → IsHandedOut t p → All IsSpace (with_cell_at t.spaces p words) → IsSpaceTable (with_spaces t (with_cell_at t.spaces p words))
table_cell t p words is holds handed whole =
    let shape = shape_cell t.spaces p words holds in
    record {
      enough = omega (arith, shape.long, is.enough);
      few = omega (arith, shape.long, is.few);
      blocks = whole;
      counted = is.counted ∙ sym shape.long;
      within = λ space inside. omega (arith, shape.blocks space, is.within space (omega (arith, shape.long)));
      fresh = λ q held young unused.
          let before = same_holds t.spaces (with_cell_at t.spaces p words) shape q held in
          let apart : q ≢ p = λ same.
          let used_q : number_in_space q < used_of t q.space = subst (λ (r : Place). number_in_space r < used_of t r.space) (sym same) (handed (subst (λ (r : Place). 2 ≤ r.space) same young)) in
          omega arith in
          other_cell t.spaces p words holds q apart ∙ is.fresh q before young unused;
    }

pub table_list : (t : SpaceTable) → IsSpaceTable t → IsSpaceList t.spaces
table_list t is = record { few = is.few; spaces = is.blocks }

-- what a reader of a table knows of a place in it, whose space begins with block `start`
pub record FlatFacts (h : SpaceList) (p : Place) (start : ℕ) : Type 0 where
  pub starts : start ≡ blocks_before h p.space
  pub inside : flat_of h p < length (cells_of h)
  pub few : length (cells_of h) ≤ SPACES * 2 ^ 26

pub count_few : (t : SpaceTable) → IsSpaceTable t → block_count t.spaces ≤ SPACES * 2 ^ 20
count_few t is =
    omega (arith, before_few t.spaces (table_list t is) (length t.spaces), blocks_all t.spaces (length t.spaces) (omega arith))

pub flat_facts : (t now : SpaceTable) (starts : List ℕ) (p : Place) (start : ℕ) → t ≡ now → IsSpaceTable t × IsPrefixCount starts t.spaces → HasCell now.spaces p → start ≡ get_or starts p.space start → FlatFacts now.spaces p start
flat_facts t now starts p start same is holds read =
    let held : HasCell t.spaces p = subst (λ (x : SpaceTable). HasCell x.spaces p) (sym same) holds in
    let table : IsSpaceTable now = subst (λ (x : SpaceTable). IsSpaceTable x) same is.0 in
    record {
      starts = get_or_read starts p.space start (omega (arith, is.1.long, held.space)) read 0 ∙ is.1.counts p.space (omega (arith, held.space)) ∙ ap (λ (x : SpaceTable). blocks_before x.spaces p.space) same;
      inside = flat_inside now.spaces table.blocks p holds;
      few = omega (arith, length-cells_of now.spaces table.blocks, count_few now table);
    }

pub flat_facts_at : (t now : SpaceTable) (starts : List ℕ) (p : Place) (start n : ℕ) → t ≡ now → IsSpaceTable t × IsPrefixCount starts t.spaces → HasCell now.spaces p → n ≡ p.space → start ≡ get_or starts n start → FlatFacts now.spaces p start
flat_facts_at t now starts p start n same is holds space read = flat_facts t now starts p start same is holds (subst (λ (m : ℕ). start ≡ get_or starts m start) space read)

-- the words of a cell that are read from its space are those that are numbered among all cells
pub numbered_is : (t now : SpaceTable) (p : Place) (blocks : BlockList) (words : List ℕ) → t ≡ now → IsSpaceTable t → HasCell now.spaces p → blocks ≡ get_or t.spaces p.space blocks → words ≡ cell_of (get_or blocks p.block []) p.cell
    → words ≡ get_or (cells_of now.spaces) (flat_of now.spaces p) []
numbered_is t now p blocks words same is holds read cell =
    let held : HasCell t.spaces p = subst (λ (x : SpaceTable). HasCell x.spaces p) (sym same) holds in
    let table : IsSpaceTable now = subst (λ (x : SpaceTable). IsSpaceTable x) same is in
    let space : blocks ≡ space_of now.spaces p.space = get_or_read t.spaces p.space blocks held.space read [] ∙ ap (λ (x : SpaceTable). space_of x.spaces p.space) same in
    cell ∙ ap (λ (s : BlockList). cell_of (get_or s p.block []) p.cell) space ∙ sym (get_or-flat_of now.spaces table.blocks p holds)

-- what is so of a nursery that hands out its next cell
pub record NextCell (t now : SpaceTable) (space count : ℕ) : Type 0 where
  pub table : IsSpaceTable now
  pub counted : length t.used ≡ length t.spaces
  pub low : space < length t.spaces
  pub counts : count ≡ used_of now space

pub next_cell : (t now : SpaceTable) (space count : ℕ) → t ≡ now → IsSpaceTable t → space < length now.spaces → count ≡ get_or t.used space count → NextCell t now space count
next_cell t now space count same is inside read =
    let low : space < length t.spaces = subst (λ (x : SpaceTable). space < length x.spaces) (sym same) inside in
    record {
      table = subst (λ (x : SpaceTable). IsSpaceTable x) same is;
      counted = is.counted;
      low = low;
      counts = get_or_read t.used space count (omega (arith, is.counted)) read 0 ∙ ap (λ (x : SpaceTable). used_of x space) same;
    }

-- the table with the words of one cell written over, as a call left the cell's space
pub cell_put : (t now : SpaceTable) (starts : List ℕ) (p : Place) (blocks left : BlockList) (words : List (List ℕ) → List ℕ) → t ≡ now → IsSpaceTable t × IsPrefixCount starts t.spaces → HasCell now.spaces p → IsHandedOut now p
    → blocks ≡ get_or t.spaces p.space blocks → left ≡ set blocks p.block (set (get_or blocks p.block []) p.cell (words (get_or blocks p.block []))) → IsSpace left
    → IsSpaceTable (with_spaces t (set t.spaces p.space left)) × IsPrefixCount starts (set t.spaces p.space left)
cell_put t now starts p blocks left words same is holds handed read changed whole =
    let held : HasCell t.spaces p = subst (λ (x : SpaceTable). HasCell x.spaces p) (sym same) holds in
    let handed_out : IsHandedOut t p = subst (λ (x : SpaceTable). IsHandedOut x p) (sym same) handed in
    let space : blocks ≡ space_of t.spaces p.space = get_or_read t.spaces p.space blocks held.space read [] in
    let written : List ℕ = words (block_of t.spaces p.space p.block) in
    let put : set t.spaces p.space left ≡ with_cell_at t.spaces p written =
    ap (set t.spaces p.space) (changed ∙ ap (λ (s : BlockList). set s p.block (set (get_or s p.block []) p.cell (words (get_or s p.block [])))) space) in
    let sound : All IsSpace (with_cell_at t.spaces p written) = subst (λ (h : SpaceList). All IsSpace h) put (All-set IsSpace t.spaces p.space left whole is.0.blocks) in
    subst (λ (h : SpaceList). IsSpaceTable (with_spaces t h) × IsPrefixCount starts h) (sym put) (
      table_cell t p written is.0 held handed_out sound,
      same_starts starts t.spaces (with_cell_at t.spaces p written) (shape_cell t.spaces p written held) is.1,
    )

-- the search for the space of a number stops before the last space
pub search_goes_on : (t now : SpaceTable) (starts : List ℕ) (number space : ℕ) → t ≡ now → IsSpaceTable t × IsPrefixCount starts t.spaces → number < length (cells_of now.spaces) → space < length t.spaces → get_or starts (space + 1) 0 ≤ number / 64 → space + 1 < length t.spaces
search_goes_on t now starts number space same is inside low before = by_place (cases_lt (space + 1) (length t.spaces))
  where
    by_place : (space + 1 < length t.spaces) ⊎ (length t.spaces ≤ space + 1) → space + 1 < length t.spaces
    by_place (inl more) = more
    by_place (inr last) =
        let table : IsSpaceTable now = subst (λ (x : SpaceTable). IsSpaceTable x) same is.0 in
        absurd (omega (arith, is.1.counts (space + 1) (omega arith), blocks_all t.spaces (space + 1) last, length-cells_of now.spaces table.blocks, ap (λ (x : SpaceTable). block_count x.spaces) same))

-- one more block of free cells
module _ (h : SpaceList) (space : ℕ) (low : space < length h) where
  abbrev grown : BlockList
  grown = space_of h space ++ free_block ∷ []

  pub space_of-with_block : space_of (with_block h space) space ≡ grown
  space_of-with_block = get_or-set_same h space grown [] low

  pub length-with_block : (s : ℕ) → length (space_of h s) ≤ length (space_of (with_block h space) s)
  length-with_block s = by_space (cases_eq s space)
    where
      by_space : (s ≡ space) ⊎ (s ≢ space) → length (space_of h s) ≤ length (space_of (with_block h space) s)
      by_space (inl same) =
          let long : length (space_of (with_block h space) s) ≡ length grown = ap (λ (k : ℕ). length (space_of (with_block h space) k)) same ∙ ap (λ (b : BlockList). length b) space_of-with_block in
          omega (arith, long, length_push (space_of h space) free_block, ap (λ (k : ℕ). length (space_of h k)) same)
      by_space (inr other) = omega (arith, ap (λ (b : BlockList). length b) (get_or-set_other h space s grown [] other))

  -- a cell of the grown heap is a cell of the one before, or a free cell
  pub cell_at-with_block : (p : Place) → HasCell (with_block h space) p → (HasCell h p × (cell_at (with_block h space) p ≡ cell_at h p)) ⊎ (cell_at (with_block h space) p ≡ free_cell)
  cell_at-with_block p holds = by_space (cases_eq p.space space)
    where
      in_space : space_of (with_block h space) p.space ≡ grown → p.space ≡ space → (p.block < length (space_of h space)) ⊎ (length (space_of h space) ≤ p.block) → (HasCell h p × (cell_at (with_block h space) p ≡ cell_at h p)) ⊎ (cell_at (with_block h space) p ≡ free_cell)
      in_space here same (inl below) =
          inl (
            record { space = omega arith; block = omega (arith, ap (λ (k : ℕ). length (space_of h k)) same); cell = holds.cell },
            ap (λ (b : BlockList). cell_of (get_or b p.block []) p.cell) here
                ∙ ap (λ (b : List (List ℕ)). cell_of b p.cell) (get_or_append_left (space_of h space) (free_block ∷ []) [] p.block below)
                ∙ ap (λ (k : ℕ). cell_of (block_of h k p.block) p.cell) (sym same),
          )
      in_space here same (inr last) =
          let long = length_push (space_of h space) free_block in
          let at : length (space_of h space) ≡ p.block = omega (arith, holds.block, ap (λ (b : BlockList). length b) here) in
          inr
          (ap (λ (b : BlockList). cell_of (get_or b p.block []) p.cell) here
          ∙ ap (λ (b : List (List ℕ)). cell_of b p.cell) (get_or_push (space_of h space) free_block [] p.block at)
          ∙ get_or-replicate 64 p.cell free_cell [] holds.cell)

      by_space : (p.space ≡ space) ⊎ (p.space ≢ space) → (HasCell h p × (cell_at (with_block h space) p ≡ cell_at h p)) ⊎ (cell_at (with_block h space) p ≡ free_cell)
      by_space (inl same) =
          in_space (ap (λ (k : ℕ). space_of (with_block h space) k) same ∙ space_of-with_block) same (cases_lt p.block (length (space_of h space)))
      by_space (inr other) =
          let kept : space_of (with_block h space) p.space ≡ space_of h p.space = get_or-set_other h space p.space grown [] other in
          inl (
            record { space = omega (arith, holds.space, length-set h space grown); block = omega (arith, holds.block, ap (λ (b : BlockList). length b) kept); cell = holds.cell },
            ap (λ (b : BlockList). cell_of (get_or b p.block []) p.cell) kept,
          )

  -- a cell of the heap before stays as it was
  pub kept-with_block : (p : Place) → HasCell h p → HasCell (with_block h space) p × (cell_at (with_block h space) p ≡ cell_at h p)
  kept-with_block p holds = by_space (cases_eq p.space space)
    where
      by_space : (p.space ≡ space) ⊎ (p.space ≢ space) → HasCell (with_block h space) p × (cell_at (with_block h space) p ≡ cell_at h p)
      by_space (inl same) =
          let here : space_of (with_block h space) p.space ≡ grown = ap (λ (k : ℕ). space_of (with_block h space) k) same ∙ space_of-with_block in
          let below : p.block < length (space_of h space) = omega (arith, holds.block, ap (λ (k : ℕ). length (space_of h k)) same) in (
            record { space = omega (arith, holds.space, length-set h space grown); block = omega (arith, holds.block, length-with_block p.space); cell = holds.cell },
            ap (λ (b : BlockList). cell_of (get_or b p.block []) p.cell) here
                ∙ ap (λ (b : List (List ℕ)). cell_of b p.cell) (get_or_append_left (space_of h space) (free_block ∷ []) [] p.block below)
                ∙ ap (λ (k : ℕ). cell_of (block_of h k p.block) p.cell) (sym same),
          )
      by_space (inr other) =
          let kept : space_of (with_block h space) p.space ≡ space_of h p.space = get_or-set_other h space p.space grown [] other in (
            record { space = omega (arith, holds.space, length-set h space grown); block = omega (arith, holds.block, ap (λ (b : BlockList). length b) kept); cell = holds.cell },
            ap (λ (b : BlockList). cell_of (get_or b p.block []) p.cell) kept,
          )

pub table_grown : (t : SpaceTable) (space : ℕ) → IsSpaceTable t → space < length t.spaces → All IsSpace (with_block t.spaces space) → IsSpaceTable (with_spaces t (with_block t.spaces space))
table_grown t space is low whole =
    let long : length (with_block t.spaces space) ≡ length t.spaces = length-set t.spaces space (grown t.spaces space low) in
    record {
      enough = omega (arith, long, is.enough);
      few = omega (arith, long, is.few);
      blocks = whole;
      counted = is.counted ∙ sym long;
      within = λ s inside. omega (arith, is.within s (omega (arith, long)), length-with_block t.spaces space low s);
      fresh = λ p held young unused. ⊎_elim (λ old. old.1 ∙ is.fresh p old.0 young unused) (λ free. free) (cell_at-with_block t.spaces space low p held);
    }

-- the cells of a nursery that were not handed out are free
pub free_behind : (t : SpaceTable) (space : ℕ) → IsSpaceTable t → 2 ≤ space → space < length t.spaces → IsFreeBehind (used_of t space) (space_of t.spaces space)
free_behind t space is young inside = record {
  within = is.within space inside;
  free = λ block cell held small past. let p : Place = record { space = space; block = block; cell = cell } in is.fresh p (record { space = inside; block = held; cell = small }) young past;
}

-- a nursery collection leaves as many spaces
pub adopted_long : (h : SpaceList) (aged old : BlockList) → 2 ≤ length h → length (adopted Nursery h aged old) ≡ length h
adopted_long h aged old enough = let rest : length (replicate {A = BlockList} (length h - 2) []) ≡ length h - 2 = length-replicate (length h - 2) [] in omega arith

-- a nursery collection's new blocks are put in place, whatever the spaces were
put_in_place : (t : SpaceTable) (aged old : BlockList) → 3 ≤ length t.spaces → length t.spaces ≤ SPACES → IsSpace (space_of t.spaces 0 ++ old) → IsSpace aged → IsSpaceTable (with_adopted t Nursery aged old)
put_in_place t aged old enough few grown_is is_aged = record {
  enough = omega (arith, long);
  few = omega (arith, long);
  blocks = All-cons IsSpace (space_of t.spaces 0 ++ old) (aged ∷ replicate (length t.spaces - 2) []) grown_is (All-cons IsSpace aged (replicate (length t.spaces - 2) []) is_aged (All-replicate IsSpace (length t.spaces - 2) [] (omega arith, All-nil IsBlock)));
  counted = length-replicate (length t.spaces) 0 ∙ sym long;
  within = λ space low. rw (unused space) (omega arith);
  fresh = λ p holds nursery past. absurd (no_block p holds nursery);
}
  where
    long : length (adopted Nursery t.spaces aged old) ≡ length t.spaces
    long = adopted_long t.spaces aged old (omega arith)

    unused : (space : ℕ) → used_of (with_adopted t Nursery aged old) space ≡ 0
    unused space = ⊎_elim (λ (low : space < length t.spaces). get_or-replicate (length t.spaces) space 0 0 low) (λ (past : length t.spaces ≤ space). get_or_past (replicate (length t.spaces) 0) space 0 (rw (length-replicate {A = ℕ} (length t.spaces) 0) past)) (cases_lt space (length t.spaces))

    no_block : (p : Place) → HasCell (adopted Nursery t.spaces aged old) p → 2 ≤ p.space → ⊥
    no_block p holds nursery =
        let none : (k : ℕ) → get_or (replicate {A = BlockList} (length t.spaces - 2) []) k [] ≡ [] = λ k. ⊎_elim
        (λ (low : k < length t.spaces - 2). get_or-replicate (length t.spaces - 2) k [] [] low)
        (λ (past : length t.spaces - 2 ≤ k). get_or_past (replicate {A = BlockList} (length t.spaces - 2) []) k [] (rw (length-replicate {A = BlockList} (length t.spaces - 2) []) past))
        (cases_lt k (length t.spaces - 2)) in
        by_space p.space refl none holds nursery
      where
        by_space : (n : ℕ) → p.space ≡ n → ((k : ℕ) → get_or (replicate {A = BlockList} (length t.spaces - 2) []) k [] ≡ []) → HasCell (adopted Nursery t.spaces aged old) p → 2 ≤ p.space → ⊥
        by_space zero is none holds nursery = absurd (omega arith)
        by_space (suc zero) is none holds nursery = absurd (omega arith)
        by_space (suc (suc k)) is none holds nursery =
            let at : space_of (adopted Nursery t.spaces aged old) p.space ≡ [] = ap (space_of (adopted Nursery t.spaces aged old)) is ∙ none k in
            let low : p.block < 0 = subst (λ (blocks : BlockList). p.block < length blocks) at holds.block in
            omega arith

-- and so they are of a table
pub table_adopted : (t : SpaceTable) (aged old : BlockList) → IsSpaceTable t → IsSpace (space_of t.spaces 0 ++ old) → IsSpace aged → IsSpaceTable (with_adopted t Nursery aged old)
table_adopted t aged old table = put_in_place t aged old table.enough table.few

-- Old alone has blocks, of so many spaces
old_alone : (limits : Limits) (old : BlockList) (n : ℕ) → IsSpace old → 3 ≤ n → n ≤ SPACES →
    IsSpaceTable (record { spaces = old ∷ [] ∷ replicate (n - 2) []; used = replicate n 0; limits = limits })
old_alone limits old n is_old some few =
    let none : SpaceList = replicate (n - 2) [] in
    let rest : length none ≡ n - 2 = length-replicate (n - 2) [] in
    let before : SpaceList = [] ∷ [] ∷ none in
    let long : length before ≡ n = omega (arith, rest) in
    subst (λ (k : ℕ). IsSpaceTable (record { spaces = old ∷ [] ∷ replicate (k - 2) []; used = replicate k 0; limits = limits })) long
    (put_in_place (record { spaces = before; used = []; limits = limits }) [] old (omega (arith, long)) (omega (arith, long)) is_old (omega arith, All-nil IsBlock))

-- a full collection's blocks are put in place
pub table_kept : (t : SpaceTable) (old : BlockList) → IsSpaceTable t → IsSpace old → IsSpaceTable (with_adopted t Full [] old)
table_kept t old table is_old =
    let n : ℕ = length t.spaces in
    let enough = table.enough in
    let one_more : suc (n - 2) ≡ n - 1 = omega arith in
    subst (λ (k : ℕ). IsSpaceTable (record { spaces = old ∷ replicate k []; used = replicate n 0; limits = t.limits })) one_more
    (old_alone t.limits old n is_old enough table.few)

-- and leaves as many spaces
pub kept_long : (h : SpaceList) (old : BlockList) → 2 ≤ length h → length (adopted Full h [] old) ≡ length h
kept_long h old enough = let rest : length (replicate {A = BlockList} (length h - 1) []) ≡ length h - 1 = length-replicate (length h - 1) [] in omega arith

-- ---- after a collection only Old and Aged have blocks

no_block_behind : (n k : ℕ) → get_or (replicate {A = BlockList} n []) k [] ≡ []
no_block_behind n k =
    ⊎_elim (λ (low : k < n). get_or-replicate n k [] [] low)
    (λ (past : n ≤ k). get_or_past (replicate {A = BlockList} n []) k [] (rw (length-replicate {A = BlockList} n []) past)) (cases_lt k n)

pub nurseries_adopted : (h : SpaceList) (aged old : BlockList) → 2 ≤ length h → IsEmptyFrom 2 (adopted Nursery h aged old)
nurseries_adopted h aged old enough = record { inside = omega (arith, adopted_long h aged old enough, enough); empty = by_space }
  where
    by_space : (space : ℕ) → 2 ≤ space → space_of (adopted Nursery h aged old) space ≡ []
    by_space zero le = absurd (omega (arith, le))
    by_space (suc zero) le = absurd (omega (arith, le))
    by_space (suc (suc k)) le = no_block_behind (length h - 2) k

pub nurseries_kept : (h : SpaceList) (old : BlockList) → 2 ≤ length h → IsEmptyFrom 2 (adopted Full h [] old)
nurseries_kept h old enough = record { inside = omega (arith, kept_long h old enough, enough); empty = by_space }
  where
    by_space : (space : ℕ) → 2 ≤ space → space_of (adopted Full h [] old) space ≡ []
    by_space zero le = absurd (omega (arith, le))
    by_space (suc k) le = no_block_behind (length h - 1) k

-- as the code has it: the spaces that were put in, in the place of as many
pub put_alone_is : (h now : SpaceList) (old : BlockList) (n : ℕ) → 3 ≤ length h → n ≡ length h → now ≡ adopted Full h [] old → take n (now ++ drop (length now) h) ≡ adopted Full h [] old
put_alone_is h now old n enough long is = take_at now (drop (length now) h) n (ap length is ∙ kept_long h old (omega (arith, enough)) ∙ sym long) ∙ is

pub put_behind_is : (h now : SpaceList) (aged old : BlockList) (n : ℕ) → 3 ≤ length h → n ≡ length h → now ≡ adopted Nursery h aged old → take n (now ++ drop (length now) h) ≡ adopted Nursery h aged old
put_behind_is h now aged old n enough long is = take_at now (drop (length now) h) n (ap length is ∙ adopted_long h aged old (omega (arith, enough)) ∙ sym long) ∙ is

-- the table with one more block, as a call left its space
pub record BlockAdded (t : SpaceTable) (space : ℕ) (left : BlockList) : Type 0 where
  pub low : space < length t.spaces
  pub changed : set t.spaces space left ≡ with_block t.spaces space
  pub table : IsSpaceTable (with_spaces t (set t.spaces space left))

pub block_added : (t now : SpaceTable) (space : ℕ) (blocks left : BlockList) → t ≡ now → IsSpaceTable t → space < length now.spaces → blocks ≡ get_or t.spaces space blocks → left ≡ blocks ++ free_block ∷ [] → IsSpace left → BlockAdded t space left
block_added t now space blocks left same is inside read added whole =
    let low : space < length t.spaces = subst (λ (x : SpaceTable). space < length x.spaces) (sym same) inside in
    let before : blocks ≡ space_of t.spaces space = get_or_read t.spaces space blocks low read [] in
    let changed : set t.spaces space left ≡ with_block t.spaces space = ap (set t.spaces space) (added ∙ ap (λ (s : BlockList). s ++ free_block ∷ []) before) in
    let sound : All IsSpace (with_block t.spaces space) = subst (λ (h : SpaceList). All IsSpace h) changed (All-set IsSpace t.spaces space left whole is.blocks) in
    record { low = low; changed = changed; table = subst (λ (h : SpaceList). IsSpaceTable (with_spaces t h)) (sym changed) (table_grown t space is low sound) }

-- a table whose spaces became those of another table with as many, and were counted anew
pub counted_anew : (t after : SpaceTable) (starts counted : List ℕ) (n : ℕ) (left : SpaceList) (used : List ℕ) → IsPrefixCount starts t.spaces → n ≡ length starts → length after.spaces ≡ length t.spaces → IsSpaceTable after → left ≡ after.spaces → used ≡ after.used → IsPrefixCount counted left
    → IsSpaceTable (record { spaces = left; used = used; limits = after.limits }) × IsPrefixCount (take n (counted ++ drop (length counted) starts)) left
counted_anew t after starts counted n left used before as_many long table same same_used counts =
    let as_long : length counted ≡ n = omega (arith, counts.long, before.long, ap length same) in
    let spaces : IsSpaceTable (record { spaces = left; used = after.used; limits = after.limits }) = subst (λ (h : SpaceList). IsSpaceTable (record { spaces = h; used = after.used; limits = after.limits })) (sym same) table in (
      subst (λ (u : List ℕ). IsSpaceTable (record { spaces = left; used = u; limits = after.limits })) (sym same_used) spaces,
      subst (λ (s : List ℕ). IsPrefixCount s left) (sym (take_at counted (drop (length counted) starts) n as_long)) counts,
    )
