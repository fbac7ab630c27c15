-- What stays when one cell is written.
use Rattle.std.proofs.Common.{◌≡◌, ◌≢◌, ◌↔◌, ℕ, ◌⊎◌, List, [], length, set, ap, arith, ◌∙◌, inl, inr}
use Rattle.std.proofs.lemmas.List.{length-set}
use Rattle.std.proofs.lemmas.List.Elements.{All-get_or, All-set}
use Rattle.std.proofs.lemmas.Bool.{cases_eq}
use Rattle.tg_word.specs.declared.Place.{Place}
use Rattle.tg_block.specs.Cells.{IsBlock}
use Rattle.tg_space.specs.SpaceList.{SpaceList, IsSpace, IsSpaceList, HasCell, space_of, block_of, cell_at, with_cell_at}
use Rattle.tg_space.proofs.Tables.{same_holds, holds_same, block_whole, shape_cell}
use Rattle.tg_space.proofs.Writing.{cell_written as written_cell, other_cell}

-- two places are the same, or not
pub same_or_other : (p q : Place) → (p ≡ q) ⊎ (p ≢ q)
same_or_other p q = by_numbers (cases_eq p.space q.space) (cases_eq p.block q.block) (cases_eq p.cell q.cell)
  where
    by_numbers : (p.space ≡ q.space) ⊎ (p.space ≢ q.space) → (p.block ≡ q.block) ⊎ (p.block ≢ q.block) → (p.cell ≡ q.cell) ⊎ (p.cell ≢ q.cell) → (p ≡ q) ⊎ (p ≢ q)
    by_numbers (inl s) (inl b) (inl c) = inl (λ i. record { space = s i; block = b i; cell = c i })
    by_numbers (inr s) _ _ = inr (λ e. s (ap (λ (r : Place). r.space) e))
    by_numbers (inl _) (inr b) _ = inr (λ e. b (ap (λ (r : Place). r.block) e))
    by_numbers (inl _) (inl _) (inr c) = inr (λ e. c (ap (λ (r : Place). r.cell) e))

module _ (h : SpaceList) (is : IsSpaceList h) (q : Place) (held : HasCell h q) (words : List ℕ) where
  pub cell_written : cell_at (with_cell_at h q words) q ≡ words
  cell_written = written_cell h q words held (block_whole h q is held)

  pub cell_kept : (p : Place) → p ≢ q → cell_at (with_cell_at h q words) p ≡ cell_at h p
  cell_kept = other_cell h q words held

  pub holds_written : (p : Place) → HasCell (with_cell_at h q words) p ↔ HasCell h p
  holds_written p =
      let shape = shape_cell h q words held in
      (same_holds h (with_cell_at h q words) shape p, holds_same h (with_cell_at h q words) shape p)

  pub list_written : length words ≡ 8 → IsSpaceList (with_cell_at h q words)
  list_written long =
      let block = block_of h q.space q.block in
      let new_block = set block q.cell words in
      let new_space = set (space_of h q.space) q.block new_block in
      let space : IsSpace (space_of h q.space) = All-get_or IsSpace h q.space [] held.space is.spaces in
      let whole : IsBlock block = All-get_or IsBlock (space_of h q.space) q.block [] held.block space.1 in
      let cells : IsBlock new_block = (length-set block q.cell words ∙ whole.0, All-set (λ (ws : List ℕ). length ws ≡ 8) block q.cell words long whole.1) in
      let long_space = length-set (space_of h q.space) q.block new_block in
      let blocks : IsSpace new_space = (let few = space.0 in omega arith, All-set IsBlock (space_of h q.space) q.block new_block cells space.1) in
      record {
        few = let few = is.few in omega (arith, length-set h q.space new_space);
        spaces = All-set IsSpace h q.space new_space blocks is.spaces;
      }
