-- What a write leaves.
use Rattle.std.proofs.Common.{◌≡◌, ◌≢◌, ℕ, ◌<◌, ◌⊎◌, List, [], length, get_or, set, sym, ap, ◌∙◌, inl, inr, ⊎_elim}
use Rattle.std.proofs.lemmas.List.{get_or-set_same, get_or-set_other}
use Rattle.std.proofs.lemmas.Bool.{cases_eq}
use Rattle.tg_word.specs.declared.Place.{Place}
use Rattle.tg_block.specs.Cells.{cell_of}
use Rattle.tg_space.specs.SpaceList.{SpaceList, BlockList, HasCell, space_of, cell_at, with_cell_at, with_word_at}

module _ (h : SpaceList) (p : Place) (words : List ℕ) (holds : HasCell h p) where
  abbrev block : List (List ℕ)
  block = get_or (space_of h p.space) p.block []

  abbrev new_space : BlockList
  new_space = set (space_of h p.space) p.block (set block p.cell words)

  space_same : space_of (with_cell_at h p words) p.space ≡ new_space
  space_same = get_or-set_same h p.space new_space [] holds.space

  block_same : get_or new_space p.block [] ≡ set block p.cell words
  block_same = get_or-set_same (space_of h p.space) p.block (set block p.cell words) [] holds.block

  -- the cell that was written, where the block is whole
  pub cell_written : p.cell < length block → cell_at (with_cell_at h p words) p ≡ words
  cell_written inside =
      ap (λ (s : BlockList). cell_of (get_or s p.block []) p.cell) space_same ∙ ap (λ (b : List (List ℕ)). cell_of b p.cell) block_same ∙
      get_or-set_same block p.cell words [] inside

  -- every other cell
  pub other_cell : (q : Place) → q ≢ p → cell_at (with_cell_at h p words) q ≡ cell_at h q
  other_cell q ne = ⊎_elim in_space (λ d. ap (λ (s : BlockList). cell_of (get_or s q.block []) q.cell) (get_or-set_other h p.space q.space new_space [] d)) (cases_eq q.space p.space)
    where
      in_block : q.space ≡ p.space → q.block ≡ p.block → (q.cell ≡ p.cell) ⊎ (q.cell ≢ p.cell) → cell_of (get_or new_space p.block []) q.cell ≡ cell_of block q.cell
      in_block es eb (inl ec) = absurd (ne (let made : Place = record { space = q.space; block = q.block; cell = q.cell } in let e : made ≡ p = rw (es, eb, ec) in e))
      in_block es eb (inr d) = ap (λ (b : List (List ℕ)). cell_of b q.cell) block_same ∙ get_or-set_other block p.cell q.cell words [] d

      by_block : q.space ≡ p.space → (q.block ≡ p.block) ⊎ (q.block ≢ p.block) → cell_of (get_or new_space q.block []) q.cell ≡ cell_of (get_or (space_of h p.space) q.block []) q.cell
      by_block es (inl eb) =
          ap (λ b. cell_of (get_or new_space b []) q.cell) eb ∙ in_block es eb (cases_eq q.cell p.cell) ∙ ap (λ b. cell_of (get_or (space_of h p.space) b []) q.cell) (sym eb)
      by_block es (inr d) = ap (λ (b : List (List ℕ)). cell_of b q.cell) (get_or-set_other (space_of h p.space) p.block q.block (set block p.cell words) [] d)

      in_space : q.space ≡ p.space → cell_at (with_cell_at h p words) q ≡ cell_at h q
      in_space es =
          ap (λ s. cell_of (get_or (space_of (with_cell_at h p words) s) q.block []) q.cell) es ∙
          ap (λ (s : BlockList). cell_of (get_or s q.block []) q.cell) space_same ∙ by_block es (cases_eq q.block p.block) ∙
          ap (λ s. cell_of (get_or (space_of h s) q.block []) q.cell) (sym es)

-- a write of one word is one of its cell
module _ (h : SpaceList) (p : Place) (i word : ℕ) (holds : HasCell h p) where
  pub written : p.cell < length (get_or (space_of h p.space) p.block []) → cell_at (with_word_at h p i word) p ≡ set (cell_at h p) i word
  written = cell_written h p (set (cell_at h p) i word) holds

  pub kept_cell : (q : Place) → q ≢ p → cell_at (with_word_at h p i word) q ≡ cell_at h q
  kept_cell = other_cell h p (set (cell_at h p) i word) holds
