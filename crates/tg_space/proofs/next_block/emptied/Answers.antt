use Rattle.std.proofs.Common.{◌≡◌, ◌<◌, ◌≤◌, ◌∙◌, ◌⊎◌, [], List, ℕ, ap, arith, inl, inr, length, refl, subst, sym, ⊎_elim}
use Rattle.std.proofs.lemmas.List.{ext_get_or, get_or-replicate, length-replicate}
use Rattle.std.proofs.lemmas.Bool.{cases_lt}
use Rattle.std.proofs.lemmas.List.Elements.{All-replicate}
use Rattle.tg_block.specs.Cells.{IsBlock, cell_of, free_block, free_cell}
use Rattle.tg_space.proofs.next_block.emptied.Goals as goal

pub loop-at-init : goal.loop-at-init
loop-at-init c =
    let is = c.into_cells-cells.ensures.cells in
    record {
      long = c.into_cells-cells.ensures.whole.0;
      free = λ k past inside. ⊎_elim (λ (before : k < 0). absurd (omega arith))
          (λ (behind : c.args.used ≤ k). ap (λ (b : List (List ℕ)). cell_of b k) is ∙ c.requires.free 0 k (omega arith) inside (omega (arith, behind))) past;
    }

-- the cells at the end of the loop
cells_are : (cells : List (List ℕ)) → length cells ≡ 64 → ((k : ℕ) → k < 64 → cell_of cells k ≡ free_cell) → cells ≡ free_block
cells_are cells long free =
    ext_get_or [] cells free_block (long ∙ sym (length-replicate 64 free_cell)) (λ k low.
    let inside : k < 64 = omega (arith, long, low) in free k inside ∙ sym (get_or-replicate 64 k free_cell [] inside))

block_is : IsBlock free_block
block_is = (length-replicate 64 free_cell, All-replicate (λ (words : List ℕ). length words ≡ 8) 64 free_cell refl)

-- each cell is free where the loop has zeroed those that were handed out
all_free : (cells : List (List ℕ)) (used at : ℕ) → used ≤ at → ((k : ℕ) → (k < at) ⊎ (used ≤ k) → k < 64 → cell_of cells k ≡ free_cell) → length cells ≡ 64 → cells ≡ free_block
all_free cells used at end free long =
    cells_are cells long (λ k inside. free k (⊎_elim (λ (low : k < at). inl low) (λ (past : at ≤ k). inr (omega (arith, end, past))) (cases_lt k at)) inside)

pub of-requires : goal.of-requires
of-requires c =
    let is = all_free c.loop-at.cells.items c.args.used c.loop-at.at c.loop-at-test.false c.loop-at.invariant.free c.loop-at.invariant.long in
    subst IsBlock (sym is) block_is

pub returns : goal.returns
returns c = c.of.ensures ∙ all_free c.loop-at.cells.items c.args.used c.loop-at.at c.loop-at-test.false c.loop-at.invariant.free c.loop-at.invariant.long
