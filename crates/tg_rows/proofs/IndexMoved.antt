-- A collection of either kind leaves the names of a row's index, and moves its cells.
use Rattle.std.proofs.Common.{◌≡◌, ◌≢◌, ℕ, ◌<◌, ◌≤◌, ◌⊎◌, ◌==◌, inl, inr, Bool, true, false, cond, List, Some, None, length, get_or, map, refl, sym, ap, subst, arith, ◌∙◌, ⊎_elim}
use Rattle.std.proofs.lemmas.Bool.{cases_lt}
use Rattle.std.proofs.lemmas.Bool.Decides.{eqb_tells}
use Rattle.std.proofs.lemmas.List.{get_or-map, get_or_past, length-map}
use Rattle.tg_word.specs.declared.Place.{Place}
use Rattle.tg_block.specs.Cells.{kind_of}
use Rattle.tg_block.specs.declared.CellKind.TheVariants.{Object}
use Rattle.tg_space.specs.SpaceList.{SpaceList, IsSpaceList, cell_at, cells_of}
use Rattle.tg_space.specs.Soundness.{IsKindAt, IsReference}
use Rattle.tg_space.specs.Targets.{moved_word}
use Rattle.tg_space.specs.Rows.{chunks_from, link_at, row_of}
use Rattle.tg_index.specs.Slots.{Slots}
use Rattle.tg_space.specs.Numbering.{moved_place}
use Rattle.tg_rows.specs.Index.{IsRowIndex, row_slots, name_referred}
use Rattle.tg_rows.specs.Rows.{IsChain, name_in, row_words, words_of}
use Rattle.tg_rows.specs.Graph.{IsGraph}
use Rattle.tg_rows.specs.Steps.{KeepsRows}
use Rattle.tg_payload.specs.Table.{Payloads}
use Rattle.tg_rows.proofs.IndexKept.{index_same, index_stays}
use Rattle.tg_rows.proofs.KeptCells.{IsKeptWord, Moves}
use Rattle.tg_rows.proofs.KeptRows.{IsKeptRow, row_kept, same_name, words_after}

module _ {from : ℕ → Bool} {h after : SpaceList} {to : ℕ → Place} {kept : Place → Type 0} (move : Moves from h after to kept) where
  -- a moved word names what it named
  slot_moved : (word : ℕ) → IsKeptWord move word → IsReference h word → name_referred after (moved_word from h to word) ≡ name_referred h word
  slot_moved word keep reference = by_test (eqb_tells word 0)
    where
      by_test : ((word == 0) ≡ true) × (word ≡ 0) ⊎ ((word == 0) ≡ false) × (word ≢ 0) → name_referred after (moved_word from h to word) ≡ name_referred h word
      by_test (inl z) = subst (λ (x : ℕ). name_referred after (moved_word from h to x) ≡ name_referred h x) (sym z.1) refl
      by_test (inr n) =
          let still : (moved_word from h to word == 0) ≡ false = ⊎_elim (λ (z : (moved_word from h to word == 0 ≡ true) × (moved_word from h to word ≡ 0)). absurd ((keep n.1).1.some z.1)) (λ f. f.0) (eqb_tells (moved_word from h to word) 0) in
          ap (λ (b : Bool). cond b None (Some (name_in after (moved_word from h to word)))) still ∙ ap (λ (k : ℕ). Some k) (same_name move word keep reference n.1)
          ∙ ap (λ (b : Bool). cond b None (Some (name_in h word))) (sym n.0)

  -- the index of a kept object's row is that of its copy's, with the cells moved
  pub moved_index : (p : Place) → kept p → kind_of (cell_at h p) ≡ Object → IsChain h (link_at h p) (chunks_from h (length (cells_of h)) (link_at h p)) → (s : Slots) (places : List Place) → IsRowIndex h p s places →
      IsRowIndex after (moved_place from h to p) s (map (moved_place from h to) places)
  moved_index p keep object ends s places index = record {
    names = index_same s (row_slots h p) (row_slots after (moved_place from h to p)) slots index.names;
    cells = ap (map (moved_place from h to)) index.cells ∙ sym row.row;
    len = index.len ∙ sym (length-map (row_words h p) (moved_word from h to)) ∙ ap (λ (ws : List ℕ). length ws) (sym words);
  }
    where
      row : IsKeptRow move p
      row = row_kept move p keep object ends

      words : row_words after (moved_place from h to p) ≡ map (moved_word from h to) (row_words h p)
      words = ap (words_of after) row.row ∙ words_after move (row_of h p) row.cells

      slots : (m : ℕ) → row_slots after (moved_place from h to p) m ≡ row_slots h p m
      slots m = by_length (cases_lt m (length (row_words h p)))
        where
          by_length : (m < length (row_words h p)) ⊎ (length (row_words h p) ≤ m) → row_slots after (moved_place from h to p) m ≡ row_slots h p m
          by_length (inl low) =
              ap (λ (ws : List ℕ). name_referred after (get_or ws m 0)) words
              ∙ ap (name_referred after) (get_or-map (moved_word from h to) (row_words h p) m 0 0 low)
              ∙ slot_moved (get_or (row_words h p) m 0) (row.words m 0 low) (row.references m 0 low)
          by_length (inr high) =
              ap (λ (ws : List ℕ). name_referred after (get_or ws m 0)) words
              ∙ ap (name_referred after) (get_or_past (map (moved_word from h to) (row_words h p)) m 0 (let long = length-map (row_words h p) (moved_word from h to) in omega (arith, long, high)))
              ∙ ap (name_referred h) (sym (get_or_past (row_words h p) m 0 high))

pub kept_rows_index : (h after : SpaceList) (payloads : Payloads) (is : IsSpaceList h) (graph : IsGraph h payloads) → KeepsRows h after → (r : Place) (at : IsKindAt h Object r) (s : Slots) (places : List Place) → IsRowIndex h r s places → IsRowIndex after r s places
kept_rows_index h after payloads is graph keeps r at = index_stays h after payloads is graph keeps.names r at (keeps.rows r at) (keeps.cells r at)
