-- The cells of new blocks, where they are put in place.
use Rattle.std.proofs.Common.{◌≡◌, ◌≢◌, ℕ, suc, ◌<◌, ◌≤◌, ◌-◌, ◌⊎◌, ◌++◌, List, [], length, get_or, replicate, refl, ap, arith, ◌∙◌, inl, inr, ⊎_elim}
use Rattle.std.proofs.lemmas.List.{length-append, get_or-append_right, get_or-replicate, get_or_past, length-replicate}
use Rattle.std.proofs.lemmas.Bool.{cases_lt, cases_eq}
use Rattle.tg_block.specs.Cells.{cell_of, free_cell}
use Rattle.tg_word.specs.declared.Place.{Place}
use Rattle.tg_space.specs.Collection.{IsNewPlace}
use Rattle.tg_space.specs.Generations.{NamesYoung}
use Rattle.tg_space.specs.SpaceList.{SpaceList, BlockList, space_of, cell_at}
use Rattle.tg_space.specs.SpaceTable.{adopted, kept_blocks}
use Rattle.tg_space.specs.declared.kind.Kind.{Kind}
use Rattle.tg_space.specs.declared.kind.Kind.TheVariants.{Full, Nursery}
use Rattle.tg_evac.specs.Copies.{IsPlaceIn, new_cell}

abbrev empties : ℕ → SpaceList
empties n = replicate n []

-- a space that was emptied has no block
none_left : (n s : ℕ) → get_or (empties n) s [] ≡ []
none_left n s = ⊎_elim
    (λ (low : s < n). get_or-replicate n s [] [] low)
    (λ (past : n ≤ s). get_or_past (empties n) s [] (rw (length-replicate {A = BlockList} n []) past))
    (cases_lt s n)

module _ (h : SpaceList) (aged old : BlockList) (p : Place) where
  full_space : p.space ≡ 0 → space_of (adopted Full h aged old) p.space ≡ old
  full_space is = ap (λ (s : ℕ). space_of (adopted Full h aged old) s) is

  nursery_old : p.space ≡ 0 → space_of (adopted Nursery h aged old) p.space ≡ space_of h 0 ++ old
  nursery_old is = ap (λ (s : ℕ). space_of (adopted Nursery h aged old) s) is

  nursery_aged : p.space ≡ 1 → space_of (adopted Nursery h aged old) p.space ≡ aged
  nursery_aged is = ap (λ (s : ℕ). space_of (adopted Nursery h aged old) s) is

  full_rest : p.space ≢ 0 → space_of (adopted Full h aged old) p.space ≡ []
  full_rest some =
      let e : p.space ≡ suc (p.space - 1) = omega arith in
      ap (λ (s : ℕ). space_of (adopted Full h aged old) s) e ∙ none_left (length h - 1) (p.space - 1)

  nursery_rest : p.space ≢ 0 → p.space ≢ 1 → space_of (adopted Nursery h aged old) p.space ≡ []
  nursery_rest some two =
      let e : p.space ≡ suc (suc (p.space - 2)) = omega arith in
      ap (λ (s : ℕ). space_of (adopted Nursery h aged old) s) e ∙ none_left (length h - 2) (p.space - 2)

  -- a place in the new blocks of Old
  pub old_place : (kind : Kind) → IsPlaceIn 0 (kept_blocks kind h) old p → IsNewPlace kind h aged old p × (cell_at (adopted kind h aged old) p ≡ new_cell (kept_blocks kind h) old p)
  old_place Full place =
      let is = full_space place.space in let long = ap (λ (bs : BlockList). length bs) is in let low = place.block in let space = place.space in (
        record { held = record { space = omega arith; block = omega arith; cell = place.cell }; behind = λ e. place.behind },
        ap (λ (bs : BlockList). cell_of (get_or bs p.block []) p.cell) is ∙ (let same : p.block ≡ p.block - 0 = omega arith in ap (λ (b : ℕ). cell_of (get_or old b []) p.cell) same),
      )
  old_place Nursery place =
      let is = nursery_old place.space in let long = ap (λ (bs : BlockList). length bs) is ∙ length-append (space_of h 0) old in let low = place.block in let space = place.space in let behind = place.behind in (
        record { held = record { space = omega arith; block = omega arith; cell = place.cell }; behind = λ e. place.behind },
        ap (λ (bs : BlockList). cell_of (get_or bs p.block []) p.cell) is ∙ ap (λ (b : List (List ℕ)). cell_of b p.cell) (get_or-append_right (space_of h 0) old (length (space_of h 0)) p.block [] refl behind),
      )

  -- and one in those of Aged
  pub aged_place : IsPlaceIn 1 0 aged p → IsNewPlace Nursery h aged old p × (cell_at (adopted Nursery h aged old) p ≡ new_cell 0 aged p)
  aged_place place =
      let is = nursery_aged place.space in let long = ap (λ (bs : BlockList). length bs) is in let low = place.block in let space = place.space in (
        record { held = record { space = omega arith; block = omega arith; cell = place.cell }; behind = λ e. absurd (omega arith) },
        ap (λ (bs : BlockList). cell_of (get_or bs p.block []) p.cell) is ∙ (let same : p.block ≡ p.block - 0 = omega arith in ap (λ (b : ℕ). cell_of (get_or aged b []) p.cell) same),
      )

  -- there are no other new places
  pub new_is : (kind : Kind) → IsNewPlace kind h aged old p → IsPlaceIn 0 (kept_blocks kind h) old p ⊎ ((kind ≡ Nursery) × IsPlaceIn 1 0 aged p)
  new_is Full new = ⊎_elim
      (λ (zero_is : p.space ≡ 0).
      let long = ap (λ (bs : BlockList). length bs) (full_space zero_is) in let low = new.held.block in
      inl (record { space = zero_is; behind = new.behind zero_is; block = omega arith; cell = new.held.cell }))
      (λ (some : p.space ≢ 0). absurd (let long = ap (λ (bs : BlockList). length bs) (full_rest some) in let low = new.held.block in omega arith))
      (cases_eq p.space 0)
  new_is Nursery new = ⊎_elim
      (λ (zero_is : p.space ≡ 0).
      let long = ap (λ (bs : BlockList). length bs) (nursery_old zero_is) ∙ length-append (space_of h 0) old in let low = new.held.block in let behind = new.behind zero_is in
      inl (record { space = zero_is; behind = behind; block = omega arith; cell = new.held.cell }))
      (λ (some : p.space ≢ 0). ⊎_elim
      (λ (one : p.space ≡ 1).
      let long = ap (λ (bs : BlockList). length bs) (nursery_aged one) in let low = new.held.block in
      inr (refl, record { space = one; behind = omega arith; block = omega arith; cell = new.held.cell }))
      (λ (two : p.space ≢ 1). absurd (let long = ap (λ (bs : BlockList). length bs) (nursery_rest some two) in let low = new.held.block in omega arith))
      (cases_eq p.space 1))
      (cases_eq p.space 0)

-- a free cell names no other
pub free_is_not_young : NamesYoung free_cell → ⊥
free_is_not_young names = absurd (let low = names.1.1 in omega arith)
