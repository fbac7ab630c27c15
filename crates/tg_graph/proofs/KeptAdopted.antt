-- The spaces once new blocks were adopted: what stays, and what is new.
use Rattle.std.proofs.Common.{◌≡◌, ◌≢◌, ℕ, zero, suc, ◌<◌, ◌≤◌, ◌-◌, ◌⊎◌, ◌==◌, ◌++◌, not, true, false, List, [], length, get_or, replicate, refl, sym, ap, subst, arith, ◌∙◌, inl, inr, ⊎_elim}
use Rattle.std.proofs.lemmas.Bool.{cases_eq, cases_lt}
use Rattle.std.proofs.lemmas.Bool.Decides.{eqb_tells}
use Rattle.std.proofs.lemmas.List.{get_or_append_left, get_or-replicate, get_or_past, length-append, length-replicate}
use Rattle.tg_word.specs.declared.Place.{Place}
use Rattle.tg_block.specs.Cells.{cell_of}
use Rattle.tg_space.specs.SpaceList.{SpaceList, BlockList, HasCell, space_of, cell_at}
use Rattle.tg_space.specs.SpaceTable.{adopted}
use Rattle.tg_space.specs.Targets.{from_space}
use Rattle.tg_space.specs.Collection.{IsNewPlace}
use Rattle.tg_space.specs.declared.kind.Kind.{Kind}
use Rattle.tg_space.specs.declared.kind.Kind.TheVariants.{Full, Nursery}

-- which spaces a nursery collection leaves where they are
pub old_stays : (space : ℕ) → from_space Nursery space ≡ false → space ≡ 0
old_stays space stays =
    ⊎_elim
    (λ (z : (space == 0 ≡ true) × (space ≡ 0)). z.1)
    (λ (n : (space == 0 ≡ false) × (space ≢ 0)). let no : true ≡ false = ap not (sym n.0) ∙ stays in absurd cc)
    (eqb_tells space 0)

-- a collection of either kind moves the cells of all spaces but Old
pub young_moves : (kind : Kind) (space : ℕ) → space ≢ 0 → from_space kind space ≡ true
young_moves Full space young = refl
young_moves Nursery space young =
    ⊎_elim
    (λ (z : (space == 0 ≡ true) × (space ≡ 0)). absurd (young z.1))
    (λ (n : (space == 0 ≡ false) × (space ≢ 0)). ap not n.0)
    (eqb_tells space 0)

none_in : (n k : ℕ) → space_of (replicate n []) k ≡ []
none_in n k =
    ⊎_elim
    (λ low. get_or-replicate n k [] [] low)
    (λ high. get_or_past (replicate n []) k [] (rw (length-replicate {A = BlockList} n []) high))
    (cases_lt k n)

module _ (h : SpaceList) (aged old : BlockList) where
  -- after a full collection only Old has blocks
  pub only_old_after : (space : ℕ) → space ≢ 0 → space_of (adopted Full h aged old) space ≡ []
  only_old_after zero some = absurd (some refl)
  only_old_after (suc k) some = none_in (length h - 1) k

  -- after a collection of either kind no nursery has
  pub no_nursery_after : (kind : Kind) (space : ℕ) → 2 ≤ space → space_of (adopted kind h aged old) space ≡ []
  no_nursery_after Full space young = only_old_after space (λ z. omega arith)
  no_nursery_after Nursery zero young = absurd (omega arith)
  no_nursery_after Nursery (suc zero) young = absurd (omega arith)
  no_nursery_after Nursery (suc (suc k)) young = none_in (length h - 2) k

  pub adopted_length : (kind : Kind) → 2 ≤ length h → length (adopted kind h aged old) ≡ length h
  adopted_length Full some = let rest = length-replicate {A = BlockList} (length h - 1) [] in omega arith
  adopted_length Nursery some = let rest = length-replicate {A = BlockList} (length h - 2) [] in omega arith

  -- a cell outside from-space stays
  pub stays_held : (kind : Kind) (p : Place) → HasCell h p → from_space kind p.space ≡ false → HasCell (adopted kind h aged old) p
  stays_held Full p held stays = let no : true ≡ false = stays in absurd cc
  stays_held Nursery p held stays =
      let at = old_stays p.space stays in
      let low : p.block < length (space_of h 0) = subst (λ (space : ℕ). p.block < length (space_of h space)) at held.block in
      let more : p.block < length (space_of h 0 ++ old) = omega (arith, length-append (space_of h 0) old) in
      record {
        space = omega arith;
        block = subst (λ (space : ℕ). p.block < length (space_of (adopted Nursery h aged old) space)) (sym at) more;
        cell = held.cell;
      }

  pub stays_cell : (kind : Kind) (p : Place) → HasCell h p → from_space kind p.space ≡ false → cell_at (adopted kind h aged old) p ≡ cell_at h p
  stays_cell Full p held stays = let no : true ≡ false = stays in absurd cc
  stays_cell Nursery p held stays =
      let at = old_stays p.space stays in
      let low : p.block < length (space_of h 0) = subst (λ (space : ℕ). p.block < length (space_of h space)) at held.block in
      ap (λ (space : ℕ). cell_of (get_or (space_of (adopted Nursery h aged old) space) p.block []) p.cell) at
      ∙ ap (λ (block : List (List ℕ)). cell_of block p.cell) (get_or_append_left (space_of h 0) old [] p.block low)
      ∙ ap (λ (space : ℕ). cell_of (get_or (space_of h space) p.block []) p.cell) (sym at)

  -- any other is new
  pub adopted_cases : (kind : Kind) (q : Place) → 0 < length h → HasCell (adopted kind h aged old) q → (HasCell h q × (from_space kind q.space ≡ false)) ⊎ IsNewPlace kind h aged old q
  adopted_cases Full q some held = inr (record { held = held; behind = λ at. omega arith })
  adopted_cases Nursery q some held = by_place (cases_eq q.space 0) (cases_lt q.block (length (space_of h 0)))
    where
      by_place : (q.space ≡ 0) ⊎ (q.space ≢ 0) → (q.block < length (space_of h 0)) ⊎ (length (space_of h 0) ≤ q.block) → (HasCell h q × (from_space Nursery q.space ≡ false)) ⊎ IsNewPlace Nursery h aged old q
      by_place (inr young) _ = inr (record { held = held; behind = λ at. absurd (young at) })
      by_place (inl at) (inr high) = inr (record { held = held; behind = λ _. high })
      by_place (inl at) (inl low) = inl (record { space = omega arith; block = subst (λ (space : ℕ). q.block < length (space_of h space)) (sym at) low; cell = held.cell }, ap (λ (space : ℕ). from_space Nursery space) at)

  -- a new place is after the cells that stay
  pub new_apart : (kind : Kind) (q : Place) → IsNewPlace kind h aged old q → HasCell h q → from_space kind q.space ≡ false → ⊥
  new_apart Full q new held stays = let no : true ≡ false = stays in cc
  new_apart Nursery q new held stays =
      let at = old_stays q.space stays in
      let low : q.block < length (space_of h 0) = subst (λ (space : ℕ). q.block < length (space_of h space)) at held.block in
      let high = new.behind at in
      omega arith
