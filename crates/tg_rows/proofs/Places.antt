-- The places of a heap's cells, and what sound spaces say of the cell at each.
use Rattle.std.proofs.Common.{[], ◌≡◌, ◌≢◌, ℕ, zero, suc, ◌<◌, ◌≤◌, ◌+◌, ◌-◌, ◌/◌, ◌%◌, ◌⊎◌, inl, inr, List, length, map, sym, ap, subst, arith, ◌∙◌, add-one, get_or}
use Rattle.std.specs.List.{Contains, range_with_len}
use Rattle.std.proofs.lemmas.Bool.{cases_lt}
use Rattle.std.proofs.lemmas.List.Elements.{All-nil, All-get_or, All-from_get_or}
use Rattle.tg_model.proofs.PlainLaws.{is_subject, is_worker}
use Rattle.tg_word.specs.declared.Place.{Place}
use Rattle.tg_space.specs.SpaceList.{SpaceList, IsSpaceList, HasCell, space_of, cell_at, blocks_before, block_count, flat_of, cells_of, IsSpace}
use Rattle.tg_space.specs.Soundness.{AreSound, HasLayout, IsRootIn}
use Rattle.tg_space.specs.Rows.{link_of, link_at}
use Rattle.tg_space.specs.Targets.{cell_numbered}
use Rattle.tg_space.specs.declared.root.Root.{Root}
use Rattle.tg_space.proofs.Flat.{before_more, blocks_all, length-cells_of, flat_inside, get_or-flat_of, same_place, all_cells_whole}
use Rattle.tg_rows.specs.Rows.{places_in, places_of}
use Rattle.tg_rows.proofs.Members.{Contains-map, Contains-from_map, Contains-flat_map, Contains-from_flat_map}
use Rattle.tg_word.specs.Word.{IsPlace}

-- the cell with a number
pub record NumberedPlace (h : SpaceList) (number : ℕ) : Type 0 where
  pub place : Place
  pub held : HasCell h place
  pub is : flat_of h place ≡ number

-- the space with a block, by the number of the block
record SpaceWith (h : SpaceList) (block : ℕ) : Type 0 where
  space : ℕ
  inside : space < length h
  low : blocks_before h space ≤ block
  high : block < blocks_before h space + length (space_of h space)

space_with : (h : SpaceList) (block n : ℕ) → n ≤ length h → block < blocks_before h n → SpaceWith h block
space_with h block zero le lt = absurd (let none : block < 0 = lt in omega arith)
space_with h block (suc n) le lt = by_place (cases_lt block (blocks_before h n)) (space_with h block n (omega arith))
  where
    by_place : (block < blocks_before h n) ⊎ (blocks_before h n ≤ block) → (block < blocks_before h n → SpaceWith h block) → SpaceWith h block
    by_place (inl below) again = again below
    by_place (inr above) again =
        let more = before_more h n (omega arith) in
        let lt' : block < blocks_before h (n + 1) = subst (λ (k : ℕ). block < blocks_before h k) (sym (add-one n)) lt in
        record { space = n; inside = omega arith; low = above; high = omega arith }

module _ (h : SpaceList) (is : IsSpaceList h) where
  pub holds_from_places : (p : Place) → Contains (places_of h) p → HasCell h p
  holds_from_places p has =
      let in_space = Contains-from_flat_map (places_in h) (range_with_len 0 (length h)) p has in
      let space = in_space.0 in
      let blocks = λ (block : ℕ). map (λ (cell : ℕ). let q : Place = record { space = space; block = block; cell = cell } in q) (range_with_len 0 64) in
      let in_block = Contains-from_flat_map blocks (range_with_len 0 (length (space_of h space))) p in_space.2 in
      let in_cell = Contains-from_map (λ (cell : ℕ). let q : Place = record { space = space; block = in_block.0; cell = cell } in q) (range_with_len 0 64) p in_block.2 in
      subst (λ (q : Place). HasCell h q) in_cell.2
      (record {
        space = is_worker (length h) space in_space.1;
        block = is_worker (length (space_of h space)) in_block.0 in_block.1;
        cell = is_worker 64 in_cell.0 in_cell.1;
      })

  pub places_from_holds : (p : Place) → HasCell h p → Contains (places_of h) p
  places_from_holds p held =
      let blocks = λ (block : ℕ). map (λ (cell : ℕ). let q : Place = record { space = p.space; block = block; cell = cell } in q) (range_with_len 0 64) in
      let in_block : Contains (blocks p.block) p = Contains-map (λ (cell : ℕ). let q : Place = record { space = p.space; block = p.block; cell = cell } in q) (range_with_len 0 64) p.cell (is_subject 64 p.cell held.cell) in
      let in_space : Contains (places_in h p.space) p = Contains-flat_map blocks (range_with_len 0 (length (space_of h p.space))) p.block p (is_subject (length (space_of h p.space)) p.block held.block) in_block in
      Contains-flat_map (places_in h) (range_with_len 0 (length h)) p.space p (is_subject (length h) p.space held.space) in_space

  pub place_numbered : (number : ℕ) → number < length (cells_of h) → NumberedPlace h number
  place_numbered number inside =
      let whole : blocks_before h (length h) ≡ block_count h = blocks_all h (length h) (omega arith) in
      let long = length-cells_of h is.spaces in
      let found = space_with h (number / 64) (length h) (omega arith) (omega arith) in
      let low = found.low in
      let high = found.high in
      record {
        place = record { space = found.space; block = number / 64 - blocks_before h found.space; cell = number % 64 };
        held = record { space = found.inside; block = omega arith; cell = omega arith };
        is = omega arith;
      }

  pub cell_long : (p : Place) → HasCell h p → length (cell_at h p) ≡ 8
  cell_long p held =
      let whole = All-get_or (λ (words : List ℕ). length words ≡ 8) (cells_of h) (flat_of h p) [] (flat_inside h is.spaces p held) (all_cells_whole h is.spaces) in
      subst (λ (words : List ℕ). length words ≡ 8) (get_or-flat_of h is.spaces p held) whole

  module _ (roots : List Root) (sound : AreSound h roots) where
    pub layout_at : (p : Place) → HasCell h p → HasLayout h (cell_at h p)
    layout_at p held =
        subst (λ (words : List ℕ). HasLayout h words) (get_or-flat_of h is.spaces p held)
        (All-get_or (HasLayout h) (cells_of h) (flat_of h p) [] (flat_inside h is.spaces p held) sound.cells)

    pub links_apart : (p q : Place) → HasCell h p → HasCell h q → link_at h p ≢ 0 → link_at h p ≡ link_at h q → p ≡ q
    links_apart p q hp hq some same =
        let at_p : link_of (cell_numbered h (flat_of h p)) ≡ link_at h p = ap link_of (get_or-flat_of h is.spaces p hp) in
        let at_q : link_of (cell_numbered h (flat_of h q)) ≡ link_at h q = ap link_of (get_or-flat_of h is.spaces q hq) in
        same_place h is.spaces p q hp hq
        (sound.links (flat_of h p) (flat_of h q) (flat_inside h is.spaces p hp) (flat_inside h is.spaces q hq) (λ z. some (sym at_p ∙ z)) (at_p ∙ same ∙ sym at_q))

  pub sound_from_places : ((p : Place) → HasCell h p → HasLayout h (cell_at h p)) → ((p q : Place) → HasCell h p → HasCell h q → link_at h p ≢ 0 → link_at h p ≡ link_at h q → p ≡ q) → AreSound h []
  sound_from_places layouts links = record {
    cells = All-from_get_or (HasLayout h) (cells_of h) [] (λ number inside.
        let at = place_numbered number inside in
        subst (λ (words : List ℕ). HasLayout h words) (sym (get_or-flat_of h is.spaces at.place at.held) ∙ ap (cell_numbered h) at.is) (layouts at.place at.held));
    links = λ c d low_c low_d some same.
        let at = place_numbered c low_c in
        let to = place_numbered d low_d in
        let at_c : link_of (cell_numbered h c) ≡ link_at h at.place = ap link_of (ap (cell_numbered h) (sym at.is) ∙ get_or-flat_of h is.spaces at.place at.held) in
        let at_d : link_of (cell_numbered h d) ≡ link_at h to.place = ap link_of (ap (cell_numbered h) (sym to.is) ∙ get_or-flat_of h is.spaces to.place to.held) in
        let one : at.place ≡ to.place = links at.place to.place at.held to.held (λ z. some (at_c ∙ z)) (sym at_c ∙ same ∙ at_d) in
        sym at.is ∙ ap (flat_of h) one ∙ to.is;
    roots_held = All-nil (IsRootIn h);
  }

-- a cell that is there has a place in range
pub held_place : (h : SpaceList) → IsSpaceList h → (p : Place) → HasCell h p → IsPlace p
held_place h is p held =
    let few = is.few in
    let space : IsSpace (get_or h p.space []) = All-get_or IsSpace h p.space [] held.space is.spaces in
    let blocks = space.0 in
    record { space = let low = held.space in omega arith; block = let low = held.block in omega arith; cell = held.cell }
