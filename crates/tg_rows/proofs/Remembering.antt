-- Which cells of Old are to be remembered once a word was written.
use Rattle.std.proofs.Common.{[], ◌≡◌, ◌≢◌, ◌↔◌, ℕ, ◌+◌, ◌-◌, ◌*◌, ◌<◌, ◌≤◌, ◌⊎◌, inl, inr, ◌==◌, not, ◌&&◌, Bool, true, false, cond, List, length, get_or, set, Option, Some, None, refl, sym, ap, subst, arith, ◌∙◌, ⊎_elim}
use Rattle.std.specs.Prelude.{nat_lt, slice_index}
use Rattle.std.specs.List.{Contains}
use Rattle.std.proofs.lemmas.Bool.{cases_eq, eq-eqb, eqb-true, ne_eqb}
use Rattle.std.proofs.lemmas.List.{get_or-drop, get_or-set_same, get_or-set_other, get_or_default, length-drop, length-set}
use Rattle.std.proofs.lemmas.List.Elements.{All-contains}
use Rattle.tg_rights.specs.RightSet.{RightSet, is_none_held, minus, union}
use Rattle.tg_word.specs.declared.Place.{Place}
use Rattle.tg_word.specs.Word.{IsPlace, link_to, place_in, rights_in, word_at}
use Rattle.tg_word.proofs.Packing.{place_in-word_at}
use Rattle.tg_block.specs.Cells.{free_cell, kind_of}
use Rattle.tg_block.specs.declared.CellKind.TheVariants.{Free, Object}
use Rattle.tg_space.specs.SpaceList.{SpaceList, IsSpaceList, HasCell, cell_at, cells_of, space_of, with_block, with_cell_at, with_word_at}
use Rattle.tg_space.specs.SpaceTable.{SpaceTable, IsNursery, IsSpaceTable, place_in_space, used_of, with_spaces}
use Rattle.tg_space.specs.Soundness.{IsKindAt, IsOldCell}
use Rattle.tg_space.specs.Generations.{AreRemembered, NamesYoung}
use Rattle.tg_space.specs.Targets.{first_pointer, from_space, pointers_of}
use Rattle.tg_space.specs.declared.kind.Kind.TheVariants.{Nursery}
use Rattle.tg_space.specs.Rows.{chunks_from, link_at, row_of}
use Rattle.tg_space.proofs.Tables.{cell_at-with_block, kept-with_block, table_list}
use Rattle.tg_nursery.specs.Allocation.{HasRoomLeft, room_made_for}
use Rattle.tg_payload.specs.Table.{Payloads}
use Rattle.tg_rows.specs.Graph.{IsGraph}
use Rattle.tg_rows.specs.Spots.{IsSpotIn, cells_for, chunk_words, last_of, narrowed, note_for, old_cell_if, refers_to, table_put, widened, word_where}
use Rattle.tg_rows.specs.declared.rows.Spot.{Spot}
use Rattle.tg_rows.specs.declared.rows.Spot.TheVariants.{Reference, Empty, Full}
use Rattle.tg_rows.proofs.Changes.{cell_kept, cell_written, holds_written, list_written, same_or_other}
use Rattle.tg_rows.proofs.Finding.{cell_held, empty_found, found_refers, last_ends, reference_found, row_low}
use Rattle.tg_rows.proofs.Fresh.{fresh_same}
use Rattle.tg_rows.proofs.Layouts.{present_place}
use Rattle.tg_rows.proofs.Members.{Contains-none}
use Rattle.tg_rows.proofs.Places.{cell_long, held_place}
use Rattle.tg_rows.proofs.Written.{pointers_set}

-- ---- one cell

Contains-set : (xs : List ℕ) (k word w : ℕ) → Contains (set xs k word) w → (w ≡ word) ⊎ Contains xs w
Contains-set xs k word w has = by_number (cases_eq has.0 k)
  where
    inside : has.0 < length xs
    inside = let low = has.1 in omega (arith, length-set xs k word)

    by_number : (has.0 ≡ k) ⊎ (has.0 ≢ k) → (w ≡ word) ⊎ Contains xs w
    by_number (inl same) = inl (sym has.2 ∙ ap (λ n. get_or (set xs k word) n w) same ∙ get_or-set_same xs k word w (omega (arith, same, inside)))
    by_number (inr other) = inr (has.0, inside, sym (get_or-set_other xs k has.0 word w other) ∙ has.2)

-- a young cell that is named after a word was written was named before, or the word names it
named_before : (words : List ℕ) → length words ≡ 8 → (i word : ℕ) → first_pointer (get_or words 0 0) ≤ i → i < 8 → NamesYoung (set words i word) → NamesYoung words ⊎ ((place_in word).space ≢ 0)
named_before words long i word low high names =
    ⊎_elim (λ same. inr (subst (λ w. (place_in w).space ≢ 0) same names.2)) (λ has. inl (names.0, has, names.2))
    (Contains-set (pointers_of words) (i - first_pointer (get_or words 0 0)) word names.0 (subst (λ (ws : List ℕ). Contains ws names.0) (pointers_set words long i word low high) names.1))

-- a reference that names a young cell
pub word_names : (words : List ℕ) → length words ≡ 8 → (i : ℕ) → first_pointer (get_or words 0 0) ≤ i → i < 8 → (place_in (get_or words i 0)).space ≢ 0 → NamesYoung words
word_names words long i low high young =
    let first = first_pointer (get_or words 0 0) in
    let inside : i - first < length (pointers_of words) = omega (arith, length-drop first words) in
    let number : first + (i - first) ≡ i = omega arith in (
      get_or words i 0,
      (
        i - first,
        inside,
        get_or_default (pointers_of words) (i - first) (get_or words i 0) 0 inside ∙ get_or-drop first words (i - first) 0 ∙ ap (λ (n : ℕ). get_or words n 0) number,
      ),
      young,
    )

free_names : NamesYoung free_cell → ⊥
free_names names = Contains-none names.0 names.1

-- ---- the heap after one step

-- the cells of Old that name young ones named some before, or are noted
remembered_step : (h after : SpaceList) (places later : List Place) → AreRemembered h places → ((p : Place) → Contains places p → Contains later p) → ((p : Place) → Contains later p → Contains places p ⊎ IsOldCell after p) →
    ((p : Place) → IsOldCell h p → HasCell after p) → ((p : Place) → IsOldCell after p → NamesYoung (cell_at after p) → (HasCell h p × NamesYoung (cell_at h p)) ⊎ Contains later p) → AreRemembered after later
remembered_step h after places later before more new kept named = record {
  cells = λ p has. ⊎_elim (λ old. let cell = before.cells p old in record { held = kept p cell; space = cell.space }) (λ cell. cell) (new p has);
  all = λ p cell names. ⊎_elim (λ was. more p (before.all p (record { held = was.0; space = cell.space }) was.1)) (λ has. has) (named p cell names);
}

-- where Old has no block, nothing is remembered
pub nothing_remembered : (h : SpaceList) → length (space_of h 0) ≡ 0 → AreRemembered h []
nothing_remembered h none = record {
  cells = λ p has. absurd (Contains-none p has);
  all = λ p cell names.
      let low : p.block < length (space_of h 0) = subst (λ s. p.block < length (space_of h s)) cell.space cell.held.block in
      absurd (omega (arith, low, none));
}

-- a cell outside Old is written
pub remembered_young : (h : SpaceList) → IsSpaceList h → (q : Place) → HasCell h q → q.space ≢ 0 → (words : List ℕ) (places : List Place) → AreRemembered h places → AreRemembered (with_cell_at h q words) places
remembered_young h is q held young words places before =
    remembered_step h (with_cell_at h q words) places places before (λ p has. has) (λ p has. inl has) (λ p cell. (holds_written h is q held words p).1 cell.held)
    (λ p cell names.
    let other : p ≢ q = λ same. young (ap (λ (r : Place). r.space) (sym same) ∙ cell.space) in
    inl ((holds_written h is q held words p).0 cell.held, subst NamesYoung (cell_kept h is q held words p other) names))

-- a block of free cells is added
remembered_block : (h : SpaceList) (space : ℕ) → space < length h → (places : List Place) → AreRemembered h places → AreRemembered (with_block h space) places
remembered_block h space low places before =
    remembered_step h (with_block h space) places places before (λ p has. has) (λ p has. inl has) (λ p cell. (kept-with_block h space low p cell.held).0)
    (λ p cell names. ⊎_elim (λ old. inl (old.0, subst NamesYoung old.1 names)) (λ free. absurd (free_names (subst NamesYoung free names))) (cell_at-with_block h space low p cell.held))

pub remembered_room : (t grown : SpaceTable) (space cells : ℕ) → space < length t.spaces → grown ≡ room_made_for t space cells → (places : List Place) → AreRemembered t.spaces places → AreRemembered grown.spaces places
remembered_room t grown space cells low made places before =
    by_test (nat_lt (64 * length (space_of t.spaces space)) (used_of t space + cells)) made
  where
    by_test : (b : Bool) → grown ≡ cond b (with_spaces t (with_block t.spaces space)) t → AreRemembered grown.spaces places
    by_test false same = subst (λ (x : SpaceTable). AreRemembered x.spaces places) (sym same) before
    by_test true same = subst (λ (x : SpaceTable). AreRemembered x.spaces places) (sym same) (remembered_block t.spaces space low places before)

-- a word is written into a cell, which is noted if it has to be
remembered_word : (h : SpaceList) → IsSpaceList h → (q : Place) → HasCell h q → (i word : ℕ) → first_pointer (get_or (cell_at h q) 0 0) ≤ i → i < 8 → (places later : List Place) → AreRemembered h places →
    ((p : Place) → Contains places p → Contains later p) → ((p : Place) → Contains later p → Contains places p ⊎ ((q ≡ p) × (q.space ≡ 0))) →
    (q.space ≡ 0 → (place_in word).space ≢ 0 → NamesYoung (cell_at h q) ⊎ Contains later q) → AreRemembered (with_word_at h q i word) later
remembered_word h is q held i word low high places later before more new noted =
    remembered_step h (with_word_at h q i word) places later before more
    (λ p has. ⊎_elim (λ old. inl old) (λ here. inr (old_here p here.0 here.1)) (new p has))
    (λ p cell. (holds_written h is q held (set (cell_at h q) i word) p).1 cell.held)
    (λ p cell names. by_place p cell names (same_or_other p q))
  where
    old_here : (p : Place) → q ≡ p → q.space ≡ 0 → IsOldCell (with_word_at h q i word) p
    old_here p same old = subst (IsOldCell (with_word_at h q i word)) same (record { held = (holds_written h is q held (set (cell_at h q) i word) q).1 held; space = old })

    by_place : (p : Place) → IsOldCell (with_word_at h q i word) p → NamesYoung (cell_at (with_word_at h q i word) p) → (p ≡ q) ⊎ (p ≢ q) → (HasCell h p × NamesYoung (cell_at h p)) ⊎ Contains later p
    by_place p cell names (inr other) =
        inl ((holds_written h is q held (set (cell_at h q) i word) p).0 cell.held, subst NamesYoung (cell_kept h is q held (set (cell_at h q) i word) p other) names)
    by_place p cell names (inl same) =
        let named : NamesYoung (set (cell_at h q) i word) = subst NamesYoung (ap (cell_at (with_word_at h q i word)) same ∙ cell_written h is q held (set (cell_at h q) i word)) names in
        let here = ⊎_elim (λ was. inl was) (λ young. noted (ap (λ (r : Place). r.space) (sym same) ∙ cell.space) young) (named_before (cell_at h q) (cell_long h is q held) i word low high named) in
        subst (λ (r : Place). (HasCell h r × NamesYoung (cell_at h r)) ⊎ Contains later r) (sym same) (⊎_elim (λ was. inl (held, was)) (λ has. inr has) here)

-- ---- the cell that is noted

-- the places with the cell that is noted, if one is
abbrev pub AreNoted : List Place → List Place → Option Place → Type 0
AreNoted places later note = (p : Place) → Contains later p ↔ (Contains places p ⊎ (note ≡ Some p))

noted_cell : (wanted : Bool) (cell p : Place) → old_cell_if wanted cell ≡ Some p → (cell ≡ p) × (cell.space ≡ 0)
noted_cell wanted cell p same = by_tests wanted (cell.space == 0) refl same
  where
    by_tests : (w b : Bool) → (cell.space == 0) ≡ b → cond (w && not (not b)) (Some cell) None ≡ Some p → (cell ≡ p) × (cell.space ≡ 0)
    by_tests true true test at = (let here : cell ≡ p = cc in here, eqb-true cell.space 0 test)
    by_tests true false test at = absurd cc
    by_tests false b test at = absurd cc

pub is_young : (space : ℕ) → space ≢ 0 → from_space Nursery space ≡ true
is_young space far = let test : (space == 0) ≡ false = ne_eqb space 0 far in ap not test

-- a reference takes at most one cell
pub cells_few : (spot : Spot) → cells_for spot ≤ 1
cells_few (Reference q i) = omega arith
cells_few (Empty q i) = omega arith
cells_few (Full last) = omega arith

old_noted : (wanted : Bool) (cell : Place) → wanted ≡ true → cell.space ≡ 0 → old_cell_if wanted cell ≡ Some cell
old_noted wanted cell is old = let test : (cell.space == 0) ≡ true = eq-eqb cell.space 0 old in rw (is, test) refl

-- ---- a row

module _ (t : SpaceTable) (table : IsSpaceTable t) (payloads : Payloads) (graph : IsGraph t.spaces payloads) (p : Place) (object : IsKindAt t.spaces Object p) where
  abbrev qs : List Place
  qs = chunks_from t.spaces (length (cells_of t.spaces)) (link_at t.spaces p)

  is : IsSpaceList t.spaces
  is = table_list t table

  held_in_row : (q : Place) → Contains (row_of t.spaces p) q → HasCell t.spaces q
  held_in_row q has = cell_held t.spaces payloads is graph p object q has

  -- a reference becomes one to the same cell, or to none
  remembered_same : (q : Place) (i word : ℕ) → Contains (row_of t.spaces p) q → first_pointer (get_or (cell_at t.spaces q) 0 0) ≤ i → i < 7 →
      ((place_in word).space ≢ 0 → (place_in (get_or (cell_at t.spaces q) i 0)).space ≢ 0) → (places later : List Place) → AreNoted places later None → AreRemembered t.spaces places → AreRemembered (with_word_at t.spaces q i word) later
  remembered_same q i word has low high same places later noted before =
      let held = held_in_row q has in
      remembered_word t.spaces is q held i word low (omega arith) places later before
      (λ r old. (noted r).1 (inl old))
      (λ r new. ⊎_elim (λ old. inl old) (λ at. let never : None ≡ Some r = at in absurd cc) ((noted r).0 new))
      (λ old young. inl (word_names (cell_at t.spaces q) (cell_long t.spaces is q held) i low (omega arith) (same young)))

  -- a word is written into a cell that is noted where it is in Old
  remembered_noted : (q : Place) (i word : ℕ) → Contains (row_of t.spaces p) q → first_pointer (get_or (cell_at t.spaces q) 0 0) ≤ i → i < 8 → (wanted : Bool) → ((place_in word).space ≢ 0 → wanted ≡ true) →
      (places later : List Place) → AreNoted places later (old_cell_if wanted q) → AreRemembered t.spaces places → AreRemembered (with_word_at t.spaces q i word) later
  remembered_noted q i word has low high wanted tells places later noted before =
      remembered_word t.spaces is q (held_in_row q has) i word low high places later before
      (λ r old. (noted r).1 (inl old))
      (λ r new. ⊎_elim (λ old. inl old) (λ at. inr (noted_cell wanted q r at)) ((noted r).0 new))
      (λ old young. inr ((noted q).1 (inr (old_noted wanted q (tells young) old))))

  -- where Old has no block, nothing is noted
  pub nothing_noted : length (space_of t.spaces 0) ≡ 0 → (name : ℕ) (spot : Spot) (young : Bool) → IsSpotIn t.spaces name p (chunks_from t.spaces (length (cells_of t.spaces)) (link_at t.spaces p)) spot → note_for spot young ≡ None
  nothing_noted none name spot young found = by_spot spot found
    where
      not_old : (q : Place) → HasCell t.spaces q → (wanted : Bool) → old_cell_if wanted q ≡ None
      not_old q held wanted = by_tests wanted (q.space == 0) refl
        where
          by_tests : (w b : Bool) → (q.space == 0) ≡ b → cond (w && not (not b)) (Some q) None ≡ None
          by_tests true true test =
              let old : q.space ≡ 0 = eqb-true q.space 0 test in
              let low : q.block < length (space_of t.spaces 0) = subst (λ s. q.block < length (space_of t.spaces s)) old held.block in
              absurd (omega (arith, low, none))
          by_tests true false test = refl
          by_tests false b test = refl

      by_spot : (spot : Spot) → IsSpotIn t.spaces name p (chunks_from t.spaces (length (cells_of t.spaces)) (link_at t.spaces p)) spot → note_for spot young ≡ None
      by_spot (Reference q i) here = refl
      by_spot (Empty q i) here = not_old q (held_in_row q (empty_found t.spaces p q i here.1).cell) young
      by_spot (Full last) here = not_old last (held_in_row last (subst (Contains (row_of t.spaces p)) here.2 (last_ends t.spaces p qs (graph.ends p object)).0)) true

  -- ---- rights are taken

  pub narrowed_remembered : (name : ℕ) (rights : RightSet) (q : Place) (i : ℕ) → word_where (refers_to t.spaces name) t.spaces (row_of t.spaces p) ≡ Some (q, i) →
      (places : List Place) → AreRemembered t.spaces places → AreRemembered (with_word_at t.spaces q i (narrowed (slice_index (cell_at t.spaces q) i) rights)) places
  narrowed_remembered name rights q i here places =
      let reference = reference_found t.spaces p name q i here in
      remembered_same q i (narrowed old rights) reference.cell reference.from reference.to (by_test (is_none_held (minus (rights_in old) rights))) places places
      (λ r. (λ has. inl has, λ either. ⊎_elim (λ has. has) (λ at. let never : None ≡ Some r = at in absurd cc) either))
    where
      old : ℕ
      old = slice_index (cell_at t.spaces q) i

      there : IsPlace (place_in (slice_index (cell_at t.spaces q) i))
      there = present_place (slice_index (cell_at t.spaces q) i) (found_refers t.spaces payloads is graph p object name q i (reference_found t.spaces p name q i here)).present

      by_test : (b : Bool) → (place_in (cond b 0 (word_at (minus (rights_in (slice_index (cell_at t.spaces q) i)) rights) (place_in (slice_index (cell_at t.spaces q) i))))).space ≢ 0 → (place_in (slice_index (cell_at t.spaces q) i)).space ≢ 0
      by_test true young = absurd (young refl)
      by_test false young =
          subst (λ (r : Place). r.space ≢ 0) (place_in-word_at (minus (rights_in (slice_index (cell_at t.spaces q) i)) rights) (place_in (slice_index (cell_at t.spaces q) i)) there) young

  -- ---- rights are put

  module _ (name : ℕ) (spot : Spot) (found : IsSpotIn t.spaces name p (chunks_from t.spaces (length (cells_of t.spaces)) (link_at t.spaces p)) spot) (space : ℕ) (left : HasRoomLeft t space (cells_for spot)) (nursery : IsNursery t space)
      (to : Place) (target : HasCell t.spaces to) (rights : RightSet) (young : Bool) (tells : to.space ≢ 0 → young ≡ true) (places later : List Place) (before : AreRemembered t.spaces places) where
    to_is : place_in (word_at rights to) ≡ to
    to_is = place_in-word_at rights to (held_place t.spaces is to target)

    widened_remembered : (q : Place) (i : ℕ) → word_where (refers_to t.spaces name) t.spaces (row_of t.spaces p) ≡ Some (q, i) → AreNoted places later None →
        AreRemembered (with_word_at t.spaces q i (widened (slice_index (cell_at t.spaces q) i) rights)) later
    widened_remembered q i here noted =
        let reference = reference_found t.spaces p name q i here in
        let old = slice_index (cell_at t.spaces q) i in
        let there = present_place old (found_refers t.spaces payloads is graph p object name q i reference).present in
        remembered_same q i (widened old rights) reference.cell reference.from reference.to
        (λ far. subst (λ (r : Place). r.space ≢ 0) (place_in-word_at (union (rights_in old) rights) (place_in old) there) far) places later noted before

    extended_remembered : (last : Place) → last_of p qs ≡ last → HasRoomLeft t space 1 → AreNoted places later (old_cell_if true last) → AreRemembered (table_put t space (Full last) rights to).spaces later
    extended_remembered last is_last enough noted =
        let chunk = place_in_space space (used_of t space) in
        let words = chunk_words (word_at rights to) in
        let held : HasCell t.spaces chunk = record { space = nursery.1; block = omega (arith, enough); cell = omega arith } in
        let free : IsKindAt t.spaces Free chunk = record { held = held; is = ap kind_of (table.fresh chunk held nursery.0 (omega arith)) } in
        let ends = last_ends t.spaces p qs (graph.ends p object) in
        let has : Contains (row_of t.spaces p) last = subst (Contains (row_of t.spaces p)) is_last ends.0 in
        let same : cell_at (with_cell_at t.spaces chunk words) last ≡ cell_at t.spaces last =
        All-contains (λ c. cell_at (with_cell_at t.spaces chunk words) c ≡ cell_at t.spaces c) (row_of t.spaces p) last (fresh_same t.spaces payloads is graph chunk free words p object) has in
        let behind : first_pointer (get_or (cell_at (with_cell_at t.spaces chunk words) last) 0 0) ≤ 7 =
        subst (λ (ws : List ℕ). first_pointer (get_or ws 0 0) ≤ 7) (sym same) (row_low t.spaces payloads is graph p object last has) in
        let first : AreRemembered (with_cell_at t.spaces chunk words) places =
        remembered_young t.spaces is chunk held (let far = nursery.0 in λ none. omega (arith, far, none)) words places before in
        remembered_word (with_cell_at t.spaces chunk words) (list_written t.spaces is chunk held words refl) last ((holds_written t.spaces is chunk held words last).1 (held_in_row last has)) 7 (link_to chunk) behind (omega arith) places later first
        (λ r old. (noted r).1 (inl old))
        (λ r new. ⊎_elim (λ old. inl old) (λ at. inr (noted_cell true last r at)) ((noted r).0 new))
        (λ old far. inr ((noted last).1 (inr (old_noted true last refl old))))

    pub put_remembered : AreNoted places later (note_for spot young) → AreRemembered (table_put t space spot rights to).spaces later
    put_remembered = by_spot spot found left
      where
        by_spot : (spot : Spot) → IsSpotIn t.spaces name p qs spot → HasRoomLeft t space (cells_for spot) → AreNoted places later (note_for spot young) → AreRemembered (table_put t space spot rights to).spaces later
        by_spot (Reference q i) here enough noted = widened_remembered q i here noted
        by_spot (Empty q i) here enough noted =
            let empty = empty_found t.spaces p q i here.1 in
            let inside = empty.to in
            remembered_noted q i (word_at rights to) empty.cell empty.from (omega arith) young (λ far. tells (subst (λ (r : Place). r.space ≢ 0) to_is far)) places later noted before
        by_spot (Full last) here enough noted = extended_remembered last here.2 enough noted
