-- A reference that is put at an empty place of a row, and the indexes of rows.
use Rattle.std.proofs.Common.{[], ◌≡◌, ◌≢◌, ℕ, ◌+◌, ◌*◌, ◌/◌, ◌%◌, ◌<◌, ◌==◌, inl, inr, Bool, true, false, List, Option, Some, None, length, get_or, set, cond, IsSome, refl, sym, ap, subst, arith, ◌∙◌, ⊎_elim}
use Rattle.std.specs.Prelude.{position}
use Rattle.std.specs.List.{All, Contains}
use Rattle.std.proofs.lemmas.Bool.{cases_eq, cases_lt}
use Rattle.std.proofs.lemmas.Bool.Decides.{eqb_tells}
use Rattle.std.proofs.lemmas.List.{get_or-set_same}
use Rattle.std.proofs.lemmas.List.Quantifiers.{position-Some}
use Rattle.std.proofs.lemmas.Option.{none-some}
use Rattle.tg_rights.specs.RightSet.{RightSet, is_none_held, minus, union}
use Rattle.tg_word.specs.declared.Place.{Place}
use Rattle.tg_word.specs.Word.{IsPlace, is_present, place_in, rights_in, word_at}
use Rattle.tg_word.proofs.Packing.{is_present-word_at, place_in-word_at}
use Rattle.tg_block.specs.declared.CellKind.TheVariants.{Object}
use Rattle.tg_space.specs.SpaceList.{SpaceList, HasCell, IsSpaceList, cell_at, cells_of, with_word_at}
use Rattle.tg_space.specs.SpaceTable.{SpaceTable, IsNursery, IsSpaceTable}
use Rattle.tg_space.specs.Soundness.{AreSound, IsKindAt}
use Rattle.tg_space.specs.Rows.{chunks_from, link_at, row_of}
use Rattle.tg_space.proofs.Tables.{table_list}
use Rattle.tg_nursery.specs.Allocation.{HasRoomLeft}
use Rattle.tg_payload.specs.Table.{Payloads}
use Rattle.tg_index.specs.Slots.{Slots, HasVacant, IsFirstVacant, IsIndexOf, PutsAt, place_number}
use Rattle.tg_rows.specs.Graph.{IsGraph}
use Rattle.tg_rows.specs.Index.{IsRowIndex, row_slots, name_referred}
use Rattle.tg_rows.specs.Rows.{IsRow, name_at, name_in, row_words}
use Rattle.tg_rows.specs.Spots.{is_empty, narrowed, refers_to, table_put, widened, word_where}
use Rattle.tg_rows.specs.declared.rows.Spot.TheVariants.{Reference, Empty}
use Rattle.tg_rows.proofs.Chains.{chain_chunks}
use Rattle.tg_rows.proofs.Finding.{Finds, IsReferenceTo, cell_held, empty_found, found_refers, position-None, reference_found, row_is, where_finds}
use Rattle.tg_rows.proofs.Indexed.{none_slot, nth_of_row, number_low, row_long, slot_none, slot_some, some_slot, where_none, where_nth}
use Rattle.tg_rows.proofs.IndexKept.{at_number, index_same, other_index, own_index, own_slots}
use Rattle.tg_rows.proofs.Changes.{cell_written}
use Rattle.tg_rows.proofs.Layouts.{empty_present, present_place}
use Rattle.tg_rows.proofs.Places.{cell_long, held_place}
use Rattle.tg_rows.proofs.Putting.{put_becomes}
use Rattle.tg_rows.proofs.Written.{IsSlot, word_stays}

-- a word of a row that a search found: which cell of the row it is in, and where
record FoundAt (h : SpaceList) (p q : Place) (number i : ℕ) : Type 0 where
  has : Contains (row_of h p) q
  at : number + 4 ≡ has.0 * 6 + i

found_at : (h : SpaceList) → IsSpaceList h → (p : Place) → IsRow h p → (test : ℕ → Bool) (n : ℕ) (q : Place) (i : ℕ) → position test (row_words h p) ≡ Some n → word_where test h (row_of h p) ≡ Some (q, i) → FoundAt h p q n i
found_at h is p row test n q i there found =
    let at = position-Some test (row_words h p) n 0 there in
    let long = row_long h is p row in
    let inside = at.0 in
    let number = at_number (length (row_of h p)) n (omega (arith, long)) in
    let c = (n + 3) / 6 in
    let w = 1 + (n + 3) % 6 in
    let qs = chunks_from h (length (cells_of h)) (link_at h p) in
    let both : Some (get_or (row_of h p) c q, w) ≡ Some (q, i) =
    sym (nth_of_row h is p qs row.object (chain_chunks h qs (link_at h p) row.ends) c w n q number.inside number.from number.to number.is)
    ∙ sym (where_nth h test (row_of h p) n at.0 at.2 at.1) ∙ found in
    let pair : (get_or (row_of h p) c q, w) ≡ (q, i) = cc in
    let word : w ≡ i = ap (λ (e : Place × ℕ). e.1) pair in
    let is_at = number.is in
    record { has = (c, number.inside, ap (λ (e : Place × ℕ). e.0) pair); at = omega (arith, word) }

-- the number of an empty place that a search found
pub record VacantAt (h : SpaceList) (p : Place) (s : Slots) (q : Place) (i : ℕ) : Type 0 where
  pub number : ℕ
  pub first : IsFirstVacant (row_slots h p) s.len (Some number)
  pub has : Contains (row_of h p) q
  pub at : number + 4 ≡ has.0 * 6 + i

module _ (h : SpaceList) (is : IsSpaceList h) (p : Place) (row : IsRow h p) (s : Slots) (places : List Place) (index : IsRowIndex h p s places) where
  pub vacant_at : (q : Place) (i : ℕ) → word_where is_empty h (row_of h p) ≡ Some (q, i) → VacantAt h p s q i
  vacant_at q i found = by_position (position is_empty (row_words h p)) refl
    where
      by_position : (o : Option ℕ) → position is_empty (row_words h p) ≡ o → VacantAt h p s q i
      by_position None none =
          absurd (none-some (q, i) (sym (where_none h is_empty (row_of h p) (position-None is_empty (row_words h p) none)) ∙ found))
      by_position (Some n) there =
          let at = position-Some is_empty (row_words h p) n 0 there in
          let long = row_long h is p row in
          let inside = at.0 in
          let len = index.len in
          let there_is = found_at h is p row is_empty n q i there found in
          record {
            number = n;
            first = (
              omega arith,
              none_slot h (get_or (row_words h p) n 0) at.1,
              λ m low vacant. let no : false ≡ true = sym (at.2 m low) ∙ slot_none h (get_or (row_words h p) m 0) vacant in absurd cc,
            );
            has = there_is.has;
            at = there_is.at;
          }

  pub absent : (name : ℕ) → word_where (refers_to h name) h (row_of h p) ≡ None → place_number s name ≡ None
  absent name none = by_number (place_number s name) refl
    where
      finds : All (λ word. refers_to h name word ≡ false) (row_words h p)
      finds = subst (Finds h (refers_to h name) (row_of h p)) none (where_finds h (refers_to h name) (row_of h p))

      by_number : (o : Option ℕ) → place_number s name ≡ o → place_number s name ≡ None
      by_number None e = e
      by_number (Some n) e =
          let low = number_low h is p row s places index name n e in
          let len = index.len in
          let no : false ≡ true = sym (finds n 0 (omega arith)) ∙ slot_some h (get_or (row_words h p) n 0) name ((index.names.numbers name n).0 e) in
          absurd cc

pub has_vacant : (s : Slots) (row : ℕ → Option ℕ) → IsIndexOf s row → (n : ℕ) → IsFirstVacant row s.len (Some n) → HasVacant s
has_vacant s row is n first =
    let inside = first.0 in
    ⊎_elim (λ low. let has = (is.holes n).1 (low, first.1) in let some = has.1 in inl (omega arith)) (λ high. inr (omega arith)) (cases_lt n s.next)

module _ (t : SpaceTable) (table : IsSpaceTable t) (payloads : Payloads) (graph : IsGraph t.spaces payloads) (p : Place) (object : IsKindAt t.spaces Object p) (name : ℕ) (q : Place) (i : ℕ)
    (found : (word_where (refers_to t.spaces name) t.spaces (row_of t.spaces p) ≡ None) × (word_where is_empty t.spaces (row_of t.spaces p) ≡ Some (q, i))) where
  is : IsSpaceList t.spaces
  is = table_list t table

  row : IsRow t.spaces p
  row = row_is t.spaces payloads is graph p object

  pub filled_absent : (s : Slots) (places : List Place) → IsRowIndex t.spaces p s places → place_number s name ≡ None
  filled_absent s places index = absent t.spaces is p row s places index name found.0

  pub filled_vacant : (s : Slots) (places : List Place) → IsRowIndex t.spaces p s places → HasVacant s
  filled_vacant s places index = let at = vacant_at t.spaces is p row s places index q i found.1 in has_vacant s (row_slots t.spaces p) index.names at.number at.first

  module _ (space : ℕ) (left : HasRoomLeft t space 0) (nursery : IsNursery t space) (to : Place) (target : IsKindAt t.spaces Object to) (named : name_at t.spaces to ≡ name) (rights : RightSet) (some : is_none_held rights ≡ false) where
    filled_sound : AreSound (with_word_at t.spaces q i (word_at rights to)) []
    filled_sound = (put_becomes t table payloads graph p object name (Empty q i) found space left nursery to target named rights some).graph.sound

    -- the index with one name more is that of the row
    pub filled_index : (s : Slots) (places : List Place) → IsRowIndex t.spaces p s places → (u : Slots) → u.len ≡ s.len →
        ((row later : ℕ → Option ℕ) (n : ℕ) → IsIndexOf s row → IsFirstVacant row s.len (Some n) → PutsAt row later n (Some name) → IsIndexOf u later) → IsRowIndex (table_put t space (Empty q i) rights to).spaces p u places
    filled_index s places index u len puts =
        let place : IsPlace to = held_place t.spaces is to target.held in
        let at = vacant_at t.spaces is p row s places index q i found.1 in
        let slot = empty_found t.spaces p q i found.1 in
        let written = with_word_at t.spaces q i (word_at rights to) in
        let low = slot.from in
        let high = slot.to in
        let held = cell_held t.spaces payloads is graph p object q at.has in
        let stays = word_stays t.spaces payloads is graph q held i (word_at rights to) low (omega arith) in
        let word_some : word_at rights to ≢ 0 = λ e. let no : false ≡ true = subst (λ w. is_present w ≡ true) e (is_present-word_at rights to place) in absurd cc in
        let test : (word_at rights to == 0) ≡ false = ⊎_elim (λ z. absurd (word_some z.1)) (λ f. f.0) (eqb_tells (word_at rights to) 0) in
        let names : name_in written (word_at rights to) ≡ name = ap (name_at written) (place_in-word_at rights to place) ∙ stays.names to target ∙ named in
        let is_slot : name_referred written (word_at rights to) ≡ Some name = rw test (ap (λ n. Some n) names) in
        let put = own_slots t.spaces payloads is graph p q i (word_at rights to) object at.has (low, high) filled_sound at.number at.at in
        own_index t.spaces payloads is graph p q i (word_at rights to) object at.has (low, high) filled_sound at.number at.at s places index u len
        (puts (row_slots t.spaces p) (row_slots written p) at.number index.names at.first (record { here = put.here ∙ is_slot; others = put.others }))

    -- those of other rows stay
    pub filled_others : (r : Place) (s : Slots) (places : List Place) → r ≢ p → IsKindAt t.spaces Object r → IsRowIndex t.spaces r s places → IsRowIndex (table_put t space (Empty q i) rights to).spaces r s places
    filled_others r s places other at index =
        let slot = empty_found t.spaces p q i found.1 in
        other_index t.spaces payloads is graph p q i (word_at rights to) object slot.cell (slot.from, slot.to) filled_sound r at other s places index

-- ---- a reference that is there is rewritten

-- the number of a reference that a search found
pub record NamedAt (h : SpaceList) (p : Place) (s : Slots) (name : ℕ) (q : Place) (i : ℕ) : Type 0 where
  pub number : ℕ
  pub named : place_number s name ≡ Some number
  pub has : Contains (row_of h p) q
  pub at : number + 4 ≡ has.0 * 6 + i

pub named_at : (h : SpaceList) → IsSpaceList h → (p : Place) → IsRow h p → (s : Slots) (places : List Place) → IsRowIndex h p s places → (name : ℕ) (q : Place) (i : ℕ) → word_where (refers_to h name) h (row_of h p) ≡ Some (q, i) → NamedAt h p s name q i
named_at h is p row s places index name q i found = by_position (position (refers_to h name) (row_words h p)) refl
  where
    by_position : (o : Option ℕ) → position (refers_to h name) (row_words h p) ≡ o → NamedAt h p s name q i
    by_position None none =
        absurd (none-some (q, i) (sym (where_none h (refers_to h name) (row_of h p) (position-None (refers_to h name) (row_words h p) none)) ∙ found))
    by_position (Some n) there =
        let at = position-Some (refers_to h name) (row_words h p) n 0 there in
        let there_is = found_at h is p row (refers_to h name) n q i there found in
        record {
          number = n;
          named = (index.names.numbers name n).1 (some_slot h (get_or (row_words h p) n 0) name at.1);
          has = there_is.has;
          at = there_is.at;
        }

module _ (h : SpaceList) (payloads : Payloads) (is : IsSpaceList h) (graph : IsGraph h payloads) (p : Place) (object : IsKindAt h Object p) (name : ℕ) (q : Place) (i : ℕ)
    (found : word_where (refers_to h name) h (row_of h p) ≡ Some (q, i)) (s : Slots) (places : List Place) (index : IsRowIndex h p s places) (word : ℕ) (sound : AreSound (with_word_at h q i word) []) where
  there : NamedAt h p s name q i
  there = named_at h is p (row_is h payloads is graph p object) s places index name q i found

  reference : IsReferenceTo h p name q i
  reference = reference_found h p name q i found

  slot : IsSlot h q i
  slot = (reference.from, reference.to)

  -- the word still refers to the name
  pub kept_index : name_referred (with_word_at h q i word) word ≡ Some name → IsRowIndex (with_word_at h q i word) p s places
  kept_index still =
      let put = own_slots h payloads is graph p q i word object there.has slot sound there.number there.at in
      let was = (index.names.numbers name there.number).0 there.named in
      own_index h payloads is graph p q i word object there.has slot sound there.number there.at s places index s refl
      (index_same s (row_slots h p) (row_slots (with_word_at h q i word) p)
      (λ m. ⊎_elim (λ same. ap (row_slots (with_word_at h q i word) p) same ∙ put.here ∙ still ∙ sym was ∙ ap (row_slots h p) (sym same)) (λ other. put.others m other) (cases_eq m there.number))
      index.names)

  -- the place is empty now
  pub cleared_index : name_referred (with_word_at h q i word) word ≡ None → (u : Slots) → u.len ≡ s.len →
      ((row later : ℕ → Option ℕ) (n : ℕ) → IsIndexOf s row → place_number s name ≡ Some n → PutsAt row later n None → IsIndexOf u later) → IsRowIndex (with_word_at h q i word) p u places
  cleared_index gone u len clears =
      let put = own_slots h payloads is graph p q i word object there.has slot sound there.number there.at in
      own_index h payloads is graph p q i word object there.has slot sound there.number there.at s places index u len
      (clears (row_slots h p) (row_slots (with_word_at h q i word) p) there.number index.names there.named (record { here = put.here ∙ gone; others = put.others }))

  pub has_number : IsSome (place_number s name)
  has_number = subst (λ (o : Option ℕ). IsSome o) (sym there.named) refl

  -- a word with the place that the old one had names what it named
  pub still_names : place_in word ≡ place_in (get_or (cell_at h q) i 0) → word ≢ 0 → name_referred (with_word_at h q i word) word ≡ Some name
  still_names same some =
      let written = with_word_at h q i word in
      let refers = found_refers h payloads is graph p object name q i reference in
      let held = cell_held h payloads is graph p object q reference.cell in
      let low = reference.from in
      let high = reference.to in
      let stays = word_stays h payloads is graph q held i word low (omega arith) in
      let test : (word == 0) ≡ false = ⊎_elim (λ z. absurd (some z.1)) (λ f. f.0) (eqb_tells word 0) in
      let names : name_in written word ≡ name = ap (name_at written) same ∙ stays.names (place_in (get_or (cell_at h q) i 0)) refers.object ∙ reference.named in
      rw test (ap (λ n. Some n) names)

-- what is left of a reference names what it named, or is empty
pub narrowed_place : (word : ℕ) (rights : RightSet) → IsPlace (place_in word) → narrowed word rights ≢ 0 → place_in (narrowed word rights) ≡ place_in word
narrowed_place word rights place = by_test (is_none_held (minus (rights_in word) rights))
  where
    by_test : (b : Bool) → cond b 0 (word_at (minus (rights_in word) rights) (place_in word)) ≢ 0 → place_in (cond b 0 (word_at (minus (rights_in word) rights) (place_in word))) ≡ place_in word
    by_test true some = absurd (some refl)
    by_test false _ = place_in-word_at (minus (rights_in word) rights) (place_in word) place

pub slot_of_zero : (h : SpaceList) (word : ℕ) → word ≡ 0 → name_referred h word ≡ None
slot_of_zero h word zero = let t : (word == 0) ≡ true = ⊎_elim (λ z. z.0) (λ f. absurd (f.1 zero)) (eqb_tells word 0) in rw t refl

-- the word that was written
pub word_there : (h : SpaceList) (is : IsSpaceList h) (q : Place) (held : HasCell h q) (i word : ℕ) → i < 8 → get_or (cell_at (with_word_at h q i word) q) i 0 ≡ word
word_there h is q held i word inside =
    ap (λ (ws : List ℕ). get_or ws i 0) (cell_written h is q held (set (cell_at h q) i word))
    ∙ get_or-set_same (cell_at h q) i word 0 (let long = cell_long h is q held in omega arith)

-- ---- a reference gets more rights

module _ (t : SpaceTable) (table : IsSpaceTable t) (payloads : Payloads) (graph : IsGraph t.spaces payloads) (p : Place) (object : IsKindAt t.spaces Object p) (name : ℕ) (q : Place) (i : ℕ)
    (found : word_where (refers_to t.spaces name) t.spaces (row_of t.spaces p) ≡ Some (q, i)) (space : ℕ) (left : HasRoomLeft t space 0) (nursery : IsNursery t space)
    (to : Place) (target : IsKindAt t.spaces Object to) (named : name_at t.spaces to ≡ name) (rights : RightSet) (some : is_none_held rights ≡ false) (s : Slots) (places : List Place) (index : IsRowIndex t.spaces p s places) where
  whole : IsSpaceList t.spaces
  whole = table_list t table

  wide_sound : AreSound (with_word_at t.spaces q i (widened (get_or (cell_at t.spaces q) i 0) rights)) []
  wide_sound = (put_becomes t table payloads graph p object name (Reference q i) found space left nursery to target named rights some).graph.sound

  old_place : IsPlace (place_in (get_or (cell_at t.spaces q) i 0))
  old_place = present_place (get_or (cell_at t.spaces q) i 0) (found_refers t.spaces payloads whole graph p object name q i (reference_found t.spaces p name q i found)).present

  wide_some : widened (get_or (cell_at t.spaces q) i 0) rights ≢ 0
  wide_some = empty_present (widened (get_or (cell_at t.spaces q) i 0) rights) (is_present-word_at (union (rights_in (get_or (cell_at t.spaces q) i 0)) rights) (place_in (get_or (cell_at t.spaces q) i 0)) old_place)

  pub wide_index : IsRowIndex (table_put t space (Reference q i) rights to).spaces p s places
  wide_index =
      kept_index t.spaces payloads whole graph p object name q i found s places index (widened (get_or (cell_at t.spaces q) i 0) rights) wide_sound
      (still_names t.spaces payloads whole graph p object name q i found s places index (widened (get_or (cell_at t.spaces q) i 0) rights) wide_sound
      (place_in-word_at (union (rights_in (get_or (cell_at t.spaces q) i 0)) rights) (place_in (get_or (cell_at t.spaces q) i 0)) old_place) wide_some)
