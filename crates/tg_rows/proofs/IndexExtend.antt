-- A chunk that comes to the end of a row, cells that come to a heap, and the indexes of rows.
use Rattle.std.proofs.Common.{[], ◌≡◌, ◌≢◌, ℕ, suc, ◌+◌, ◌-◌, ◌<◌, ◌≤◌, ◌⊎◌, ◌==◌, inl, inr, true, false, List, ◌∷◌, ◌++◌, Option, Some, None, length, get_or, set, refl, sym, ap, subst, arith, ◌∙◌, ⊎_elim}
use Rattle.std.specs.List.{All, Contains}
use Rattle.std.proofs.lemmas.Bool.{cases_lt}
use Rattle.std.proofs.lemmas.Bool.Decides.{eqb_tells}
use Rattle.std.proofs.lemmas.List.{get_or_append_left, get_or-append-add, get_or_past, length-append}
use Rattle.tg_word.specs.declared.Place.{Place}
use Rattle.tg_rights.specs.RightSet.{RightSet, is_none_held, no_rights}
use Rattle.tg_word.specs.Word.{link_to, place_in, word_at}
use Rattle.tg_word.proofs.Packing.{place_in-word_at}
use Rattle.tg_block.specs.Cells.{kind_of}
use Rattle.tg_space.specs.SpaceTable.{SpaceTable, IsNursery, IsSpaceTable, place_in_space, used_of}
use Rattle.tg_space.proofs.Tables.{table_list}
use Rattle.tg_nursery.specs.Allocation.{HasRoomLeft}
use Rattle.tg_block.specs.declared.CellKind.TheVariants.{Free, Object}
use Rattle.tg_space.specs.SpaceList.{SpaceList, HasCell, IsSpaceList, cell_at, cells_of, with_cell_at, with_word_at}
use Rattle.tg_space.specs.Soundness.{AreSound, IsKindAt, RefersTo}
use Rattle.tg_space.specs.Rows.{chunks_from, link_at, row_of}
use Rattle.tg_payload.specs.Table.{Payloads}
use Rattle.tg_index.specs.Slots.{Slots, IsFirstVacant, IsIndexOf, PutsAt, place_number}
use Rattle.tg_rows.specs.Graph.{IsGraph}
use Rattle.tg_rows.specs.Index.{IsRowIndex, row_slots, name_referred}
use Rattle.tg_rows.specs.Rows.{name_at, name_in, row_words}
use Rattle.tg_rows.specs.Spots.{IsSpotIn, chunk_words, is_empty, last_of, table_put}
use Rattle.tg_rows.specs.declared.rows.Spot.TheVariants.{Full}
use Rattle.tg_rows.proofs.Changes.{holds_written, list_written}
use Rattle.tg_rows.proofs.Finding.{Finds, cell_held, last_ends, row_is, where_finds}
use Rattle.tg_rows.proofs.Indexed.{slot_none}
use Rattle.tg_rows.proofs.IndexPut.{absent}
use Rattle.tg_rows.proofs.Putting.{name_is, others, refers}
use Rattle.tg_rows.proofs.IndexKept.{index_stays, reference_of, slot_stays}
use Rattle.tg_rows.proofs.Changed.{Stays, links_by_cells, row_by_links}
use Rattle.tg_rows.proofs.Linked.{chunk_added, extended_spaces, extended_stays, link_extended, others_extended, row_extended, row_words_extended}
use Rattle.tg_rows.proofs.Slots.{IsOther}
use Rattle.tg_rows.proofs.Layouts.{empty_present, zero_at}
use Rattle.tg_rows.proofs.Places.{held_place}

-- ---- a chunk at the end of a row

abbrev five : List ℕ
five = 0 ∷ 0 ∷ 0 ∷ 0 ∷ 0 ∷ []

zeros : (k : ℕ) → get_or five k 0 ≡ 0
zeros k = zero_at five k refl

module _ (h : SpaceList) (payloads : Payloads) (is : IsSpaceList h) (graph : IsGraph h payloads) (p last q : Place) (word : ℕ) (object : IsKindAt h Object p) (has : Contains (row_of h p) last) (ends_here : link_at h last ≡ 0)
    (free : IsKindAt h Free q) (refers : RefersTo h word) (others : All (IsOther h (name_in h word)) (row_words h p)) where
  abbrev after : SpaceList
  after = with_word_at (with_cell_at h q (chunk_words word)) last 7 (link_to q)

  stays : Stays h after
  stays = extended_stays h payloads is graph p last q word object has ends_here free refers others

  sound : AreSound after []
  sound = (chunk_added h payloads is graph p last q word object has ends_here free refers others).graph.sound

  pub extended_others : (r : Place) (s : Slots) (places : List Place) → r ≢ p → IsKindAt h Object r → IsRowIndex h r s places → IsRowIndex (with_word_at (with_cell_at h q (chunk_words word)) last 7 (link_to q)) r s places
  extended_others r s places other at index =
      let cells = others_extended h payloads is graph p last q word object has ends_here free refers others r at other in
      let spaces = extended_spaces h payloads is graph p last q word object has ends_here free refers others in
      index_stays h after payloads is graph stays.names r at (row_by_links h after stays spaces sound r (row_is h payloads is graph r at) (links_by_cells h after (row_of h r) cells)) cells s places index

  new_slot : name_referred after word ≡ Some (name_in h word)
  new_slot =
      let test : (word == 0) ≡ false = ⊎_elim (λ z. absurd (empty_present word refers.present z.1)) (λ f. f.0) (eqb_tells word 0) in
      rw test (ap (λ (n : ℕ). Some n) (stays.names (place_in word) refers.object))

  words : row_words after p ≡ row_words h p ++ word ∷ 0 ∷ 0 ∷ 0 ∷ 0 ∷ 0 ∷ []
  words = row_words_extended h payloads is graph p last q word object has ends_here free refers others

  -- the new name is right after what there was
  puts : PutsAt (row_slots h p) (row_slots after p) (length (row_words h p)) (Some (name_in h word))
  puts = record {
    here =
        ap (λ (ws : List ℕ). name_referred after (get_or ws (length (row_words h p)) 0)) words
        ∙ ap (λ k. name_referred after (get_or (row_words h p ++ word ∷ 0 ∷ 0 ∷ 0 ∷ 0 ∷ 0 ∷ []) k 0)) (let e : length (row_words h p) ≡ length (row_words h p) + 0 = omega arith in e)
        ∙ ap (name_referred after) (get_or-append-add (row_words h p) (word ∷ 0 ∷ 0 ∷ 0 ∷ 0 ∷ 0 ∷ []) 0 0) ∙ new_slot;
    others = λ m other. ap (λ (ws : List ℕ). name_referred after (get_or ws m 0)) words ∙ elsewhere m other (cases_lt m (length (row_words h p)));
  }
    where
      elsewhere : (m : ℕ) → m ≢ length (row_words h p) → (m < length (row_words h p)) ⊎ (length (row_words h p) ≤ m) → name_referred after (get_or (row_words h p ++ word ∷ 0 ∷ 0 ∷ 0 ∷ 0 ∷ 0 ∷ []) m 0) ≡ row_slots h p m
      elsewhere m other (inl low) =
          ap (name_referred after) (get_or_append_left (row_words h p) (word ∷ 0 ∷ 0 ∷ 0 ∷ 0 ∷ 0 ∷ []) 0 m low)
          ∙ slot_stays h after stays.names (get_or (row_words h p) m 0) (reference_of h payloads is graph p object m)
      elsewhere m other (inr high) =
          let k = m - length (row_words h p) - 1 in
          let at : m ≡ length (row_words h p) + suc k = omega (arith, other) in
          let nothing : get_or (row_words h p ++ word ∷ 0 ∷ 0 ∷ 0 ∷ 0 ∷ 0 ∷ []) m 0 ≡ 0 =
          ap (λ j. get_or (row_words h p ++ word ∷ 0 ∷ 0 ∷ 0 ∷ 0 ∷ 0 ∷ []) j 0) at ∙ get_or-append-add (row_words h p) (word ∷ 0 ∷ 0 ∷ 0 ∷ 0 ∷ 0 ∷ []) (suc k) 0 ∙ zeros k in
          ap (name_referred after) nothing ∙ ap (name_referred h) (sym (get_or_past (row_words h p) m 0 high))

  pub extended_index : (s : Slots) (places : List Place) → IsRowIndex h p s places → IsFirstVacant (row_slots h p) s.len None → (u : Slots) → u.len ≡ s.len + 6 →
      ((row later : ℕ → Option ℕ) (n : ℕ) → IsIndexOf s row → IsFirstVacant row (s.len + 6) (Some n) → PutsAt row later n (Some (name_in h word)) → IsIndexOf u later) →
      IsRowIndex (with_word_at (with_cell_at h q (chunk_words word)) last 7 (link_to q)) p u (places ++ q ∷ [])
  extended_index s places index full u len put =
      let slen = index.len in
      record {
        names = put (row_slots h p) (row_slots after p) (length (row_words h p)) index.names (
          omega arith,
          ap (name_referred h) (get_or_past (row_words h p) (length (row_words h p)) 0 (omega arith)),
          λ m low. full m (omega arith),
        )
            puts;
        cells = ap (λ (ps : List Place). ps ++ q ∷ []) index.cells ∙ sym (row_extended h payloads is graph p last q word object has ends_here free refers others);
        len =
            let long = ap (λ (ws : List ℕ). length ws) words in
            let all = length-append (row_words h p) (word ∷ 0 ∷ 0 ∷ 0 ∷ 0 ∷ 0 ∷ []) in
            omega (arith, len, slen, long, all);
      }

-- ---- a row with no empty place

module _ (t : SpaceTable) (table : IsSpaceTable t) (payloads : Payloads) (graph : IsGraph t.spaces payloads) (p : Place) (object : IsKindAt t.spaces Object p) (name : ℕ) (last : Place)
    (found : IsSpotIn t.spaces name p (chunks_from t.spaces (length (cells_of t.spaces)) (link_at t.spaces p)) (Full last)) (space : ℕ) (left : HasRoomLeft t space 1) (nursery : IsNursery t space)
    (to : Place) (target : IsKindAt t.spaces Object to) (named : name_at t.spaces to ≡ name) (rights : RightSet) (some : is_none_held rights ≡ false) where
  abbrev h : SpaceList
  h = t.spaces

  is : IsSpaceList t.spaces
  is = table_list t table

  is_last : last_of p (chunks_from t.spaces (length (cells_of t.spaces)) (link_at t.spaces p)) ≡ last
  is_last = found.2

  has : Contains (row_of t.spaces p) last
  has = subst (Contains (row_of t.spaces p)) is_last (last_ends t.spaces p (chunks_from t.spaces (length (cells_of t.spaces)) (link_at t.spaces p)) (graph.ends p object)).0

  ends_here : link_at t.spaces last ≡ 0
  ends_here = ap (link_at t.spaces) (sym is_last) ∙ (last_ends t.spaces p (chunks_from t.spaces (length (cells_of t.spaces)) (link_at t.spaces p)) (graph.ends p object)).1

  free : IsKindAt t.spaces Free (place_in_space space (used_of t space))
  free =
      let held : HasCell t.spaces (place_in_space space (used_of t space)) = record { space = nursery.1; block = omega (arith, left); cell = omega arith } in
      record { held = held; is = ap kind_of (table.fresh (place_in_space space (used_of t space)) held nursery.0 (omega arith)) }

  refers_new : RefersTo t.spaces (word_at rights to)
  refers_new = refers t table payloads graph p object name (Full last) found space left nursery to target named rights some

  others_new : All (IsOther t.spaces (name_in t.spaces (word_at rights to))) (row_words t.spaces p)
  others_new = others t table payloads graph p object name (Full last) found space left nursery to target named rights some found.0

  pub full_vacant : (s : Slots) (places : List Place) → IsRowIndex t.spaces p s places → IsFirstVacant (row_slots t.spaces p) s.len None
  full_vacant s places index n low vacant =
      let finds : All (λ word. is_empty word ≡ false) (row_words t.spaces p) = subst (Finds t.spaces is_empty (row_of t.spaces p)) found.1 (where_finds t.spaces is_empty (row_of t.spaces p)) in
      let len = index.len in
      let no : false ≡ true = sym (finds n 0 (omega arith)) ∙ slot_none t.spaces (get_or (row_words t.spaces p) n 0) vacant in
      cc

  pub full_absent : (s : Slots) (places : List Place) → IsRowIndex t.spaces p s places → place_number s name ≡ None
  full_absent s places index = absent t.spaces is p (row_is t.spaces payloads is graph p object) s places index name found.0

  pub full_index : (s : Slots) (places : List Place) → IsRowIndex t.spaces p s places → (u : Slots) → u.len ≡ s.len + 6 →
      ((row later : ℕ → Option ℕ) (n : ℕ) → IsIndexOf s row → IsFirstVacant row (s.len + 6) (Some n) → PutsAt row later n (Some name) → IsIndexOf u later) →
      IsRowIndex (table_put t space (Full last) rights to).spaces p u (places ++ place_in_space space (used_of t space) ∷ [])
  full_index s places index u len put =
      let names = name_is t table payloads graph p object name (Full last) found space left nursery to target named rights some in
      extended_index t.spaces payloads is graph p last (place_in_space space (used_of t space)) (word_at rights to) object has ends_here free refers_new others_new s places index (full_vacant s places index) u len
      (λ row later n of first puts. put row later n of first (record { here = puts.here ∙ ap (λ k. Some k) names; others = puts.others }))

  pub full_row : row_of (table_put t space (Full last) rights to).spaces p ≡ row_of t.spaces p ++ place_in_space space (used_of t space) ∷ []
  full_row = row_extended t.spaces payloads is graph p last (place_in_space space (used_of t space)) (word_at rights to) object has ends_here free refers_new others_new

  pub full_others : (r : Place) (s : Slots) (places : List Place) → r ≢ p → IsKindAt t.spaces Object r → IsRowIndex t.spaces r s places → IsRowIndex (table_put t space (Full last) rights to).spaces r s places
  full_others = extended_others t.spaces payloads is graph p last (place_in_space space (used_of t space)) (word_at rights to) object has ends_here free refers_new others_new

  pub full_chunk : place_in (link_at (table_put t space (Full last) rights to).spaces last) ≡ place_in_space space (used_of t space)
  full_chunk =
      ap place_in (link_extended t.spaces payloads is graph p last (place_in_space space (used_of t space)) (word_at rights to) object has ends_here free refers_new others_new)
      ∙ place_in-word_at no_rights (place_in_space space (used_of t space)) (held_place t.spaces is (place_in_space space (used_of t space)) free.held)

  pub full_held : HasCell (table_put t space (Full last) rights to).spaces last
  full_held =
      let held : HasCell t.spaces last = cell_held t.spaces payloads is graph p object last has in
      let placed = with_cell_at t.spaces (place_in_space space (used_of t space)) (chunk_words (word_at rights to)) in
      let placed_held = (holds_written t.spaces is (place_in_space space (used_of t space)) free.held (chunk_words (word_at rights to)) last).1 held in
      (holds_written placed (list_written t.spaces is (place_in_space space (used_of t space)) free.held (chunk_words (word_at rights to)) refl) last placed_held
      (set (cell_at placed last) 7 (link_to (place_in_space space (used_of t space)))) last).1 placed_held
