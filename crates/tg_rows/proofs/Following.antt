-- What a change of one row leaves of the indexes of all.
use Rattle.std.proofs.Common.{◌≡◌, ◌≢◌, ℕ, ◌+◌, ◌^◌, ◌<◌, ◌≤◌, ◌++◌, ◌∷◌, List, [], Option, Some, None, IsSome, length, get_or, nat_eq, refl, sym, ap, subst, arith, ◌∙◌, ⊎_elim, false}
use Rattle.std.specs.Map.{lookup}
use Rattle.std.proofs.lemmas.Bool.{cases_eq}
use Rattle.tg_word.specs.declared.Place.{Place}
use Rattle.tg_word.specs.Word.{place_in, word_at}
use Rattle.tg_block.specs.declared.CellKind.TheVariants.{Object}
use Rattle.tg_model.specs.Graph.{without_rights}
use Rattle.tg_space.specs.SpaceList.{SpaceList, HasCell, IsSpaceList, cell_at, cells_of}
use Rattle.tg_space.specs.SpaceTable.{SpaceTable, place_in_space, used_of, IsNursery, IsSpaceTable}
use Rattle.tg_space.specs.Soundness.{IsKindAt}
use Rattle.tg_space.specs.Rows.{link_at, row_of, chunks_from}
use Rattle.tg_space.proofs.Flat.{length-cells_of}
use Rattle.tg_space.proofs.Tables.{count_few, table_list}
use Rattle.tg_index.specs.Slots.{Slots, HasVacant, IsFirstVacant, IsIndexOf, PutsAt, place_number}
use Rattle.tg_rows.specs.Content.{IsNamed}
use Rattle.tg_rows.specs.Inner.Following.{AreBehind, IsRowFollowed, IsNarrowed, IsNotedIn, IsPutAt, IsReadyToFollow, IsReadyAt, IsWay}
use Rattle.tg_rows.specs.Graph.{content_in, IsGraph}
use Rattle.tg_rows.specs.Index.{Indexes, IsRowIndex, KeepsOtherIndexes}
use Rattle.tg_rows.specs.Rows.{IsRow, IsVertexAt, name_at}
use Rattle.tg_rows.specs.Spots.{narrowed, word_put, IsSpotIn, cells_for, table_put, widened}
use Rattle.tg_rows.specs.declared.indexed_row.IndexedRow.{IndexedRow}
use Rattle.tg_rows.specs.declared.indexes.Way.{Way}
use Rattle.tg_rows.specs.declared.indexes.Way.TheVariants.{Walk, Index, New}
use Rattle.tg_rows.specs.declared.rows.Spot.{Spot}
use Rattle.tg_rows.specs.declared.rows.Spot.TheVariants.{Reference, Empty, Full}
use Rattle.tg_rows.proofs.IndexExtend.{full_absent, full_chunk, full_held, full_index, full_others, full_row}
use Rattle.tg_rows.proofs.IndexMoved.{kept_rows_index}
use Rattle.tg_rows.proofs.Changes.{holds_written}
use Rattle.tg_rows.proofs.Finding.{IsReferenceTo, cell_held, found_refers, reference_found, empty_found}
use Rattle.tg_rows.proofs.IndexKept.{other_index, written_row}
use Rattle.tg_rows.proofs.IndexPut.{cleared_index, filled_absent, filled_index, filled_vacant, has_number, kept_index, narrowed_place, slot_of_zero, still_names, wide_index, word_there, filled_others}
use Rattle.tg_rows.proofs.IndexedRows.{Entries}
use Rattle.tg_rows.proofs.Changed.{Becomes}
use Rattle.tg_rows.proofs.Layouts.{present_place}
use Rattle.tg_rows.proofs.Indexed.{places_short}
use Rattle.tg_rows.proofs.Putting.{narrowed_becomes, put_becomes}
use Rattle.tg_rows.proofs.Marked.{KeepsOthersMarked, others_marked}
use Rattle.tg_rights.specs.RightSet.{RightSet, is_none_held}
use Rattle.tg_nursery.specs.Allocation.{HasRoomLeft}
use Rattle.tg_payload.specs.Table.{Payloads}
use Rattle.std.proofs.lemmas.List.{length-append}

-- ---- the indexes of other rows

module _ (t : SpaceTable) (table : IsSpaceTable t) (payloads : Payloads) (graph : IsGraph t.spaces payloads) (p : Place) (object : IsKindAt t.spaces Object p) (name : ℕ)
    (space : ℕ) (nursery : IsNursery t space) (to : Place) (target : IsKindAt t.spaces Object to) (named : name_at t.spaces to ≡ name) (rights : RightSet) (some : is_none_held rights ≡ false)
    (r : Place) (s : Slots) (places : List Place) (other : r ≢ p) (at : IsKindAt t.spaces Object r) (index : IsRowIndex t.spaces r s places) where
  pub others_put : (spot : Spot) → IsSpotIn t.spaces name p (chunks_from t.spaces (length (cells_of t.spaces)) (link_at t.spaces p)) spot → HasRoomLeft t space (cells_for spot) → IsRowIndex (table_put t space spot rights to).spaces r s places
  others_put (Reference q i) found left =
      let reference = reference_found t.spaces p name q i found in
      let sound = (put_becomes t table payloads graph p object name (Reference q i) found space left nursery to target named rights some).graph.sound in
      other_index t.spaces payloads (table_list t table) graph p q i (widened (get_or (cell_at t.spaces q) i 0) rights) object reference.cell (reference.from, reference.to) sound r at other s places index
  others_put (Empty q i) found left = filled_others t table payloads graph p object name q i found space left nursery to target named rights some r s places other at index
  others_put (Full last) found left = full_others t table payloads graph p object name last found space left nursery to target named rights some r s places other at index

-- ---- the length of the row itself

module _ (t : SpaceTable) (table : IsSpaceTable t) (payloads : Payloads) (graph : IsGraph t.spaces payloads) (p : Place) (object : IsKindAt t.spaces Object p) (name : ℕ)
    (space : ℕ) (nursery : IsNursery t space) (to : Place) (target : IsKindAt t.spaces Object to) (named : name_at t.spaces to ≡ name) (rights : RightSet) (some : is_none_held rights ≡ false) where
  pub grown_put : (spot : Spot) → IsSpotIn t.spaces name p (chunks_from t.spaces (length (cells_of t.spaces)) (link_at t.spaces p)) spot → HasRoomLeft t space (cells_for spot) → length (row_of (table_put t space spot rights to).spaces p) ≤ length (row_of t.spaces p) + 1
  grown_put (Reference q i) found left =
      let reference = reference_found t.spaces p name q i found in
      let sound = (put_becomes t table payloads graph p object name (Reference q i) found space left nursery to target named rights some).graph.sound in
      let same = ap (λ (ps : List Place). length ps) (written_row t.spaces payloads (table_list t table) graph p q i (widened (get_or (cell_at t.spaces q) i 0) rights) object reference.cell (reference.from, reference.to) sound p object) in
      omega (arith, same)
  grown_put (Empty q i) found left =
      let slot = empty_found t.spaces p q i found.1 in
      let sound = (put_becomes t table payloads graph p object name (Empty q i) found space left nursery to target named rights some).graph.sound in
      let same = ap (λ (ps : List Place). length ps) (written_row t.spaces payloads (table_list t table) graph p q i (word_at rights to) object slot.cell (slot.from, slot.to) sound p object) in
      omega (arith, same)
  grown_put (Full last) found left =
      let longer = ap (λ (ps : List Place). length ps) (full_row t table payloads graph p object name last found space left nursery to target named rights some) in
      let all = length-append (row_of t.spaces p) (place_in_space space (used_of t space) ∷ []) in
      omega (arith, longer, all)

-- ---- rights were put at a spot

module _ {old new : SpaceTable} {from : Place} {name : ℕ} {spot : Spot} {note : Option Place} (put : IsPutAt old new from name spot note) where
  pub put_vertices : (x : ℕ) (p : Place) → IsVertexAt old.spaces x p → IsVertexAt new.spaces x p
  put_vertices x p at =
      subst (λ (t : SpaceTable). IsVertexAt t.spaces x p) (sym put.put)
      ((put_becomes old put.table put.payloads put.graph from put.object name spot put.found put.space put.left put.nursery put.to put.target.object put.target.named put.rights put.some).vertices x p at)

  pub put_others : KeepsOtherIndexes old.spaces new.spaces from
  put_others r s places other at index =
      subst (λ (t : SpaceTable). IsRowIndex t.spaces r s places) (sym put.put)
      (others_put old put.table put.payloads put.graph from put.object name put.space put.nursery put.to put.target.object put.target.named put.rights put.some r s places other at index spot put.found put.left)

  pub put_grown : length (row_of new.spaces from) ≤ length (row_of old.spaces from) + 1
  put_grown =
      subst (λ (t : SpaceTable). length (row_of t.spaces from) ≤ length (row_of old.spaces from) + 1) (sym put.put)
      (grown_put old put.table put.payloads put.graph from put.object name put.space put.nursery put.to put.target.object put.target.named put.rights put.some spot put.found put.left)

-- ---- the index of the row

module _ {new : SpaceTable} {from : Place} {name : ℕ} {spot : Spot} {note : Option Place} {row : IndexedRow} (behind : IsRowFollowed new from name spot note row) where
  whole : IsRow behind.old.spaces from
  whole = record { object = behind.put.object; ends = behind.put.graph.ends from behind.put.object }

  pub behind_noted : IsNotedIn row note
  behind_noted = record {
    spaces = behind.old.spaces;
    from = from;
    list = table_list behind.old behind.put.table;
    sound = behind.put.graph.sound;
    whole = whole;
    index = behind.index;
    noted = record { name = name; spot = spot; young = behind.put.young; found = behind.put.found; is = behind.put.noted };
  }

  pub behind_short : row.names.len + 6 < 2 ^ 64
  behind_short =
      places_short behind.old.spaces (table_list behind.old behind.put.table) from whole row.names row.cells.items behind.index behind.put.graph.sound
      (omega (arith, length-cells_of behind.old.spaces behind.put.table.blocks, count_few behind.old behind.put.table))

  -- the same, where the spot is known
  at_spot : (same : Spot) → spot ≡ same → IsRowFollowed new from name same note row
  at_spot same is = subst (λ (s : Spot). IsRowFollowed new from name s note row) is behind

  -- the reference that was there got more rights
  pub index_widened : (q : Place) (i : ℕ) → spot ≡ Reference q i → IsRowIndex new.spaces from row.names row.cells.items
  index_widened q i is =
      let b = at_spot (Reference q i) is in
      let put = b.put in
      subst (λ (t : SpaceTable). IsRowIndex t.spaces from row.names row.cells.items) (sym put.put)
      (wide_index b.old put.table put.payloads put.graph from put.object name q i put.found put.space put.left put.nursery put.to put.target.object put.target.named put.rights put.some row.names row.cells.items b.index)

  -- the first empty place got a reference
  pub empty_absent : (q : Place) (i : ℕ) → spot ≡ Empty q i → place_number row.names name ≡ None
  empty_absent q i is =
      let b = at_spot (Empty q i) is in
      filled_absent b.old b.put.table b.put.payloads b.put.graph from b.put.object name q i b.put.found row.names row.cells.items b.index

  pub empty_vacant : (q : Place) (i : ℕ) → spot ≡ Empty q i → HasVacant row.names
  empty_vacant q i is =
      let b = at_spot (Empty q i) is in
      filled_vacant b.old b.put.table b.put.payloads b.put.graph from b.put.object name q i b.put.found row.names row.cells.items b.index

  pub index_filled : (q : Place) (i : ℕ) → spot ≡ Empty q i → (u : Slots) → u.len ≡ row.names.len →
      ((slots later : ℕ → Option ℕ) (n : ℕ) → IsIndexOf row.names slots → IsFirstVacant slots row.names.len (Some n) → PutsAt slots later n (Some name) → IsIndexOf u later) → IsRowIndex new.spaces from u row.cells.items
  index_filled q i is u len puts =
      let b = at_spot (Empty q i) is in
      let put = b.put in
      subst (λ (t : SpaceTable). IsRowIndex t.spaces from u row.cells.items) (sym put.put)
      (filled_index b.old put.table put.payloads put.graph from put.object name q i put.found put.space put.left put.nursery put.to put.target.object put.target.named put.rights put.some row.names row.cells.items b.index u len puts)

  -- a chunk came to the end of the row, with a reference
  pub full_lacks : (last : Place) → spot ≡ Full last → place_number row.names name ≡ None
  full_lacks last is =
      let b = at_spot (Full last) is in
      let put = b.put in
      full_absent b.old put.table put.payloads put.graph from put.object name last put.found put.space put.left put.nursery put.to put.target.object put.target.named put.rights put.some row.names row.cells.items b.index

  pub last_held : (last : Place) → spot ≡ Full last → HasCell new.spaces last
  last_held last is =
      let b = at_spot (Full last) is in
      let put = b.put in
      subst (λ (t : SpaceTable). HasCell t.spaces last) (sym put.put)
      (full_held b.old put.table put.payloads put.graph from put.object name last put.found put.space put.left put.nursery put.to put.target.object put.target.named put.rights put.some)

  pub index_extended : (last : Place) → spot ≡ Full last → (u : Slots) (cells : List Place) → u.len ≡ row.names.len + 6 →
      ((slots later : ℕ → Option ℕ) (n : ℕ) → IsIndexOf row.names slots → IsFirstVacant slots (row.names.len + 6) (Some n) → PutsAt slots later n (Some name) → IsIndexOf u later) →
      cells ≡ row.cells.items ++ place_in (link_at new.spaces last) ∷ [] → IsRowIndex new.spaces from u cells
  index_extended last is u cells len puts pushed =
      let b = at_spot (Full last) is in
      let put = b.put in
      let t = b.old in
      let at : place_in (link_at new.spaces last) ≡ place_in_space put.space (used_of t put.space) =
      ap (λ (x : SpaceTable). place_in (link_at x.spaces last)) put.put
      ∙ full_chunk t put.table put.payloads put.graph from put.object name last put.found put.space put.left put.nursery put.to put.target.object put.target.named put.rights put.some in
      let now : cells ≡ row.cells.items ++ place_in_space put.space (used_of t put.space) ∷ [] = pushed ∙ ap (λ (p : Place). row.cells.items ++ p ∷ []) at in
      subst (λ (ps : List Place). IsRowIndex new.spaces from u ps) (sym now)
      (subst (λ (x : SpaceTable). IsRowIndex x.spaces from u (row.cells.items ++ place_in_space put.space (used_of t put.space) ∷ [])) (sym put.put)
      (full_index t put.table put.payloads put.graph from put.object name last put.found put.space put.left put.nursery put.to put.target.object put.target.named put.rights put.some row.names row.cells.items b.index u len puts))

-- ---- the indexes of all rows

module _ {new : SpaceTable} {later : List Place} {rows : Indexes} {way : Way} {from : Place} {name : ℕ} {spot : Spot} {note : Option Place} (behind : AreBehind new later rows way from name spot note) where
  list : IsSpaceList behind.old.spaces
  list = table_list behind.old behind.table

  pub behind_vertices : (x : ℕ) (p : Place) → IsVertexAt behind.old.spaces x p → IsVertexAt new.spaces x p
  behind_vertices x p at =
      let keeps = behind.put.rows in
      put_vertices behind.put.put x p (record { object = keeps.objects p at.object; named = keeps.names p at.object ∙ at.named })

  pub behind_own : name_at new.spaces from ≡ name_at behind.old.spaces from
  behind_own = (behind_vertices (name_at behind.old.spaces from) from (record { object = behind.object; named = refl })).named

  pub behind_object : IsKindAt new.spaces Object from
  behind_object = (behind_vertices (name_at behind.old.spaces from) from (record { object = behind.object; named = refl })).object

  pub behind_others : KeepsOtherIndexes behind.old.spaces new.spaces from
  behind_others r s places other at index =
      put_others behind.put.put r s places other (behind.put.rows.objects r at)
      (kept_rows_index behind.old.spaces behind.put.ready.spaces behind.payloads list behind.graph behind.put.rows r at s places index)

  pub behind_marked : KeepsOthersMarked behind.old.spaces behind.places later from
  behind_marked p row other at cells marked =
      let put = behind.put.put in
      others_marked behind.put.ready.spaces (table_list behind.put.ready put.table) put.payloads put.graph from put.object note
      (record { name = name; spot = spot; young = put.young; found = put.found; is = put.noted }) behind.places later behind.put.remembered p row other (behind.put.rows.objects p at)
      (cells ∙ sym (behind.put.rows.rows p at)) marked

  pub behind_grown : length (row_of new.spaces from) ≤ length (row_of behind.old.spaces from) + 1
  behind_grown =
      let more = put_grown behind.put.put in
      let same = ap (λ (ps : List Place). length ps) (behind.put.rows.rows from behind.object) in
      omega (arith, more, same)

  pub row_behind : (row : IndexedRow) → IsRowIndex behind.old.spaces from row.names row.cells.items → IsRowFollowed new from name spot note row
  row_behind row index = record {
    old = behind.put.ready;
    put = behind.put.put;
    index = kept_rows_index behind.old.spaces behind.put.ready.spaces behind.payloads list behind.graph behind.put.rows from behind.object row.names row.cells.items index;
  }

-- ---- rights were taken

module _ {old new : SpaceTable} {from : Place} {name : ℕ} {q : Place} {i : ℕ} (taken : IsNarrowed old new from name q i) where
  abbrev word : ℕ
  word = narrowed (get_or (cell_at old.spaces q) i 0) taken.rights

  reference : IsReferenceTo old.spaces from name q i
  reference = reference_found old.spaces from name q i taken.found

  list_old : IsSpaceList old.spaces
  list_old = table_list old taken.table

  held_old : HasCell old.spaces q
  held_old = cell_held old.spaces taken.payloads list_old taken.graph from taken.object q reference.cell

  narrow_becomes : Becomes old.spaces (word_put old q i (narrowed (get_or (cell_at old.spaces q) i 0) taken.rights)).spaces taken.payloads (IsNamed (content_in old.spaces taken.payloads))
      (without_rights (content_in old.spaces taken.payloads).label (name_at old.spaces from) name taken.rights) (content_in old.spaces taken.payloads).value
  narrow_becomes = narrowed_becomes old taken.table taken.payloads taken.graph from taken.object name taken.rights q i taken.found

  pub narrowed_vertices : (x : ℕ) (p : Place) → IsVertexAt old.spaces x p → IsVertexAt new.spaces x p
  narrowed_vertices x p at = subst (λ (t : SpaceTable). IsVertexAt t.spaces x p) (sym taken.written) (narrow_becomes.vertices x p at)

  pub narrowed_others : KeepsOtherIndexes old.spaces new.spaces from
  narrowed_others r s places other at index =
      subst (λ (t : SpaceTable). IsRowIndex t.spaces r s places) (sym taken.written)
      (other_index old.spaces taken.payloads list_old taken.graph from q i word taken.object reference.cell (reference.from, reference.to) narrow_becomes.graph.sound r at other s places index)

  pub narrowed_held : HasCell new.spaces q
  narrowed_held = subst (λ (t : SpaceTable). HasCell t.spaces q) (sym taken.written) ((holds_written old.spaces list_old q held_old _ q).1 held_old)

  pub narrowed_inside : i < 8
  narrowed_inside = let to = reference.to in omega (arith, to)

  module _ (s : Slots) (cells : List Place) (index : IsRowIndex old.spaces from s cells) where
    pub narrowed_number : IsSome (place_number s name)
    narrowed_number = has_number old.spaces taken.payloads list_old taken.graph from taken.object name q i taken.found s cells index word narrow_becomes.graph.sound

    -- the name is gone from the index where the word is empty
    pub index_narrowed : (left : ℕ) → left ≡ get_or (cell_at new.spaces q) i 0 → (u : Slots) → u.len ≡ s.len →
        (left ≡ 0 → (slots later : ℕ → Option ℕ) (n : ℕ) → IsIndexOf s slots → place_number s name ≡ Some n → PutsAt slots later n None → IsIndexOf u later) → (left ≢ 0 → u ≡ s) → IsRowIndex new.spaces from u cells
    index_narrowed left read u len gone kept =
        let is_word : left ≡ word = read ∙ ap (λ (t : SpaceTable). get_or (cell_at t.spaces q) i 0) taken.written ∙ word_there old.spaces list_old q held_old i word narrowed_inside in
        let refers = found_refers old.spaces taken.payloads list_old taken.graph from taken.object name q i reference in
        let there = present_place (get_or (cell_at old.spaces q) i 0) refers.present in
        let sound = narrow_becomes.graph.sound in
        subst (λ (t : SpaceTable). IsRowIndex t.spaces from u cells) (sym taken.written)
        (⊎_elim
        (λ zero. cleared_index old.spaces taken.payloads list_old taken.graph from taken.object name q i taken.found s cells index word sound (slot_of_zero _ word (sym is_word ∙ zero)) u len (gone zero))
        (λ some.
        let ne : word ≢ 0 = λ e. some (is_word ∙ e) in
        subst (λ (n : Slots). IsRowIndex (word_put old q i word).spaces from n cells) (sym (kept some))
        (kept_index old.spaces taken.payloads list_old taken.graph from taken.object name q i taken.found s cells index word sound
        (still_names old.spaces taken.payloads list_old taken.graph from taken.object name q i taken.found s cells index word sound (narrowed_place (get_or (cell_at old.spaces q) i 0) taken.rights there ne) ne)))
        (cases_eq left 0))

-- a row that isn't looked along by its index has none
pub way_none : (h : SpaceList) (rows : Entries) (from : Place) (way : Way) → IsWay h rows from way → ((at : ℕ) → way ≡ Index at → ⊥) → lookup (nat_eq (name_at h from)) rows ≡ None
way_none h rows from Walk is other = is
way_none h rows from (Index at) is other = absurd (other at refl)
way_none h rows from (New row) is other = is.0

-- a row that may be changed is looked along so
pub ready_way : (h : SpaceList) (rows : Indexes) (from : Place) (way : Way) → IsReadyToFollow h rows from way → IsWay h rows.entries from way
ready_way h rows from Walk is = is.none
ready_way h rows from (Index at) is = is.here
ready_way h rows from (New row) is = (is.none, is.index)

-- the index that is there is ready for the change
pub ready_there : (rows inside : Indexes) → inside ≡ rows → (h : SpaceList) (from : Place) (way : Way) (at : ℕ) → way ≡ Index at → IsReadyToFollow h rows from way → IsReadyAt inside (name_at h from) at
ready_there rows inside same h from way at is ready = subst (λ (s : Indexes). IsReadyAt s (name_at h from) at) (sym same) (subst (λ (w : Way). IsReadyToFollow h rows from w) is ready)
