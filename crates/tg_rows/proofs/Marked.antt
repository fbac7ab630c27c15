-- Cells of rows that are known to lie in Old, and which of them are marked.
use Rattle.std.proofs.Common.{◌≡◌, ◌≢◌, ℕ, ◌+◌, ◌-◌, ◌*◌, ◌/◌, ◌%◌, ◌<◌, ◌≤◌, ◌⊎◌, inl, inr, ◌++◌, ◌&&◌, not, Bool, true, false, List, [], ◌∷◌, Option, Some, None, length, get_or, map, take, refl, sym, ap, subst, arith, ◌∙◌, ⊎_elim}
use Rattle.std.specs.Prelude.{IfSome}
use Rattle.std.specs.List.{All, Contains}
use Rattle.std.proofs.lemmas.Bool.{cases_Bool, cases_eq}
use Rattle.std.proofs.lemmas.List.{get_or-map, get_or-take, get_or_default, length-append, length-map, length-take-le, get_or_append_left}
use Rattle.std.proofs.lemmas.List.Elements.{All-nil, Contains-get_or, All-more}
use Rattle.std.proofs.lemmas.Nat.Bits.{bit_at-zero}
use Rattle.std.proofs.Math.Seq.{take-append-le}
use Rattle.std.proofs.lemmas.Option.{none-some, same_Some, slice_get-get_or}
use Rattle.tg_word.specs.declared.Place.{Place}
use Rattle.tg_block.specs.declared.CellKind.TheVariants.{Object}
use Rattle.tg_remember.proofs.NoteLemmas.{Contains-noted}
use Rattle.tg_space.specs.SpaceList.{SpaceList, IsSpaceList, cells_of}
use Rattle.tg_space.specs.Soundness.{AreSound, IsKindAt}
use Rattle.tg_space.specs.Targets.{from_space, young_spaces}
use Rattle.tg_space.specs.Rows.{chunks_from, link_at, row_of}
use Rattle.tg_space.specs.declared.kind.Kind.{Kind}
use Rattle.tg_space.specs.declared.kind.Kind.TheVariants.{Full as FullKind, Nursery}
use Rattle.tg_payload.specs.Table.{Payloads}
use Rattle.tg_index.specs.Bits.{SetsBit, bit_in}
use Rattle.tg_index.specs.Slots.{Slots, IsFirstVacant}
use Rattle.tg_rows.specs.Graph.{IsGraph}
use Rattle.tg_space.specs.Numbering.{followed_place}
use Rattle.tg_rows.specs.Index.{IsAged, IsMarked, IsOldPlace, IsPlaceOf, IsRowIndex, row_slots}
use Rattle.tg_rows.specs.Rows.{IsRow}
use Rattle.tg_rows.specs.Spots.{IsNoteIn, IsSpotFor, note_for, old_cell_if, with_note}
use Rattle.tg_rows.specs.declared.indexed_row.IndexedRow.{IndexedRow}
use Rattle.tg_rows.specs.declared.rows.Spot.{Spot}
use Rattle.tg_rows.specs.declared.rows.Spot.TheVariants.{Reference, Empty, Full}
use Rattle.tg_rows.proofs.Ages.{first_below}
use Rattle.tg_rows.proofs.Chains.{row_apart}
use Rattle.tg_rows.proofs.Finding.{empty_found, last_ends}
use Rattle.tg_rows.proofs.Indexed.{empty_none, empty_nth, last_is, places_long}
use Rattle.tg_rows.proofs.IndexKept.{at_number}

-- ---- one row

-- the same cells are known to lie in Old, and the same of them are marked
pub aged_by : (row later : IndexedRow) → later.cells.items ≡ row.cells.items → later.old_cells ≡ row.old_cells → ((n : ℕ) → bit_in later.noted n ≡ bit_in row.noted n) → IsAged row → IsAged later
aged_by row later cells old marks is = record {
  within = let low = is.within in omega (arith, low, old, ap (λ (ps : List Place). length ps) cells);
  cells = subst (All IsOldPlace) (sym (ap (λ n. take n later.cells.items) old ∙ ap (take row.old_cells) cells)) is.cells;
  marks = λ n here. let low = is.marks n (sym (marks n) ∙ here) in omega (arith, low, old);
}

pub marked_by : (places : List Place) (row later : IndexedRow) → later.cells.items ≡ row.cells.items → later.old_cells ≡ row.old_cells → ((n : ℕ) → bit_in later.noted n ≡ bit_in row.noted n) → IsMarked places row → IsMarked places later
marked_by places row later cells old marks is = record {
  aged = aged_by row later cells old marks is.aged;
  marked = λ n d low has. marks n ∙ is.marked n d (omega (arith, low, old)) (subst (λ (ps : List Place). Contains places (get_or ps n d)) cells has);
}

-- no cell is known to lie in Old
pub none_aged : (row : IndexedRow) → row.old_cells ≡ 0 → ((n : ℕ) → bit_in row.noted n ≡ 0) → IsAged row
none_aged row none marks = record {
  within = omega (arith, none);
  cells = subst (λ n. All IsOldPlace (take n row.cells.items)) (sym none) (All-nil IsOldPlace);
  marks = λ n here. let no = marks n in absurd (omega (arith, no, here));
}

pub none_marked : (places : List Place) (row : IndexedRow) → row.old_cells ≡ 0 → ((n : ℕ) → bit_in row.noted n ≡ 0) → IsMarked places row
none_marked places row none marks = record { aged = none_aged row none marks; marked = λ n d low has. absurd (omega (arith, none, low)) }

-- an empty set has no mark
pub no_marks : (words : List ℕ) → words ≡ [] → (n : ℕ) → bit_in words n ≡ 0
no_marks words none n = ap (λ (ws : List ℕ). bit_in ws n) none ∙ bit_at-zero (n % 64)

-- other cells are remembered, but no cell of the row that wasn't
pub marked_beside : (places later : List Place) (row : IndexedRow) → ((p : Place) → Contains row.cells.items p → IsOldPlace p → (Contains places p → ⊥) → Contains later p → ⊥) → IsMarked places row → IsMarked later row
marked_beside places later row apart is = record {
  aged = is.aged;
  marked = λ n d low has.
      let within = is.aged.within in
      let old : IsOldPlace (get_or row.cells.items n d) =
      subst IsOldPlace (get_or-take row.old_cells row.cells.items n d low) (is.aged.cells n d (omega (arith, low, length-take-le row.old_cells row.cells.items within))) in
      ⊎_elim (λ here. here)
      (λ unmarked. absurd (apart (get_or row.cells.items n d) (Contains-get_or row.cells.items n d (omega arith)) old (λ was. unmarked (is.marked n d low was)) has))
      (cases_eq (bit_in row.noted n) 1);
}

pub marked_beside_none : (places : List Place) (row : IndexedRow) → IsMarked places row → IsMarked [] row
marked_beside_none places row is = marked_beside places [] row (λ p among old none has. let low = has.1 in absurd (omega arith)) is

-- a chunk at the end of a row changes nothing of the first cells
pub aged_grown : (row later : IndexedRow) (chunk : Place) → later.cells.items ≡ row.cells.items ++ chunk ∷ [] → later.old_cells ≡ row.old_cells → later.noted ≡ row.noted → IsAged row → IsAged later
aged_grown row later chunk grown same marks is = record {
  within = let low = is.within in omega (arith, low, same, ap (λ (ps : List Place). length ps) grown ∙ length-append row.cells.items (chunk ∷ []));
  cells = subst (All IsOldPlace) (sym (ap (λ n. take n later.cells.items) same ∙ ap (λ (ps : List Place). take row.old_cells ps) grown ∙ take-append-le row.old_cells row.cells.items (chunk ∷ []) is.within)) is.cells;
  marks = λ n here. let low = is.marks n (ap (λ (words : List ℕ). bit_in words n) (sym marks) ∙ here) in omega (arith, low, same);
}

pub marked_grown : (places : List Place) (row later : IndexedRow) (chunk : Place) → later.cells.items ≡ row.cells.items ++ chunk ∷ [] → later.old_cells ≡ row.old_cells → later.noted ≡ row.noted → IsMarked places row → IsMarked places later
marked_grown places row later chunk grown same marks is = record {
  aged = aged_grown row later chunk grown same marks is.aged;
  marked = λ n d low has.
      let within = is.aged.within in
      let here : get_or later.cells.items n d ≡ get_or row.cells.items n d = ap (λ (ps : List Place). get_or ps n d) grown ∙ get_or_append_left row.cells.items (chunk ∷ []) d n (omega (arith, low, same, within)) in
      ap (λ (words : List ℕ). bit_in words n) marks ∙ is.marked n d (omega (arith, low, same)) (subst (Contains places) here has);
}

-- one more cell is marked
pub aged_set : (row later : IndexedRow) (number : ℕ) → later.cells.items ≡ row.cells.items → later.old_cells ≡ row.old_cells → SetsBit row.noted later.noted number 1 → number < row.old_cells → IsAged row → IsAged later
aged_set row later number cells old sets low is = record {
  within = let long = is.within in omega (arith, long, old, ap (λ (ps : List Place). length ps) cells);
  cells = subst (All IsOldPlace) (sym (ap (λ n. take n later.cells.items) old ∙ ap (take row.old_cells) cells)) is.cells;
  marks = λ n here. ⊎_elim (λ same. omega (arith, same, low, old)) (λ other. let below = is.marks n (sym (sets.others n other) ∙ here) in omega (arith, below, old)) (cases_eq n number);
}

-- a cell is noted, and marked if it is known to lie in Old
pub marked_noted : (places : List Place) (note : Option Place) (row later : IndexedRow) → IsAged later → later.cells.items ≡ row.cells.items → later.old_cells ≡ row.old_cells → ((n : ℕ) → bit_in row.noted n ≡ 1 → bit_in later.noted n ≡ 1) →
    IfSome note (λ cell. (n : ℕ) → n < row.old_cells → get_or row.cells.items n cell ≡ cell → bit_in later.noted n ≡ 1) → IsMarked places row → IsMarked (with_note places note) later
marked_noted places note row later aged cells old more noted is = record {
  aged = aged;
  marked = λ n d low has. by_note note noted n d (omega (arith, low, old)) (subst (λ (ps : List Place). Contains (with_note places note) (get_or ps n d)) cells has);
}
  where
    by_note : (o : Option Place) → IfSome o (λ cell. (n : ℕ) → n < row.old_cells → get_or row.cells.items n cell ≡ cell → bit_in later.noted n ≡ 1) → (n : ℕ) (d : Place) → n < row.old_cells → Contains (with_note places o) (get_or row.cells.items n d) → bit_in later.noted n ≡ 1
    by_note None _ n d low has = more n (is.marked n d low has)
    by_note (Some cell) at n d low has =
        let within = is.aged.within in
        ⊎_elim (λ was. more n (is.marked n d low was))
        (λ same_cell. at n low (get_or_default row.cells.items n cell d (omega arith) ∙ same_cell))
        ((Contains-noted places cell (get_or row.cells.items n d)).0 has)

-- it is the cell with this number, which is marked now
pub marked_set : (places : List Place) (note : Option Place) (row later : IndexedRow) (number : ℕ) → later.cells.items ≡ row.cells.items → later.old_cells ≡ row.old_cells → SetsBit row.noted later.noted number 1 → number < row.old_cells →
    IfSome note (λ cell. (n : ℕ) → n < length row.cells.items → get_or row.cells.items n cell ≡ cell → n ≡ number) → IsMarked places row → IsMarked (with_note places note) later
marked_set places note row later number cells old sets low at is =
    marked_noted places note row later (aged_set row later number cells old sets low is.aged) cells old more (by_note note at) is
  where
    more : (n : ℕ) → bit_in row.noted n ≡ 1 → bit_in later.noted n ≡ 1
    more n here = ⊎_elim (λ (same : n ≡ number). ap (λ k. bit_in later.noted k) same ∙ sets.here) (λ other. sets.others n other ∙ here) (cases_eq n number)

    by_note : (o : Option Place) → IfSome o (λ cell. (n : ℕ) → n < length row.cells.items → get_or row.cells.items n cell ≡ cell → n ≡ number) → IfSome o (λ cell. (n : ℕ) → n < row.old_cells → get_or row.cells.items n cell ≡ cell → bit_in later.noted n ≡ 1)
    by_note None _ = tt
    by_note (Some cell) is_at = λ n below there. let within = is.aged.within in ap (λ k. bit_in later.noted k) (is_at n (omega arith) there) ∙ sets.here

-- it isn't among those that are known to lie in Old
pub marked_apart : (places : List Place) (note : Option Place) (row : IndexedRow) (number : ℕ) → row.old_cells ≤ number → IfSome note (λ cell. (n : ℕ) → n < length row.cells.items → get_or row.cells.items n cell ≡ cell → n ≡ number) → IsMarked places row → IsMarked (with_note places note) row
marked_apart places note row number past at is = marked_noted places note row row is.aged refl refl (λ n here. here) (by_note note at) is
  where
    by_note : (o : Option Place) → IfSome o (λ cell. (n : ℕ) → n < length row.cells.items → get_or row.cells.items n cell ≡ cell → n ≡ number) → IfSome o (λ cell. (n : ℕ) → n < row.old_cells → get_or row.cells.items n cell ≡ cell → bit_in row.noted n ≡ 1)
    by_note None _ = tt
    by_note (Some cell) is_at = λ n below there. let within = is.aged.within in let same = is_at n (omega arith) there in absurd (omega (arith, same, below, past))

-- the cells that are known to lie in Old stay where they are
pub marked_moved : (kind : Kind) (starts : List ℕ) (to : ℕ → Place) (notes : List Place) (row later : IndexedRow) → IsMarked notes row → (kind ≡ FullKind → row.old_cells ≡ 0) → later.cells.items ≡ map (followed_place (from_space kind) starts to) row.cells.items → later.old_cells ≡ row.old_cells → later.noted ≡ row.noted → IsMarked notes later
marked_moved kind starts to notes row later is full moved old marks = record {
  aged = record {
    within = let low = is.aged.within in omega (arith, low, old, long);
    cells = λ k d low.
        let before : k < later.old_cells = first_below later.cells.items later.old_cells k low in
        subst IsOldPlace (sym (get_or-take later.old_cells later.cells.items k d before ∙ stays k d (omega (arith, before, old)))) (is_old k d (omega (arith, before, old)));
    marks = λ n here. let low = is.aged.marks n (ap (λ (words : List ℕ). bit_in words n) (sym marks) ∙ here) in omega (arith, low, old);
  };
  marked = λ n d low has.
      ap (λ (words : List ℕ). bit_in words n) marks ∙ is.marked n d (omega (arith, low, old)) (subst (Contains notes) (stays n d (omega (arith, low, old))) has);
}
  where
    f : Place → Place
    f = followed_place (from_space kind) starts to

    long : length later.cells.items ≡ length row.cells.items
    long = ap (λ (ps : List Place). length ps) moved ∙ length-map row.cells.items f

    is_old : (k : ℕ) (d : Place) → k < row.old_cells → IsOldPlace (get_or row.cells.items k d)
    is_old k d low =
        let within = is.aged.within in
        subst IsOldPlace (get_or-take row.old_cells row.cells.items k d low) (is.aged.cells k d (omega (arith, low, length-take-le row.old_cells row.cells.items within)))

    stay_in : (some : Kind) → (some ≡ FullKind → row.old_cells ≡ 0) → (p : Place) (k : ℕ) → k < row.old_cells → IsOldPlace p → followed_place (from_space some) starts to p ≡ p
    stay_in FullKind none p k low old_place = let zero_cells = none refl in absurd (omega (arith, zero_cells, low))
    stay_in Nursery none p k low old_place = rw old_place refl

    stays : (k : ℕ) (d : Place) → k < row.old_cells → get_or later.cells.items k d ≡ get_or row.cells.items k d
    stays k d low =
        let within = is.aged.within in
        ap (λ (ps : List Place). get_or ps k d) moved ∙ get_or-map f row.cells.items k d d (omega arith) ∙ stay_in kind full (get_or row.cells.items k d) k low (is_old k d low)

-- ---- marks, while notes are gone through

-- a mark goes, of a cell that isn't noted
pub forgot_one : (notes : List Place) (row : IndexedRow) (marks : List ℕ) (number : ℕ) (cell : Place) → SetsBit row.noted marks number 0 → get_or row.cells.items number cell ≡ cell → (Contains notes cell → ⊥) → IsMarked notes row →
    IsMarked notes (record { names = row.names; cells = row.cells; old_cells = row.old_cells; noted = marks })
forgot_one notes row marks number cell sets at unnoted is = record {
  aged = record {
    within = is.aged.within;
    cells = is.aged.cells;
    marks = λ n here.
        ⊎_elim (λ same. let no : 1 ≡ 0 = sym here ∙ ap (λ k. bit_in marks k) same ∙ sets.here in absurd (omega (arith, no)))
        (λ other. is.aged.marks n (sym (sets.others n other) ∙ here))
        (cases_eq n number);
  };
  marked = λ n d low has.
      let within = is.aged.within in
      ⊎_elim
      (λ (same : n ≡ number).
      let here : get_or row.cells.items n d ≡ cell = get_or_default row.cells.items n d cell (omega (arith, low, within)) ∙ ap (λ k. get_or row.cells.items k cell) same ∙ at in
      absurd (unnoted (subst (Contains notes) here has)))
      (λ other. sets.others n other ∙ is.marked n d low has)
      (cases_eq n number);
}

-- one more cell is known to lie in Old, and is marked where it is noted
pub aged_one : (notes : List Place) (row : IndexedRow) (marks : List ℕ) → ((n : ℕ) → bit_in marks n ≡ 1 → n < row.old_cells + 1) → ((n : ℕ) → bit_in row.noted n ≡ 1 → bit_in marks n ≡ 1) →
    (d : Place) → row.old_cells < length row.cells.items → IsOldPlace (get_or row.cells.items row.old_cells d) → (Contains notes (get_or row.cells.items row.old_cells d) → bit_in marks row.old_cells ≡ 1) → IsMarked notes row →
    IsMarked notes (record { names = row.names; cells = row.cells; old_cells = row.old_cells + 1; noted = marks })
aged_one notes row marks only more d inside here noted is = record {
  aged = record { within = omega (arith, inside); cells = All-more IsOldPlace row.cells.items row.old_cells d inside is.aged.cells here; marks = only };
  marked = λ n e low has.
      ⊎_elim
      (λ (same : n ≡ row.old_cells).
      let at : get_or row.cells.items n e ≡ get_or row.cells.items row.old_cells d = ap (λ k. get_or row.cells.items k e) same ∙ get_or_default row.cells.items row.old_cells e d inside in
      ap (λ k. bit_in marks k) same ∙ noted (subst (Contains notes) at has))
      (λ other. more n (is.marked n e (omega (arith, low, other)) has))
      (cases_eq n row.old_cells);
}

-- where none is remembered, no mark is needed
pub unmarked : (notes : List Place) → length notes ≡ 0 → (later : IndexedRow) → later.old_cells ≤ length later.cells.items → All IsOldPlace (take later.old_cells later.cells.items) → ((n : ℕ) → bit_in later.noted n ≡ 1 → n < later.old_cells) → IsMarked notes later
unmarked notes none later within old marks = record {
  aged = record { within = within; cells = old; marks = marks };
  marked = λ n d low has. let among = has.1 in absurd (omega (arith, none, among));
}

-- ---- which cell is noted

noted_if : (wanted : Bool) (c : Place) (cell : Place) → old_cell_if wanted c ≡ Some cell → c ≡ cell
noted_if wanted c cell is = by_test (cases_Bool (wanted && not (young_spaces c.space)))
  where
    by_test : ((wanted && not (young_spaces c.space)) ≡ true) ⊎ ((wanted && not (young_spaces c.space)) ≡ false) → c ≡ cell
    by_test (inl t) = let same : Some c ≡ Some cell = rw t at is in cc
    by_test (inr f) = let no : ◌≡◌ {A = Option Place} None (Some cell) = rw f at is in absurd (none-some cell no)

module _ (h : SpaceList) (is : IsSpaceList h) (from : Place) (row : IsRow h from) where
  abbrev qs : List Place
  qs = chunks_from h (length (cells_of h)) (link_at h from)

  -- the cell that is noted is one of the row
  pub note_in_row : (cell : Place) → IsNoteIn h from (Some cell) → Contains (row_of h from) cell
  note_in_row cell note = by_spot note.spot note.found note.is
    where
      by_spot : (spot : Spot) → IsSpotFor h note.name from spot → Some cell ≡ note_for spot note.young → Contains (row_of h from) cell
      by_spot (Reference c i) found same = absurd (none-some cell (sym same))
      by_spot (Empty c i) found same = subst (Contains (row_of h from)) (noted_if note.young c cell (sym same)) (empty_found h from c i found.1).cell
      by_spot (Full last) found same = subst (Contains (row_of h from)) (found.2 ∙ noted_if true last cell (sym same)) (last_ends h from qs row.ends).0

  module _ (s : Slots) (cells : List Place) (index : IsRowIndex h from s cells) where
    -- it is the cell with the first empty place, or the last one
    pub note_number : (cell : Place) → IsNoteIn h from (Some cell) → (o : Option ℕ) → IsFirstVacant (row_slots h from) s.len o → (number : ℕ) → number < length cells →
        ((n : ℕ) → o ≡ Some n → (number * 6 ≤ n + 3) × (n + 3 < number * 6 + 6)) → (o ≡ None → number ≡ length cells - 1) → get_or cells number cell ≡ cell
    note_number cell note o first number inside some none = by_spot note.spot note.found note.is o first some none
      where
        by_spot : (spot : Spot) → IsSpotFor h note.name from spot → Some cell ≡ note_for spot note.young → (o : Option ℕ) → IsFirstVacant (row_slots h from) s.len o →
            ((n : ℕ) → o ≡ Some n → (number * 6 ≤ n + 3) × (n + 3 < number * 6 + 6)) → (o ≡ None → number ≡ length cells - 1) → get_or cells number cell ≡ cell
        by_spot (Reference c i) found same o first some none = absurd (none-some cell (sym same))
        by_spot (Empty c i) found same None first some none = absurd (none-some (c, i) (sym (empty_none h is from row s cells index first) ∙ found.1))
        by_spot (Empty c i) found same (Some n) first some none =
            let at = some n refl in
            let low = at.0 in
            let high = at.1 in
            let q = get_or cells number cell in
            let place : IsPlaceOf cells n (q, n + 4 - number * 6) = record { number = number; cell = slice_get-get_or cells number cell inside; inside = inside; is = omega arith; from = omega arith; to = omega arith } in
            let both : Some (q, n + 4 - number * 6) ≡ Some (c, i) = sym (empty_nth h is from row s cells index n q (n + 4 - number * 6) first place) ∙ found.1 in
            let here : q ≡ c = ap (λ (e : Place × ℕ). e.0) (same_Some _ _ both) in
            here ∙ noted_if note.young c cell (sym same)
        by_spot (Full last) found same (Some n) first some none =
            let at = some n refl in
            let low = at.0 in
            let high = at.1 in
            let q = get_or cells number cell in
            let place : IsPlaceOf cells n (q, n + 4 - number * 6) = record { number = number; cell = slice_get-get_or cells number cell inside; inside = inside; is = omega arith; from = omega arith; to = omega arith } in
            absurd (none-some (q, n + 4 - number * 6) (sym found.1 ∙ empty_nth h is from row s cells index n q (n + 4 - number * 6) first place))
        by_spot (Full last) found same None first some none =
            let at = none refl in
            let q = get_or cells number cell in
            let here : q ≡ get_or cells (length cells - 1) q = ap (λ k. get_or cells k cell) at ∙ get_or_default cells (length cells - 1) cell q (omega arith) in
            sym (last_is h is from row s cells index q here) ∙ found.2 ∙ noted_if true last cell (sym same)

-- ---- the other rows

-- each row but that of the object at a place stays marked
abbrev pub KeepsOthersMarked : SpaceList → List Place → List Place → Place → Type 0
KeepsOthersMarked h before now from =
    (p : Place) (row : IndexedRow) → p ≢ from → IsKindAt h Object p → row.cells.items ≡ row_of h p → IsMarked before row → IsMarked now row

pub others_marked_same : (h : SpaceList) (before now : List Place) (from : Place) → now ≡ before → KeepsOthersMarked h before now from
others_marked_same h before now from same p row other object cells marked = subst (λ (ps : List Place). IsMarked ps row) (sym same) marked

module _ (h : SpaceList) (is : IsSpaceList h) (payloads : Payloads) (graph : IsGraph h payloads) (from : Place) (object : IsKindAt h Object from) where
  -- a cell of a row is noted
  pub others_marked : (note : Option Place) → IsNoteIn h from note → (before now : List Place) → now ≡ with_note before note → KeepsOthersMarked h before now from
  others_marked None note before now same p row other at cells marked = subst (λ (ps : List Place). IsMarked ps row) (sym same) marked
  others_marked (Some cell) note before now same p row other at cells marked =
      marked_beside before now row
      (λ q among old none has. ⊎_elim none (λ same_cell. apart (subst (λ (ps : List Place). Contains ps q) cells among) same_cell) ((Contains-noted before cell q).0 (subst (λ (ps : List Place). Contains ps q) same has)))
      marked
    where
      mine : Contains (row_of h from) cell
      mine = note_in_row h is from (record { object = object; ends = graph.ends from object }) cell note

      apart : {q : Place} → Contains (row_of h p) q → q ≡ cell → ⊥
      apart {q} among same_cell =
          other (row_apart h is [] graph.sound p from (chunks_from h (length (cells_of h)) (link_at h p)) (chunks_from h (length (cells_of h)) (link_at h from)) at object (graph.ends p at) (graph.ends from object)
          among.0 mine.0 cell among.1 mine.1
          (get_or_default (row_of h p) among.0 cell q among.1 ∙ among.2 ∙ same_cell ∙ sym mine.2)).0

-- ---- the row itself

module _ (h : SpaceList) (is : IsSpaceList h) (sound : AreSound h []) (from : Place) (row : IsRow h from) (s : Slots) (cells : List Place) (index : IsRowIndex h from s cells) where
  -- a cell has one number
  same_number : (number n : ℕ) (cell : Place) → number < length cells → get_or cells number cell ≡ cell → n < length cells → get_or cells n cell ≡ cell → n ≡ number
  same_number number n cell inside at low there =
      let in_row : number < length (row_of h from) = subst (λ (ps : List Place). number < length ps) index.cells inside in
      let also : n < length (row_of h from) = subst (λ (ps : List Place). n < length ps) index.cells low in
      let rest = chunks_from h (length (cells_of h)) (link_at h from) in
      (row_apart h is [] sound from from rest rest row.object row.object row.ends row.ends n number cell also in_row (subst (λ (ps : List Place). get_or ps n cell ≡ get_or ps number cell) index.cells (there ∙ sym at))).1

  -- the noted cell is the one with the first empty place, or the last one
  pub note_is : (note : Option Place) → IsNoteIn h from note → (o : Option ℕ) → IsFirstVacant (row_slots h from) s.len o → (number : ℕ) → ((n : ℕ) → o ≡ Some n → number ≡ (n + 3) / 6) → (o ≡ None → number ≡ length cells - 1) →
      IfSome note (λ cell. (n : ℕ) → n < length cells → get_or cells n cell ≡ cell → n ≡ number)
  note_is None note o first number some none = tt
  note_is (Some cell) note o first number some none = by_first o first some none
    where
      long : s.len + 3 ≡ length cells * 6
      long = places_long h is from row s cells index

      by_first : (o : Option ℕ) → IsFirstVacant (row_slots h from) s.len o → ((n : ℕ) → o ≡ Some n → number ≡ (n + 3) / 6) → (o ≡ None → number ≡ length cells - 1) → (n : ℕ) → n < length cells → get_or cells n cell ≡ cell → n ≡ number
      by_first None first some none m low there =
          let at = none refl in
          let many = long in
          let inside : number < length cells = omega arith in
          same_number number m cell inside (note_number h is from row s cells index cell note None first number inside (λ n same. absurd (none-some n same)) none) low there
      by_first (Some n) first some none m low there =
          let at = some n refl in
          let many = long in
          let before = first.0 in
          let split = at_number (length cells) n (omega arith) in
          let first_in = split.inside in
          let is_at = split.is in
          let from_one = split.from in
          let to_six = split.to in
          let inside : number < length cells = omega arith in
          same_number number m cell inside
          (note_number h is from row s cells index cell note (Some n) first number inside
          (λ k same. let both : n ≡ k = same_Some _ _ same in (omega (arith, both), omega (arith, both)))
          (λ same. absurd (none-some n (sym same)))) low there
