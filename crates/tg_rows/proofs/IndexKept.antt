-- What a written reference makes of the indexes of rows.
use Rattle.std.proofs.Common.{◌≡◌, ◌≢◌, ℕ, ◌+◌, ◌-◌, ◌*◌, ◌/◌, ◌%◌, ◌<◌, ◌≤◌, ◌⊎◌, ◌==◌, inl, inr, true, false, cond, List, [], ◌∷◌, ◌++◌, Option, Some, None, length, get_or, refl, sym, ap, subst, arith, ◌∙◌, ⊎_elim}
use Rattle.std.specs.Prelude.{nat_lt}
use Rattle.std.specs.List.{All, Contains}
use Rattle.std.proofs.lemmas.Bool.{cases_lt, le-ltb, lt-ltb}
use Rattle.std.proofs.lemmas.List.{get_or_append_left, get_or-append-add, get_or_past, get_or_default, get_or-set_other, get_or-set_same}
use Rattle.std.proofs.lemmas.Nat.{div-add-mod'}
use Rattle.std.proofs.lemmas.List.Elements.{All-weaker}
use Rattle.tg_word.specs.declared.Place.{Place}
use Rattle.tg_word.specs.Word.{place_in}
use Rattle.tg_block.specs.declared.CellKind.TheVariants.{Object}
use Rattle.tg_space.specs.SpaceList.{SpaceList, IsSpaceList, HasCell, cell_at, cells_of, with_word_at}
use Rattle.tg_space.specs.Soundness.{AreSound, IsKindAt, IsReference}
use Rattle.tg_space.specs.Targets.{first_pointer}
use Rattle.tg_space.specs.Rows.{chunks_from, link_at, row_of}
use Rattle.tg_payload.specs.Table.{Payloads}
use Rattle.tg_index.specs.Slots.{Slots, IsIndexOf, PutsAt}
use Rattle.tg_rows.specs.Graph.{IsGraph}
use Rattle.tg_rows.specs.Index.{IsRowIndex, row_slots, name_referred}
use Rattle.tg_rows.specs.Rows.{IsChain, IsRow, name_at, references_of, row_words, words_of}
use Rattle.tg_rows.specs.Spots.{word_of_cell}
use Rattle.tg_rows.proofs.Chains.{chain_chunks, chain_whole, row_apart, row_held, row_references}
use Rattle.tg_rows.proofs.Changes.{same_or_other}
use Rattle.tg_rows.proofs.Layouts.{first_range}
use Rattle.tg_rows.proofs.Finding.{reference_at, row_is}
use Rattle.tg_rows.proofs.Indexed.{nth_of_row, nth_word, row_long}
use Rattle.tg_rows.proofs.Changed.{Stays, row_by_links, row_chain, words_by_cells}
use Rattle.tg_rows.proofs.Places.{cell_long}
use Rattle.tg_rows.proofs.Written.{IsSlot, here, links_kept, outside, there, word_spaces, word_stays}

-- ---- the word at a place

read_at : SpaceList → Option (Place × ℕ) → ℕ
read_at h None = 0
read_at h (Some e) = get_or (cell_at h e.0) e.1 0

nth_reads : (h : SpaceList) (ps : List Place) (m : ℕ) → get_or (words_of h ps) m 0 ≡ read_at h (nth_word h ps m)
unfolding read_at
nth_reads h [] m = refl
nth_reads h (q ∷ qs) m = by_cell (cases_lt m (length words)) (nth_reads h qs (m - length words))
  where
    words : List ℕ
    words = references_of (cell_at h q)

    by_cell : (m < length words) ⊎ (length words ≤ m) → get_or (words_of h qs) (m - length words) 0 ≡ read_at h (nth_word h qs (m - length words)) →
        get_or (words ++ words_of h qs) m 0 ≡ read_at h (cond (nat_lt m (length words)) (Some (word_of_cell h q m)) (nth_word h qs (m - length words)))
    by_cell (inl low) _ =
        let t : nat_lt m (length words) ≡ true = lt-ltb m (length words) low in
        rw t (get_or_append_left words (words_of h qs) 0 m low ∙ (reference_at (cell_at h q) m low).0)
    by_cell (inr high) again =
        let t : nat_lt m (length words) ≡ false = le-ltb m (length words) high in
        let at : m ≡ length words + (m - length words) = omega arith in
        rw t (ap (λ k. get_or (words ++ words_of h qs) k 0) at ∙ get_or-append-add words (words_of h qs) (m - length words) 0 ∙ again)

-- the cell and the word with a number
pub record IsAt (cells m c w : ℕ) : Type 0 where
  pub inside : c < cells
  pub from : 1 ≤ w
  pub to : w ≤ 6
  pub is : m + 4 ≡ c * 6 + w

pub at_number : (cells m : ℕ) → m + 3 < cells * 6 → IsAt cells m ((m + 3) / 6) (1 + (m + 3) % 6)
at_number cells m low =
    let split = div-add-mod' (m + 3) 6 in
    record { inside = omega (arith, split); from = omega arith; to = omega arith; is = omega (arith, split) }

module _ (h : SpaceList) (is : IsSpaceList h) (p : Place) (row : IsRow h p) where
  -- a word of a row
  word_is : (m c w : ℕ) (d : Place) → IsAt (length (row_of h p)) m c w → get_or (row_words h p) m 0 ≡ get_or (cell_at h (get_or (row_of h p) c d)) w 0
  unfolding read_at
  word_is m c w d at =
      let qs = chunks_from h (length (cells_of h)) (link_at h p) in
      nth_reads h (row_of h p) m
      ∙ ap (read_at h) (nth_of_row h is p qs row.object (chain_chunks h qs (link_at h p) row.ends) c w m d at.inside at.from at.to at.is)

-- ---- rows with the same cells

module _ (h after : SpaceList) (is : IsSpaceList h) (after_is : IsSpaceList after) (stays : Stays h after) (sound : AreSound after []) (r : Place) (row : IsRow h r)
    (links : (c : Place) → link_at after c ≡ link_at h c) where
  same_links : All (λ c. link_at after c ≡ link_at h c) (row_of h r)
  same_links k d inside = links (get_or (row_of h r) k d)

  row_kept : row_of after r ≡ row_of h r
  row_kept = row_by_links h after stays after_is sound r row same_links

  row_after : IsRow after r
  row_after =
      let old = chunks_from h (length (cells_of h)) (link_at h r) in
      let chain = row_chain h after stays r row same_links in
      record {
        object = stays.objects r row.object;
        ends = subst (IsChain after (link_at after r)) (sym (chain_whole after after_is [] sound r old (stays.objects r row.object) chain)) chain;
      }

  long_kept : length (row_words after r) ≡ length (row_words h r)
  long_kept =
      let old = row_long h is r row in
      let new = row_long after after_is r row_after in
      let same = ap (λ (ps : List Place). length ps) row_kept in
      omega (arith, old, new, same)

  -- a word of the row is what it was where its cell has what it had there
  word_kept : (m : ℕ) → ((c w : ℕ) → IsAt (length (row_of h r)) m c w → get_or (cell_at after (get_or (row_of h r) c r)) w 0 ≡ get_or (cell_at h (get_or (row_of h r) c r)) w 0) →
      get_or (row_words after r) m 0 ≡ get_or (row_words h r) m 0
  word_kept m same = by_length (cases_lt m (length (row_words h r)))
    where
      by_length : (m < length (row_words h r)) ⊎ (length (row_words h r) ≤ m) → get_or (row_words after r) m 0 ≡ get_or (row_words h r) m 0
      by_length (inl low) =
          let long = row_long h is r row in
          let at = at_number (length (row_of h r)) m (omega (arith, long)) in
          let c = (m + 3) / 6 in
          let w = 1 + (m + 3) % 6 in
          word_is after after_is r row_after m c w r (subst (λ (ps : List Place). IsAt (length ps) m c w) (sym row_kept) at)
          ∙ ap (λ (ps : List Place). get_or (cell_at after (get_or ps c r)) w 0) row_kept ∙ same c w at ∙ sym (word_is h is r row m c w r at)
      by_length (inr high) =
          get_or_past (row_words after r) m 0 (subst (λ l. l ≤ m) (sym long_kept) high) ∙ sym (get_or_past (row_words h r) m 0 high)

-- an index is told by what is at each place
pub index_same : (s : Slots) (row later : ℕ → Option ℕ) → ((n : ℕ) → later n ≡ row n) → IsIndexOf s row → IsIndexOf s later
index_same s row later same is = record {
  numbers = λ name n. (λ e. same n ∙ (is.numbers name n).0 e, λ e. (is.numbers name n).1 (sym (same n) ∙ e));
  holes = λ n. (λ has. let at = (is.holes n).0 has in (at.0, same n ∙ at.1), λ at. (is.holes n).1 (at.0, sym (same n) ∙ at.1));
  each_once = is.each_once;
  fresh = λ n high. same n ∙ is.fresh n high;
  next = is.next;
}

-- a reference names what it named where objects keep their names
pub slot_stays : (h after : SpaceList) → ((p : Place) → IsKindAt h Object p → name_at after p ≡ name_at h p) → (word : ℕ) → IsReference h word → name_referred after word ≡ name_referred h word
slot_stays h after names word (inl none) = rw none refl
slot_stays h after names word (inr refers) = ap (λ (n : ℕ). cond (word == 0) None (Some n)) (names (place_in word) refers.object)

pub reference_of : (h : SpaceList) (payloads : Payloads) (is : IsSpaceList h) (graph : IsGraph h payloads) (r : Place) → IsKindAt h Object r → (m : ℕ) → IsReference h (get_or (row_words h r) m 0)
reference_of h payloads is graph r at m =
    ⊎_elim (λ less. row_references h is [] graph.sound r at (graph.ends r at) m 0 less) (λ past. inl (get_or_past (row_words h r) m 0 past)) (cases_lt m (length (row_words h r)))

-- the index of a row whose cells stay is the same
pub index_stays : (h after : SpaceList) (payloads : Payloads) (is : IsSpaceList h) (graph : IsGraph h payloads) → ((p : Place) → IsKindAt h Object p → name_at after p ≡ name_at h p) → (r : Place) → IsKindAt h Object r → row_of after r ≡ row_of h r →
    All (λ q. cell_at after q ≡ cell_at h q) (row_of h r) → (s : Slots) (places : List Place) → IsRowIndex h r s places → IsRowIndex after r s places
index_stays h after payloads is graph names r at row cells s places index =
    let words = words_by_cells h after r row cells in
    record {
      names = index_same s (row_slots h r) (row_slots after r)
          (λ m. ap (λ (ws : List ℕ). name_referred after (get_or ws m 0)) words ∙ slot_stays h after names (get_or (row_words h r) m 0) (reference_of h payloads is graph r at m)) index.names;
      cells = index.cells ∙ sym row;
      len = index.len ∙ ap (λ (ws : List ℕ). length ws) (sym words);
    }

-- ---- a reference is written

module _ (h : SpaceList) (payloads : Payloads) (is : IsSpaceList h) (graph : IsGraph h payloads) (p q : Place) (i word : ℕ) (object : IsKindAt h Object p) (has : Contains (row_of h p) q) (slot : IsSlot h q i)
    (sound : AreSound (with_word_at h q i word) []) where
  abbrev written : SpaceList
  written = with_word_at h q i word

  low : first_pointer (get_or (cell_at h q) 0 0) ≤ i
  low = slot.0

  high : i < 8
  high = let less = slot.1 in omega arith

  held : HasCell h q
  held = subst (HasCell h) has.2 (row_held h p (chunks_from h (length (cells_of h)) (link_at h p)) object (graph.ends p object) has.0 q has.1)

  stays : Stays h written
  stays = word_stays h payloads is graph q held i word low high

  spaces : IsSpaceList written
  spaces = word_spaces h payloads is graph q held i word low high

  links_same : (r : Place) → link_at written r ≡ link_at h r
  links_same r = links_kept h payloads is graph q held i word low slot.1 r

  -- each other word is what it was
  same_word : (x : Place) (w : ℕ) → (x ≡ q → w ≡ i → ⊥) → get_or (cell_at written x) w 0 ≡ get_or (cell_at h x) w 0
  same_word x w apart = by_place (same_or_other x q)
    where
      by_place : (x ≡ q) ⊎ (x ≢ q) → get_or (cell_at written x) w 0 ≡ get_or (cell_at h x) w 0
      by_place (inl same) =
          ap (λ (y : Place). get_or (cell_at written y) w 0) same ∙ ap (λ (ws : List ℕ). get_or ws w 0) (here h payloads is graph q held i word low high)
          ∙ get_or-set_other (cell_at h q) i w word 0 (apart same) ∙ ap (λ (y : Place). get_or (cell_at h y) w 0) (sym same)
      by_place (inr other) = ap (λ (ws : List ℕ). get_or ws w 0) (there h payloads is graph q held i word low high x other)

  module _ (r : Place) (at : IsKindAt h Object r) where
    row : IsRow h r
    row = row_is h payloads is graph r at

    cells_same : row_of written r ≡ row_of h r
    cells_same = row_kept h written is spaces stays sound r row links_same

    pub written_row : row_of (with_word_at h q i word) r ≡ row_of h r
    written_row = cells_same

    slots_same : (m : ℕ) → ((c w : ℕ) → IsAt (length (row_of h r)) m c w → get_or (row_of h r) c r ≡ q → w ≡ i → ⊥) → row_slots written r m ≡ row_slots h r m
    slots_same m apart =
        let same = word_kept h written is spaces stays sound r row links_same m (λ c w place. same_word (get_or (row_of h r) c r) w (apart c w place)) in
        ap (name_referred written) same ∙ slot_stays h written stays.names (get_or (row_words h r) m 0) (reference_of h payloads is graph r at m)

    -- the index of another row stays
    pub other_index : r ≢ p → (s : Slots) (places : List Place) → IsRowIndex h r s places → IsRowIndex (with_word_at h q i word) r s places
    other_index other =
        let apart = outside h payloads is graph q held i word low high p object has r at other in
        let cells = All-weaker (λ c. c ≢ q) (λ c. cell_at written c ≡ cell_at h c) (there h payloads is graph q held i word low high) (row_of h r) apart in
        index_stays h written payloads is graph stays.names r at cells_same cells

  -- of the row itself, one name changes
  module _ (n : ℕ) (is_at : n + 4 ≡ has.0 * 6 + i) where
    place : IsAt (length (row_of h p)) n has.0 i
    place =
        let first = (first_range (get_or (cell_at h q) 0 0)).0 in
        let from = slot.0 in
        let less = slot.1 in
        record { inside = has.1; from = omega arith; to = omega arith; is = is_at }

    pub own_slots : PutsAt (row_slots h p) (row_slots (with_word_at h q i word) p) n (name_referred (with_word_at h q i word) word)
    own_slots = record {
      here = ap (name_referred written) word_here;
      others = λ m other. slots_same p object m (λ c w at same is_i. other (apart m c w at same is_i));
    }
      where
        apart : (m c w : ℕ) → IsAt (length (row_of h p)) m c w → get_or (row_of h p) c p ≡ q → w ≡ i → m ≡ n
        apart m c w at same is_i =
            let qs = chunks_from h (length (cells_of h)) (link_at h p) in
            let mine : get_or (row_of h p) has.0 p ≡ q = get_or_default (row_of h p) has.0 p q has.1 ∙ has.2 in
            let number = (row_apart h is [] graph.sound p p qs qs object object (graph.ends p object) (graph.ends p object) c has.0 p at.inside has.1 (same ∙ sym mine)).1 in
            let one = at.is in
            let both : c * 6 ≡ has.0 * 6 = ap (λ k. k * 6) number in
            omega (arith, is_at)

        word_here : get_or (row_words written p) n 0 ≡ word
        word_here =
            let after = row_after h written is spaces stays sound p (row p object) links_same in
            let cells = cells_same p object in
            let mine : get_or (row_of h p) has.0 p ≡ q = get_or_default (row_of h p) has.0 p q has.1 ∙ has.2 in
            word_is written spaces p after n has.0 i p (subst (λ (ps : List Place). IsAt (length ps) n has.0 i) (sym cells) place)
            ∙ ap (λ (ps : List Place). get_or (cell_at written (get_or ps has.0 p)) i 0) cells ∙ ap (λ (x : Place). get_or (cell_at written x) i 0) mine
            ∙ ap (λ (ws : List ℕ). get_or ws i 0) (here h payloads is graph q held i word low high)
            ∙ get_or-set_same (cell_at h q) i word 0 (let long = cell_long h is q held in omega arith)

    pub own_index : (s : Slots) (places : List Place) → IsRowIndex h p s places → (t : Slots) → t.len ≡ s.len → IsIndexOf t (row_slots (with_word_at h q i word) p) → IsRowIndex (with_word_at h q i word) p t places
    own_index s places index t len names = record {
      names = names;
      cells = index.cells ∙ sym (cells_same p object);
      len = len ∙ index.len ∙ sym (long_kept h written is spaces stays sound p (row p object) links_same);
    }
