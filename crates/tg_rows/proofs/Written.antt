-- A reference or the last link of a row is written, and what that makes of the graph.
use Rattle.std.proofs.Common.{◌≡◌, ◌≢◌, ℕ, zero, suc, ◌<◌, ◌≤◌, ◌+◌, ◌-◌, ◌⊎◌, ◌==◌, inl, inr, List, [], ◌∷◌, ◌++◌, length, get_or, take, drop, set, refl, sym, ap, subst, arith, ◌∙◌}
use Rattle.std.specs.List.{All, Contains, IsDistinct, flat_map}
use Rattle.std.proofs.lemmas.List.{append_assoc, drop_more, drop-set-add, get_or-drop, get_or-set_other, get_or-set_same, get_or-take, get_or_default, length-drop, length-set, length-take-le, set_split, take-append-drop, take-set-le}
use lib.Seq.{take-set-lt}
use Rattle.std.proofs.lemmas.List.Elements.{All-cons, All-append, All-from_get_or, All-set, All-tail, All-weaker}
use Rattle.tg_rights.specs.RightSet.{RightSet, no_rights}
use Rattle.tg_word.specs.declared.Place.{Place}
use Rattle.tg_word.specs.Word.{place_in, rights_in}
use Rattle.tg_block.specs.Cells.{kind_of}
use Rattle.tg_block.specs.declared.CellKind.TheVariants.{Object, Chunk}
use Rattle.tg_space.specs.SpaceList.{SpaceList, IsSpaceList, HasCell, cell_at, cells_of, with_word_at}
use Rattle.tg_space.specs.Soundness.{HasLayout, HasLayoutOf, IsKindAt, IsReference, RefersTo, IsLink}
use Rattle.tg_space.specs.Rows.{link_of, chunks_from, link_at, row_of}
use Rattle.tg_space.specs.Targets.{first_pointer, pointers_of}
use Rattle.tg_payload.specs.Table.{Payloads}
use Rattle.tg_rows.specs.Content.{IsNamed}
use Rattle.tg_rows.specs.Rows.{IsChain, name_at, name_in, names_in, references_of, row_words, words_of}
use Rattle.tg_rows.specs.Graph.{IsGraph, content_in}
use Rattle.tg_rows.proofs.Members.{All-left, All-right}
use Rattle.tg_rows.proofs.Places.{cell_long, layout_at}
use Rattle.tg_rows.proofs.Layouts.{KindCases, RowCell, empty_present, first_range, is_free, is_object, is_chunk, is_bad, kind_cases, chunk_tagged, free_zero, object_tagged, references_of_chunk, references_of_object, row_cell}
use Rattle.tg_rows.proofs.Chains.{row_apart, row_held, row_references}
use Rattle.tg_rows.proofs.Changes.{cell_kept, cell_written, holds_written, list_written, same_or_other}
use Rattle.tg_rows.proofs.Slots.{IsOther, Puts, puts_changed, puts_cleared, puts_filled}
use Rattle.tg_rows.proofs.Changed.{Becomes, ShowsRow, Stays, chain_stays, flat_map_same, layout_stays, link_stays, links_stay, one_row, reference_stays, row_stays, with_label}

-- ---- one word of a cell

-- a list is another with one word replaced
record Replaces (old new : List ℕ) (was is : ℕ) : Type 0 where
  before : List ℕ
  rest : List ℕ
  of_old : old ≡ before ++ was ∷ rest
  of_new : new ≡ before ++ is ∷ rest

-- one word from the first reference on is set
module _ (words : List ℕ) (long : length words ≡ 8) (i word : ℕ) (low : first_pointer (get_or words 0 0) ≤ i) (high : i < 8) where
  abbrev first : ℕ
  first = first_pointer (get_or words 0 0)

  other_word : (j : ℕ) → j < first_pointer (get_or words 0 0) → get_or (set words i word) j 0 ≡ get_or words j 0
  other_word j below = get_or-set_other words i j word 0 (λ e. let z : j ≡ i = e in omega arith)

  tag_same : get_or (set words i word) 0 0 ≡ get_or words 0 0
  tag_same = other_word 0 (first_range (get_or words 0 0)).0

  first_same : first_pointer (get_or (set words i word) 0 0) ≡ first
  first_same = ap first_pointer tag_same

  set_after : drop first (set words i word) ≡ set (drop first words) (i - first) word
  set_after =
      let at : i ≡ first + (i - first) = omega arith in
      ap (λ (n : ℕ). drop first (set words n word)) at ∙ drop-set-add first words (i - first) word

  -- the references and the link
  pub pointers_set : pointers_of (set words i word) ≡ set (pointers_of words) (i - first_pointer (get_or words 0 0)) word
  pointers_set = ap (λ (n : ℕ). drop n (set words i word)) first_same ∙ set_after

  references_moved : references_of (set words i word) ≡ take (7 - first) (set (drop first words) (i - first) word)
  references_moved =
      ap (λ (n : ℕ). take (7 - n) (drop n (set words i word))) first_same ∙ ap (take (7 - first)) set_after

  references_length : length (references_of words) ≡ 7 - first
  references_length = length-take-le (7 - first) (drop first words) (omega (arith, length-drop first words))

  -- the link
  link_same : i < 7 → link_of (set words i word) ≡ link_of words
  link_same less = get_or-set_other words i 7 word 0 (λ e. let z : 7 ≡ i = e in omega arith)

  pub link_set : i ≡ 7 → link_of (set words i word) ≡ word
  link_set same =
      ap (λ (n : ℕ). link_of (set words n word)) same ∙ get_or-set_same words 7 word 0 (omega arith)

  pub references_same : i ≡ 7 → references_of (set words i word) ≡ references_of words
  references_same same =
      references_moved ∙ take-set-le (7 - first) (drop first words) (i - first) word (omega arith)

  -- a reference
  references_set : i < 7 → references_of (set words i word) ≡ set (references_of words) (i - first) word
  references_set less = references_moved ∙ take-set-lt (7 - first) (drop first words) (i - first) word (omega arith)

  reference_replaced : i < 7 → Replaces (references_of words) (references_of (set words i word)) (get_or words i 0) word
  reference_replaced less =
      let k = i - first in
      let inside : k < length (references_of words) = omega (arith, references_length) in
      let at : get_or (references_of words) k 0 ≡ get_or words i 0 =
      get_or-take (7 - first) (drop first words) k 0 (omega arith) ∙ get_or-drop first words k 0 ∙ ap (λ (n : ℕ). get_or words n 0) (let e : first + (i - first) ≡ i = omega arith in e) in
      let more : suc k ≡ k + 1 = omega arith in
      record {
        before = take k (references_of words);
        rest = drop (k + 1) (references_of words);
        of_old = sym (take-append-drop k (references_of words)) ∙ ap (λ (ws : List ℕ). take k (references_of words) ++ ws) (drop_more (references_of words) k 0 inside ∙ ap (λ (w : ℕ). w ∷ drop (k + 1) (references_of words)) at);
        of_new = references_set less ∙ set_split (references_of words) k word inside ∙ ap (λ (n : ℕ). take k (references_of words) ++ word ∷ drop n (references_of words)) more;
      }

-- the words of cells, where one of them has one word replaced
replaced_in : {X : Type 0} (f g : X → List ℕ) (row : List X) (k : ℕ) (d : X) (was is : ℕ) → k < length row → ((j : ℕ) → j < length row → j ≢ k → g (get_or row j d) ≡ f (get_or row j d)) →
    Replaces (f (get_or row k d)) (g (get_or row k d)) was is → Replaces (flat_map f row) (flat_map g row) was is
replaced_in f g [] k d was is inside others here = absurd (omega arith)
replaced_in f g (x ∷ xs) zero d was is inside others here =
    let same = flat_map_same f g xs (All-from_get_or (λ z. g z ≡ f z) xs d (λ j low. others (suc j) (omega arith) (λ e. let z : suc j ≡ 0 = e in omega arith))) in
    record {
      before = here.before;
      rest = here.rest ++ flat_map f xs;
      of_old = ap (λ (ws : List ℕ). ws ++ flat_map f xs) here.of_old ∙ append_assoc here.before (was ∷ here.rest) (flat_map f xs);
      of_new = ap (λ (ws : List ℕ). ws ++ flat_map g xs) here.of_new ∙ append_assoc here.before (is ∷ here.rest) (flat_map g xs) ∙ ap (λ (ws : List ℕ). here.before ++ is ∷ (here.rest ++ ws)) same;
    }
replaced_in f g (x ∷ xs) (suc k) d was is inside others here =
    let rest = replaced_in f g xs k d was is (omega arith) (λ j low differ. others (suc j) (omega arith) (λ e. differ (let z : suc j ≡ suc k = e in omega arith))) here in
    let first : g x ≡ f x = others 0 (omega arith) (λ e. let z : 0 ≡ suc k = e in omega arith) in
    record {
      before = f x ++ rest.before;
      rest = rest.rest;
      of_old = ap (λ (ws : List ℕ). f x ++ ws) rest.of_old ∙ sym (append_assoc (f x) rest.before (was ∷ rest.rest));
      of_new = ap (λ (ws : List ℕ). ws ++ flat_map g xs) first ∙ ap (λ (ws : List ℕ). f x ++ ws) rest.of_new ∙ sym (append_assoc (f x) rest.before (is ∷ rest.rest));
    }

-- ---- one word of a cell of a heap

module _ (h : SpaceList) (payloads : Payloads) (is : IsSpaceList h) (graph : IsGraph h payloads) (q : Place) (held : HasCell h q) (i word : ℕ) (low : first_pointer (get_or (cell_at h q) 0 0) ≤ i) (high : i < 8) where
  abbrev after : SpaceList
  after = with_word_at h q i word

  abbrev new_words : List ℕ
  new_words = set (cell_at h q) i word

  pub here : cell_at after q ≡ new_words
  here = cell_written h is q held new_words

  pub there : (p : Place) → p ≢ q → cell_at after p ≡ cell_at h p
  there p other = cell_kept h is q held new_words p other

  long : length (cell_at h q) ≡ 8
  long = cell_long h is q held

  pub held_before : (p : Place) → HasCell after p → HasCell h p
  held_before p = (holds_written h is q held new_words p).0

  pub held_after : (p : Place) → HasCell h p → HasCell after p
  held_after p = (holds_written h is q held new_words p).1

  pub word_spaces : IsSpaceList (with_word_at h q i word)
  word_spaces = list_written h is q held new_words (length-set (cell_at h q) i word ∙ long)

  -- words before the first reference stay
  head_stays : (p : Place) (j : ℕ) → j < first_pointer (get_or (cell_at h p) 0 0) → get_or (cell_at after p) j 0 ≡ get_or (cell_at h p) j 0
  head_stays p j below = by_place (same_or_other p q)
    where
      by_place : (p ≡ q) ⊎ (p ≢ q) → get_or (cell_at after p) j 0 ≡ get_or (cell_at h p) j 0
      by_place (inl same) =
          ap (λ (r : Place). get_or (cell_at after r) j 0) same ∙ ap (λ (ws : List ℕ). get_or ws j 0) here
          ∙ other_word (cell_at h q) long i word low high j (subst (λ (r : Place). j < first_pointer (get_or (cell_at h r) 0 0)) same below) ∙ ap (λ (r : Place). get_or (cell_at h r) j 0) (sym same)
      by_place (inr other) = ap (λ (ws : List ℕ). get_or ws j 0) (there p other)

  tag_stays : (p : Place) → get_or (cell_at after p) 0 0 ≡ get_or (cell_at h p) 0 0
  tag_stays p = head_stays p 0 (first_range (get_or (cell_at h p) 0 0)).0

  object_head : (p : Place) → IsKindAt h Object p → (j : ℕ) → j < 4 → get_or (cell_at after p) j 0 ≡ get_or (cell_at h p) j 0
  object_head p object j below =
      let at : first_pointer (get_or (cell_at h p) 0 0) ≡ 4 = ap first_pointer ((object_tagged (cell_at h p)).0 object.is) in
      head_stays p j (omega arith)

  pub word_stays : Stays h (with_word_at h q i word)
  word_stays = record {
    objects = λ p object. record { held = held_after p object.held; is = (object_tagged (cell_at after p)).1 (tag_stays p ∙ (object_tagged (cell_at h p)).0 object.is) };
    chunks = λ p chunk. record { held = held_after p chunk.held; is = (chunk_tagged (cell_at after p)).1 (tag_stays p ∙ (chunk_tagged (cell_at h p)).0 chunk.is) };
    names = λ p object. object_head p object 1 (omega arith);
    keys = λ p object. object_head p object 2 (omega arith);
  }

  pub word_back : (p : Place) → IsKindAt after Object p → IsKindAt h Object p
  word_back p object = record {
    held = held_before p object.held;
    is = (object_tagged (cell_at h p)).1 (sym (tag_stays p) ∙ (object_tagged (cell_at after p)).0 object.is);
  }

  -- the layout of the written cell, by its references and its link
  here_layout : RowCell after new_words → HasLayout after new_words
  here_layout row = by_kind (kind_cases (cell_at h q))
    where
      tag : get_or new_words 0 0 ≡ get_or (cell_at h q) 0 0
      tag = tag_same (cell_at h q) long i word low high

      by_kind : KindCases (cell_at h q) → HasLayout after new_words
      by_kind (is_free kind _) = let at : first_pointer (get_or (cell_at h q) 0 0) ≡ 8 = ap first_pointer (free_zero (cell_at h q) kind 0) in absurd (omega arith)
      by_kind (is_object kind one) =
          let shape : HasLayoutOf h (cell_at h q) Object = subst (HasLayoutOf h (cell_at h q)) kind (layout_at h is [] graph.sound q held) in
          let new_kind : kind_of new_words ≡ Object = (object_tagged new_words).1 (tag ∙ one) in
          let at : first_pointer (get_or (cell_at h q) 0 0) ≡ 4 = ap first_pointer one in
          subst (HasLayoutOf after new_words) (sym new_kind)
          (other_word (cell_at h q) long i word low high 3 (omega arith) ∙ shape.0, subst (All (IsReference after)) (references_of_object new_words new_kind) row.references, row.link)
      by_kind (is_chunk kind two) =
          let new_kind : kind_of new_words ≡ Chunk = (chunk_tagged new_words).1 (tag ∙ two) in
          subst (HasLayoutOf after new_words) (sym new_kind) (subst (All (IsReference after)) (references_of_chunk new_words new_kind) row.references, row.link)
      by_kind (is_bad kind) = absurd (subst (HasLayoutOf h (cell_at h q)) kind (layout_at h is [] graph.sound q held))

  pub word_layouts : RowCell after new_words → (p : Place) → HasCell after p → HasLayout after (cell_at after p)
  word_layouts row p held_p = by_place (same_or_other p q)
    where
      by_place : (p ≡ q) ⊎ (p ≢ q) → HasLayout after (cell_at after p)
      by_place (inl same) = subst (HasLayout after) (sym (ap (cell_at after) same ∙ here)) (here_layout row)
      by_place (inr other) =
          subst (HasLayout after) (sym (there p other)) (layout_stays h after word_stays (cell_at h p) (layout_at h is [] graph.sound p (held_before p held_p)))

  -- what the cell was
  pub was_row : RowCell h (cell_at h q)
  was_row = row_cell h (cell_at h q) (layout_at h is [] graph.sound q held)

  -- no row but that of one object has the cell
  module _ (p : Place) (object : IsKindAt h Object p) (has : Contains (row_of h p) q) where
    pub outside : (r : Place) → IsKindAt h Object r → r ≢ p → All (λ c. c ≢ q) (row_of h r)
    outside r at other j d inside same =
        let row = row_of h p in
        let place : get_or row has.0 d ≡ q = get_or_default row has.0 d q has.1 ∙ has.2 in
        other (row_apart h is [] graph.sound r p (chunks_from h (length (cells_of h)) (link_at h r)) (chunks_from h (length (cells_of h)) (link_at h p)) at object (graph.ends r at) (graph.ends p object) j has.0 d inside has.1 (same ∙ sym place)).0

    pub outside_rows : (r : Place) → IsKindAt h Object r → r ≢ p → ShowsRow after r ((content_in h payloads).label (name_at h r))
    outside_rows r at other =
        row_stays h after word_stays payloads is graph r at
        (All-weaker (λ c. c ≢ q) (λ c. cell_at after c ≡ cell_at h c) there (row_of h r) (outside r at other))

-- ---- a reference is written

-- a word before the link that is written keeps each link
pub links_kept : (h : SpaceList) (payloads : Payloads) (is : IsSpaceList h) (graph : IsGraph h payloads) (q : Place) (held : HasCell h q) (i word : ℕ) → first_pointer (get_or (cell_at h q) 0 0) ≤ i → i < 7 → (r : Place) → link_at (with_word_at h q i word) r ≡ link_at h r
links_kept h payloads is graph q held i word low less r = by_place (same_or_other r q)
  where
    high : i < 8
    high = omega arith

    by_place : (r ≡ q) ⊎ (r ≢ q) → link_at (with_word_at h q i word) r ≡ link_at h r
    by_place (inl same) =
        ap (link_at (with_word_at h q i word)) same ∙ ap link_of (here h payloads is graph q held i word low high) ∙ link_same (cell_at h q) (cell_long h is q held) i word low high less ∙ ap (link_at h) (sym same)
    by_place (inr other) = ap link_of (there h payloads is graph q held i word low high r other)

-- the word with this number is a reference of the cell
abbrev pub IsSlot : SpaceList → Place → ℕ → Type 0
IsSlot h q i = (first_pointer (get_or (cell_at h q) 0 0) ≤ i) × (i < 7)

module _ (h : SpaceList) (payloads : Payloads) (is : IsSpaceList h) (graph : IsGraph h payloads) (p q : Place) (i word : ℕ) (object : IsKindAt h Object p) (has : Contains (row_of h p) q) (slot : IsSlot h q i) (reference : IsReference h word) where
  abbrev chunks : List Place
  chunks = chunks_from h (length (cells_of h)) (link_at h p)

  abbrev written : SpaceList
  written = with_word_at h q i word

  abbrev old_word : ℕ
  old_word = get_or (cell_at h q) i 0

  low : first_pointer (get_or (cell_at h q) 0 0) ≤ i
  low = slot.0

  high : i < 8
  high = let less = slot.1 in omega arith

  held : HasCell h q
  held =
      let row = row_of h p in
      subst (HasCell h) has.2 (row_held h p chunks object (graph.ends p object) has.0 q has.1)

  stays : Stays h written
  stays = word_stays h payloads is graph q held i word low high

  links_same : (r : Place) → link_at written r ≡ link_at h r
  links_same r = links_kept h payloads is graph q held i word low slot.1 r

  slot_row : RowCell written (set (cell_at h q) i word)
  slot_row =
      let was = was_row h payloads is graph q held i word low high in
      let new = references_set (cell_at h q) (cell_long h is q held) i word low high slot.1 in
      let all = All-set (IsReference written) (references_of (cell_at h q)) (i - first_pointer (get_or (cell_at h q) 0 0)) word (reference_stays h written stays word reference)
      (All-weaker (IsReference h) (IsReference written) (reference_stays h written stays) (references_of (cell_at h q)) was.references) in
      record {
        references = subst (All (IsReference written)) (sym new) all;
        link = subst (IsLink written) (sym (link_same (cell_at h q) (cell_long h is q held) i word low high slot.1)) (link_stays h written stays (link_of (cell_at h q)) was.link);
      }

  -- in the words of the row one is replaced
  row_replaced : Replaces (row_words h p) (words_of written (row_of h p)) old_word word
  row_replaced =
      let row = row_of h p in
      let at : get_or row has.0 q ≡ q = has.2 in
      let here_words : cell_at written (get_or row has.0 q) ≡ set (cell_at h q) i word = ap (cell_at written) at ∙ here h payloads is graph q held i word low high in
      let replaced = reference_replaced (cell_at h q) (cell_long h is q held) i word low high slot.1 in
      let others = λ (j : ℕ) (inside : j < length row) (differ : j ≢ has.0).
      ap references_of (there h payloads is graph q held i word low high (get_or row j q)
      (λ same. differ (row_apart h is [] graph.sound p p chunks chunks object object (graph.ends p object) (graph.ends p object) j has.0 q inside has.1 (same ∙ sym at)).1)) in
      replaced_in (λ c. references_of (cell_at h c)) (λ c. references_of (cell_at written c)) row has.0 q old_word word has.1 others
      (record {
        before = replaced.before;
        rest = replaced.rest;
        of_old = ap (λ c. references_of (cell_at h c)) at ∙ replaced.of_old;
        of_new = ap references_of here_words ∙ replaced.of_new;
      })

  slot_put : (name : ℕ) (rights : RightSet) → ((xs ys : List ℕ) → row_words h p ≡ xs ++ old_word ∷ ys → Puts h (xs ++ old_word ∷ ys) (xs ++ word ∷ ys) name rights) →
      Becomes h (with_word_at h q i word) payloads (IsNamed (content_in h payloads)) (with_label (content_in h payloads).label (name_at h p) name rights) (content_in h payloads).value
  slot_put name rights puts =
      let replaced = row_replaced in
      let xs = replaced.before in
      let ys = replaced.rest in
      let old_all : All (IsReference h) (xs ++ old_word ∷ ys) = subst (All (IsReference h)) replaced.of_old (row_references h is [] graph.sound p object (graph.ends p object)) in
      let all : All (IsReference h) (xs ++ word ∷ ys) = All-append (IsReference h) xs (word ∷ ys) (All-left (IsReference h) xs (old_word ∷ ys) old_all)
      (All-cons (IsReference h) word ys reference (All-tail (IsReference h) old_word ys (All-right (IsReference h) xs (old_word ∷ ys) old_all))) in
      one_row h written stays payloads is graph p object name rights chunks (xs ++ word ∷ ys)
      (word_spaces h payloads is graph q held i word low high) (word_back h payloads is graph q held i word low high) (word_layouts h payloads is graph q held i word low high slot_row)
      (links_stay h written stays payloads is graph (λ r held_r some. (held_before h payloads is graph q held i word low high r held_r, links_same r)))
      (outside_rows h payloads is graph q held i word low high p object has)
      (subst (λ (l : ℕ). IsChain written l chunks) (sym (links_same p)) (chain_stays h written stays chunks (link_at h p) (graph.ends p object) (λ k d inside. links_same (get_or chunks k d))))
      replaced.of_new all (subst (λ (ws : List ℕ). Puts h ws (xs ++ word ∷ ys) name rights) (sym replaced.of_old) (puts xs ys replaced.of_old))

module _ (h : SpaceList) (payloads : Payloads) (is : IsSpaceList h) (graph : IsGraph h payloads) (p q : Place) (i : ℕ) (object : IsKindAt h Object p) (has : Contains (row_of h p) q) (slot : IsSlot h q i) where
  pub slot_filled : (word : ℕ) → get_or (cell_at h q) i 0 ≡ 0 → RefersTo h word → All (IsOther h (name_in h word)) (row_words h p) →
      Becomes h (with_word_at h q i word) payloads (IsNamed (content_in h payloads)) (with_label (content_in h payloads).label (name_at h p) (name_in h word) (rights_in word)) (content_in h payloads).value
  slot_filled word empty refers others =
      slot_put h payloads is graph p q i word object has slot (inr refers) (name_in h word) (rights_in word) (λ xs ys was.
      let was_empty : row_words h p ≡ xs ++ 0 ∷ ys = was ∙ ap (λ (w : ℕ). xs ++ w ∷ ys) empty in
      subst (λ (w : ℕ). Puts h (xs ++ w ∷ ys) (xs ++ word ∷ ys) (name_in h word) (rights_in word)) (sym empty)
      (puts_filled h xs ys word (empty_present word refers.present) (subst (All (IsOther h (name_in h word))) was_empty others)
      (subst (λ (ws : List ℕ). IsDistinct (λ a b. a == b) (names_in h ws)) was_empty (graph.targets p object))))

  pub slot_changed : (word : ℕ) → get_or (cell_at h q) i 0 ≢ 0 → RefersTo h word → place_in word ≡ place_in (get_or (cell_at h q) i 0) →
      Becomes h (with_word_at h q i word) payloads (IsNamed (content_in h payloads)) (with_label (content_in h payloads).label (name_at h p) (name_in h word) (rights_in word)) (content_in h payloads).value
  slot_changed word some refers same =
      slot_put h payloads is graph p q i word object has slot (inr refers) (name_in h word) (rights_in word) (λ xs ys was.
      puts_changed h xs ys (get_or (cell_at h q) i 0) some word (empty_present word refers.present) (ap (name_at h) same)
      (subst (λ (ws : List ℕ). IsDistinct (λ a b. a == b) (names_in h ws)) was (graph.targets p object)))

  pub slot_cleared : get_or (cell_at h q) i 0 ≢ 0 →
      Becomes h (with_word_at h q i 0) payloads (IsNamed (content_in h payloads)) (with_label (content_in h payloads).label (name_at h p) (name_in h (get_or (cell_at h q) i 0)) no_rights) (content_in h payloads).value
  slot_cleared some =
      slot_put h payloads is graph p q i 0 object has slot (inl refl) (name_in h (get_or (cell_at h q) i 0)) no_rights (λ xs ys was.
      puts_cleared h xs ys (get_or (cell_at h q) i 0) some
      (subst (λ (ws : List ℕ). IsDistinct (λ a b. a == b) (names_in h ws)) was (graph.targets p object)))
