-- The cells that a collection keeps: each is at its new place, or where it was, with its references and its link moved.
use Rattle.std.proofs.Common.{[], ◌≡◌, ◌≢◌, ℕ, ◌<◌, ◌≤◌, ◌+◌, ◌-◌, ◌⊎◌, ◌==◌, Bool, true, false, List, length, get_or, take, drop, map, refl, sym, ap, subst, arith, ◌∙◌, inl, inr, lit<, ⊎_elim, if◌then◌else◌, IsTrue}
use Rattle.std.specs.List.{All, Contains}
use Rattle.std.proofs.lemmas.List.{get_or_append_left, get_or-append_right, get_or-take, get_or-drop, get_or-map, length-take, length-take-le, length-drop, drop_at, take-map, length-map}
use Rattle.std.proofs.lemmas.List.Elements.{All-take, All-from_get_or, Contains-get_or}
use Rattle.std.proofs.lemmas.Bool.Decides.{eqb_tells}
use Rattle.tg_rights.specs.RightSet.{is_none_held}
use Rattle.tg_word.specs.declared.Place.{Place}
use Rattle.tg_word.specs.Word.{IsPlace, word_at, place_in, rights_in, is_present}
use Rattle.tg_word.proofs.Packing.{place_in-word_at, rights_in-word_at, is_present-word_at, word_at-above_zero}
use Rattle.tg_block.specs.Cells.{kind_of, free_cell}
use Rattle.tg_block.specs.declared.CellKind.{CellKind}
use Rattle.tg_block.specs.declared.CellKind.TheVariants.{Object, Chunk, Bad}
use Rattle.tg_space.specs.SpaceList.{SpaceList, IsSpaceList, HasCell, cell_at}
use Rattle.tg_space.specs.Targets.{first_pointer, pointers_of, moved_word, image_of}
use Rattle.tg_space.specs.Soundness.{AreSound, HasLayout, HasLayoutOf, IsKindAt, IsReference, RefersTo, IsLink, LinksTo, IsPointer, NamesCell}
use Rattle.tg_space.specs.Rows.{link_of, link_at}
use Rattle.tg_space.proofs.Pointing.{pointers_from_layout}
use Rattle.tg_rows.specs.Rows.{name_at, key_at, references_of}
use Rattle.tg_space.specs.Numbering.{moved_place}
use Rattle.tg_rows.proofs.Places.{cell_long, layout_at, links_apart, sound_from_places, held_place}
use Rattle.tg_rows.proofs.Layouts.{KindCases, empty_present, first_range, is_free, is_object, is_chunk, is_bad, kind_cases, object_tagged, chunk_tagged, free_zero, references_of_object, references_of_chunk, references_at, link_held, present_word, same_link}
use Rattle.std.proofs.lemmas.Bool.{ne_eqb}

-- ---- the copy of a cell, word by word

-- the kind of a cell that is not free
kind_of_tag : ℕ → CellKind
kind_of_tag tag = if tag == 1 then Object else (if tag == 2 then Chunk else Bad)

kind_from_tag : (words : List ℕ) → 0 < get_or words 0 0 → kind_of words ≡ kind_of_tag (get_or words 0 0)
unfolding kind_of_tag
kind_from_tag words used = let t : (get_or words 0 0 == 0) ≡ false = ne_eqb (get_or words 0 0) 0 (λ z. omega arith) in rw t refl

module _ (from : ℕ → Bool) (h : SpaceList) (to : ℕ → Place) (words : List ℕ) (long : length words ≡ 8) where
  kept_before : (i : ℕ) → i < first_pointer (get_or words 0 0) → i < 8 → get_or (image_of from h to words) i 0 ≡ get_or words i 0
  kept_before i low inside =
      let n = first_pointer (get_or words 0 0) in
      let short : i < length (take n words) = omega (arith, length-take n words) in
      get_or_append_left (take n words) (map (moved_word from h to) (drop n words)) 0 i short ∙ get_or-take n words i 0 low

  moved_after : (i : ℕ) → first_pointer (get_or words 0 0) ≤ i → i < 8 → get_or (image_of from h to words) i 0 ≡ moved_word from h to (get_or words i 0)
  moved_after i high inside =
      let n = first_pointer (get_or words 0 0) in
      let at : length (take n words) ≡ n = length-take-le n words (omega arith) in
      let back : n + (i - n) ≡ i = omega arith in
      let short : i - n < length (drop n words) = omega (arith, length-drop n words) in
      get_or-append_right (take n words) (map (moved_word from h to) (drop n words)) n i 0 at high
      ∙ get_or-map (moved_word from h to) (drop n words) (i - n) 0 0 short
      ∙ ap (moved_word from h to) (get_or-drop n words (i - n) 0 ∙ ap (λ (k : ℕ). get_or words k 0) back)

  tag_moved : get_or (image_of from h to words) 0 0 ≡ get_or words 0 0
  tag_moved = kept_before 0 (first_range (get_or words 0 0)).0 (lit< tt)

  references_moved : references_of (image_of from h to words) ≡ map (moved_word from h to) (references_of words)
  references_moved =
      let n = first_pointer (get_or words 0 0) in
      let same : first_pointer (get_or (image_of from h to words) 0 0) ≡ n = ap first_pointer tag_moved in
      let at : length (take n words) ≡ n = length-take-le n words (let le = (first_range (get_or words 0 0)).1 in omega arith) in
      ap (λ (k : ℕ). take (7 - k) (drop k (image_of from h to words))) same
      ∙ ap (λ (xs : List ℕ). take (7 - n) xs) (drop_at (take n words) (map (moved_word from h to) (drop n words)) n at)
      ∙ take-map (moved_word from h to) (7 - n) (drop n words)

  kind_moved : 0 < get_or words 0 0 → kind_of (image_of from h to words) ≡ kind_of words
  kind_moved used =
      let still : 0 < get_or (image_of from h to words) 0 0 = subst (λ (tag : ℕ). 0 < tag) (sym tag_moved) used in
      kind_from_tag (image_of from h to words) still ∙ ap kind_of_tag tag_moved ∙ sym (kind_from_tag words used)

-- ---- moved words

-- the moved word names the new place, with the same rights
pub record IsMovedWord (from : ℕ → Bool) (h : SpaceList) (to : ℕ → Place) (word : ℕ) : Type 0 where
  pub is : moved_word from h to word ≡ word_at (rights_in word) (moved_place from h to (place_in word))
  pub some : moved_word from h to word ≢ 0
  pub present : IsTrue (is_present (moved_word from h to word))
  pub place : place_in (moved_word from h to word) ≡ moved_place from h to (place_in word)
  pub rights : rights_in (moved_word from h to word) ≡ rights_in word

pub word_moved : (from : ℕ → Bool) (h : SpaceList) (to : ℕ → Place) (word : ℕ) → word ≢ 0 → IsTrue (is_present word) → IsPlace (moved_place from h to (place_in word)) → IsMovedWord from h to word
word_moved from h to word ne present inside = record {
  is = same;
  some = λ z. let high = word_at-above_zero (rights_in word) (moved_place from h to (place_in word)) inside in let low : word_at (rights_in word) (moved_place from h to (place_in word)) ≡ 0 = sym same ∙ z in omega arith;
  present = subst (λ (w : ℕ). IsTrue (is_present w)) (sym same) (is_present-word_at (rights_in word) (moved_place from h to (place_in word)) inside);
  place = ap place_in same ∙ place_in-word_at (rights_in word) (moved_place from h to (place_in word)) inside;
  rights = ap rights_in same ∙ rights_in-word_at (rights_in word) (moved_place from h to (place_in word)) inside;
}
  where
    by_space : (b : Bool) → from (place_in word).space ≡ b → moved_word from h to word ≡ word_at (rights_in word) (moved_place from h to (place_in word))
    by_space true f = let t : (word == 0) ≡ false = ne_eqb word 0 ne in rw (t, f) refl
    by_space false f = let t : (word == 0) ≡ false = ne_eqb word 0 ne in rw (t, f) (sym (present_word word present))

    same : moved_word from h to word ≡ word_at (rights_in word) (moved_place from h to (place_in word))
    same = by_space (from (place_in word).space) refl

-- ---- kept cells

-- The kept cells of h are objects and chunks, and what they name is kept. Each is in `after` where it goes, moved; no two go to
-- one place; and no other cell of `after` is in use.
pub record Moves (from : ℕ → Bool) (h after : SpaceList) (to : ℕ → Place) (kept : Place → Type 0) : Type 0 where
  pub whole : IsSpaceList h
  pub whole_after : IsSpaceList after
  pub sound : AreSound h []
  pub held : (p : Place) → kept p → HasCell h p
  pub used : (p : Place) → kept p → 0 < get_or (cell_at h p) 0 0
  pub closed : (p : Place) → kept p → (word : ℕ) → Contains (pointers_of (cell_at h p)) word → word ≢ 0 → kept (place_in word)
  pub stands : (p : Place) → kept p → HasCell after (moved_place from h to p)
  pub copied : (p : Place) → kept p → cell_at after (moved_place from h to p) ≡ image_of from h to (cell_at h p)
  pub apart : (p q : Place) → kept p → kept q → moved_place from h to p ≡ moved_place from h to q → p ≡ q
  pub rest : (q : Place) → HasCell after q → (cell_at after q ≡ free_cell) ⊎ ((p : Place) × kept p × (moved_place from h to p ≡ q))

module _ {from : ℕ → Bool} {h after : SpaceList} {to : ℕ → Place} {kept : Place → Type 0} (move : Moves from h after to kept) where
  -- a word of a kept cell names a kept cell, if any
  abbrev pub IsKeptWord : ℕ → Type 0
  IsKeptWord word = word ≢ 0 → kept (place_in word) × IsMovedWord from h to word

  kept_long : (p : Place) → kept p → length (cell_at h p) ≡ 8
  kept_long p keep = cell_long h move.whole p (move.held p keep)

  kept_layout : (p : Place) → kept p → HasLayout h (cell_at h p)
  kept_layout p keep = layout_at h move.whole [] move.sound p (move.held p keep)

  pointers_kept : (p : Place) → kept p → All IsKeptWord (pointers_of (cell_at h p))
  pointers_kept p keep k d inside ne =
      let word = get_or (pointers_of (cell_at h p)) k d in
      let pointer : IsPointer h word = pointers_from_layout h (cell_at h p) (kept_long p keep) (kept_layout p keep) k d inside in
      let target : kept (place_in word) = move.closed p keep word (Contains-get_or (pointers_of (cell_at h p)) k d inside) ne in
      let present : IsTrue (is_present word) = ⊎_elim (λ z. absurd (ne z)) (λ (names : NamesCell h word). names.present) pointer in
      (target, word_moved from h to word ne present (held_place after move.whole_after (moved_place from h to (place_in word)) (move.stands (place_in word) target)))

  -- the kinds of kept cells
  pub kept_kind : (p : Place) → kept p → (kind_of (cell_at h p) ≡ Object) ⊎ (kind_of (cell_at h p) ≡ Chunk)
  kept_kind p keep = by_kind (kind_cases (cell_at h p))
    where
      by_kind : KindCases (cell_at h p) → (kind_of (cell_at h p) ≡ Object) ⊎ (kind_of (cell_at h p) ≡ Chunk)
      by_kind (is_object is _) = inl is
      by_kind (is_chunk is _) = inr is
      by_kind (is_free is _) = let used = move.used p keep in absurd (omega (arith, free_zero (cell_at h p) is 0))
      by_kind (is_bad is) = absurd (subst (λ (kind : CellKind). HasLayoutOf h (cell_at h p) kind) is (kept_layout p keep))

  -- an object's references and link are from word 4 on, a chunk's from word 1 on
  object_first : (p : Place) → kind_of (cell_at h p) ≡ Object → first_pointer (get_or (cell_at h p) 0 0) ≡ 4
  object_first p is = ap first_pointer ((object_tagged (cell_at h p)).0 is)

  chunk_first : (p : Place) → kind_of (cell_at h p) ≡ Chunk → first_pointer (get_or (cell_at h p) 0 0) ≡ 1
  chunk_first p is = ap first_pointer ((chunk_tagged (cell_at h p)).0 is)

  kept_first : (p : Place) → kept p → first_pointer (get_or (cell_at h p) 0 0) ≤ 4
  kept_first p keep =
      ⊎_elim (λ o. let e = object_first p o in omega arith) (λ c. let e = chunk_first p c in omega arith) (kept_kind p keep)

  pub references_kept : (p : Place) → kept p → All IsKeptWord (references_of (cell_at h p))
  references_kept p keep =
      All-take IsKeptWord (7 - first_pointer (get_or (cell_at h p) 0 0)) (pointers_of (cell_at h p)) (pointers_kept p keep)

  pub link_kept : (p : Place) → kept p → IsKeptWord (link_at h p)
  link_kept p keep =
      let words = cell_at h p in
      let n = first_pointer (get_or words 0 0) in
      let few : n ≤ 4 = kept_first p keep in
      let long = kept_long p keep in
      let back : n + (7 - n) ≡ 7 = omega arith in
      let at : get_or (pointers_of words) (7 - n) 0 ≡ link_at h p = get_or-drop n words (7 - n) 0 ∙ ap (λ (k : ℕ). get_or words k 0) back in
      let inside : 7 - n < length (pointers_of words) = omega (arith, length-drop n words) in
      subst IsKeptWord at (pointers_kept p keep (7 - n) 0 inside)

  -- the copy of a kept cell
  pub record IsCopied (p : Place) : Type 0 where
    pub held : HasCell after (moved_place from h to p)
    pub kind : kind_of (cell_at after (moved_place from h to p)) ≡ kind_of (cell_at h p)
    pub link : link_at after (moved_place from h to p) ≡ moved_word from h to (link_at h p)
    pub words : references_of (cell_at after (moved_place from h to p)) ≡ map (moved_word from h to) (references_of (cell_at h p))

  pub is_copied : (p : Place) → kept p → IsCopied p
  is_copied p keep =
      let words = cell_at h p in
      let long = kept_long p keep in
      let few = kept_first p keep in
      let cell = move.copied p keep in
      record {
        held = move.stands p keep;
        kind = ap kind_of cell ∙ kind_moved from h to words long (move.used p keep);
        link = ap link_of cell ∙ moved_after from h to words long 7 (omega arith) (lit< tt);
        words = ap references_of cell ∙ references_moved from h to words long;
      }

  -- the words of an object before its references stay
  object_word : (p : Place) → kept p → kind_of (cell_at h p) ≡ Object → (i : ℕ) → i < 4 → get_or (cell_at after (moved_place from h to p)) i 0 ≡ get_or (cell_at h p) i 0
  object_word p keep is i low =
      let first = object_first p is in
      ap (λ (words : List ℕ). get_or words i 0) (move.copied p keep) ∙ kept_before from h to (cell_at h p) (kept_long p keep) i (omega arith) (omega arith)

  pub name_kept : (p : Place) → kept p → kind_of (cell_at h p) ≡ Object → name_at after (moved_place from h to p) ≡ name_at h p
  name_kept p keep is = object_word p keep is 1 (lit< tt)

  pub key_kept : (p : Place) → kept p → kind_of (cell_at h p) ≡ Object → key_at after (moved_place from h to p) ≡ key_at h p
  key_kept p keep is = object_word p keep is 2 (lit< tt)

  -- ---- the cells of `after` are sound

  pub kind_at_after : (kind : CellKind) (p : Place) → kept p → kind_of (cell_at h p) ≡ kind → IsKindAt after kind (moved_place from h to p)
  kind_at_after kind p keep is = let copy = is_copied p keep in record { held = copy.held; is = copy.kind ∙ is }

  -- a word that is there names a kept cell
  kept_target : (word : ℕ) → IsKeptWord word → IsTrue (is_present word) → kept (place_in word) × IsMovedWord from h to word
  kept_target word keep present = ⊎_elim
      (λ (y : (word == 0 ≡ true) × (word ≡ 0)). absurd (empty_present word present y.1))
      (λ (n : (word == 0 ≡ false) × (word ≢ 0)). keep n.1)
      (eqb_tells word 0)

  pub reference_after : (word : ℕ) → IsKeptWord word → IsReference h word → IsReference after (moved_word from h to word)
  reference_after word keep is = ⊎_elim
      (λ e. inl (ap (moved_word from h to) e))
      (λ (r : RefersTo h word). let found = kept_target word keep r.present in inr (record {
        present = found.1.present;
        rights = ap is_none_held found.1.rights ∙ r.rights;
        object = subst (λ (q : Place). IsKindAt after Object q) (sym found.1.place) (kind_at_after Object (place_in word) found.0 r.object.is);
      }))
      is

  pub link_after : (word : ℕ) → IsKeptWord word → IsLink h word → IsLink after (moved_word from h to word)
  link_after word keep is = ⊎_elim
      (λ e. inl (ap (moved_word from h to) e))
      (λ (r : LinksTo h word). let found = kept_target word keep r.present in inr (record {
        present = found.1.present;
        rights = found.1.rights ∙ r.rights;
        chunk = subst (λ (q : Place). IsKindAt after Chunk q) (sym found.1.place) (kind_at_after Chunk (place_in word) found.0 r.chunk.is);
      }))
      is

  references_after : (words : List ℕ) → All IsKeptWord words → All (IsReference h) words → All (IsReference after) (map (moved_word from h to) words)
  references_after words keeps are = All-from_get_or (IsReference after) (map (moved_word from h to) words) 0 (λ k inside.
      let low : k < length words = omega (arith, length-map words (moved_word from h to)) in
      subst (IsReference after) (sym (get_or-map (moved_word from h to) words k 0 0 low)) (reference_after (get_or words k 0) (keeps k 0 low) (are k 0 low)))

  -- the layout of a copy
  module _ (p : Place) (keep : kept p) where
    abbrev copy : List ℕ
    copy = cell_at after (moved_place from h to p)

    copy_references : All (IsReference after) (references_of copy)
    copy_references =
        subst (λ (words : List ℕ). All (IsReference after) words) (sym (is_copied p keep).words)
        (references_after (references_of (cell_at h p)) (references_kept p keep) (references_at h move.whole [] move.sound p (move.held p keep)))

    copy_link : IsLink after (link_of copy)
    copy_link =
        subst (IsLink after) (sym (is_copied p keep).link)
        (link_after (link_at h p) (link_kept p keep) (link_held h move.whole [] move.sound p (move.held p keep)))

    object_layout : kind_of (cell_at h p) ≡ Object → HasLayoutOf after copy Object
    object_layout is =
        let shape : HasLayoutOf h (cell_at h p) Object = subst (λ (kind : CellKind). HasLayoutOf h (cell_at h p) kind) is (kept_layout p keep) in (
          object_word p keep is 3 (lit< tt) ∙ shape.0,
          subst (λ (words : List ℕ). All (IsReference after) words) (references_of_object copy ((is_copied p keep).kind ∙ is)) copy_references,
          copy_link,
        )

    chunk_layout : kind_of (cell_at h p) ≡ Chunk → HasLayoutOf after copy Chunk
    chunk_layout is = (
      subst (λ (words : List ℕ). All (IsReference after) words) (references_of_chunk copy ((is_copied p keep).kind ∙ is)) copy_references,
      copy_link,
    )

    copy_layout : HasLayout after copy
    copy_layout =
        ⊎_elim
        (λ o. subst (λ (kind : CellKind). HasLayoutOf after copy kind) (sym ((is_copied p keep).kind ∙ o)) (object_layout o))
        (λ c. subst (λ (kind : CellKind). HasLayoutOf after copy kind) (sym ((is_copied p keep).kind ∙ c)) (chunk_layout c))
        (kept_kind p keep)

  layout_after : (q : Place) → HasCell after q → HasLayout after (cell_at after q)
  layout_after q holds =
      ⊎_elim
      (λ free. subst (λ (words : List ℕ). HasLayout after words) (sym free) tt)
      (λ (p, keep, at). subst (λ (place : Place). HasLayout after (cell_at after place)) at (copy_layout p keep))
      (move.rest q holds)

  -- two kept links that are moved to one are one
  one_link : (a b : ℕ) → IsKeptWord a → IsKeptWord b → IsLink h a → IsLink h b → moved_word from h to a ≢ 0 → moved_word from h to a ≡ moved_word from h to b → a ≡ b
  one_link a b keep_a keep_b link_a link_b ne same =
      let some_a : a ≢ 0 = λ z. ne (ap (moved_word from h to) z) in
      let some_b : b ≢ 0 = λ z. ne (same ∙ ap (moved_word from h to) z) in
      let at_a = keep_a some_a in
      let at_b = keep_b some_b in
      let target : place_in a ≡ place_in b = move.apart (place_in a) (place_in b) at_a.0 at_b.0 (sym at_a.1.place ∙ ap place_in same ∙ at_b.1.place) in
      let links_a : LinksTo h a = ⊎_elim (λ z. absurd (some_a z)) (λ r. r) link_a in
      let links_b : LinksTo h b = ⊎_elim (λ z. absurd (some_b z)) (λ r. r) link_b in
      same_link h a b links_a links_b target

  links_after : (p q : Place) → HasCell after p → HasCell after q → link_at after p ≢ 0 → link_at after p ≡ link_at after q → p ≡ q
  links_after p q holds_p holds_q ne same = by_rest (move.rest p holds_p) (move.rest q holds_q)
    where
      both : (a b : Place) → kept a → kept b → moved_place from h to a ≡ p → moved_place from h to b ≡ q → p ≡ q
      both a b keep_a keep_b at_a at_b =
          let link_a : link_at after p ≡ moved_word from h to (link_at h a) = ap (link_at after) (sym at_a) ∙ (is_copied a keep_a).link in
          let link_b : link_at after q ≡ moved_word from h to (link_at h b) = ap (link_at after) (sym at_b) ∙ (is_copied b keep_b).link in
          let some : moved_word from h to (link_at h a) ≢ 0 = λ z. ne (link_a ∙ z) in
          let one : link_at h a ≡ link_at h b = one_link (link_at h a) (link_at h b) (link_kept a keep_a) (link_kept b keep_b) (link_held h move.whole [] move.sound a (move.held a keep_a)) (link_held h move.whole [] move.sound b (move.held b keep_b)) some (sym link_a ∙ same ∙ link_b) in
          let place : a ≡ b = links_apart h move.whole [] move.sound a b (move.held a keep_a) (move.held b keep_b) (λ z. some (ap (moved_word from h to) z)) one in
          sym at_a ∙ ap (moved_place from h to) place ∙ at_b

      by_rest : (cell_at after p ≡ free_cell) ⊎ ((a : Place) × kept a × (moved_place from h to a ≡ p)) → (cell_at after q ≡ free_cell) ⊎ ((b : Place) × kept b × (moved_place from h to b ≡ q)) → p ≡ q
      by_rest (inl free) _ = absurd (ne (ap link_of free))
      by_rest (inr _) (inl free) = absurd (ne (same ∙ ap link_of free))
      by_rest (inr (a, keep_a, at_a)) (inr (b, keep_b, at_b)) = both a b keep_a keep_b at_a at_b

  pub sound_after : AreSound after []
  sound_after = sound_from_places after move.whole_after layout_after links_after
