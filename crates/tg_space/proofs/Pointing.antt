-- The references and links of the cells of sound spaces.
use Rattle.std.proofs.Common.{◌≡◌, ℕ, ◌<◌, ◌+◌, ◌==◌, ◌++◌, ◌∷◌, inl, inr, Bool, true, false, List, [], length, get_or, take, drop, refl, sym, ap, subst, arith, ◌∙◌, ⊎_elim}
use Rattle.std.specs.List.{All}
use Rattle.std.proofs.lemmas.Bool.Decides.{nat_tests}
use Rattle.std.proofs.lemmas.List.{take-append-drop, drop-drop, drop_more, drop_all}
use Rattle.std.proofs.lemmas.List.Elements.{All-nil, All-cons, All-append, All-weaker, All-get_or}
use Rattle.tg_word.specs.Word.{place_in}
use Rattle.tg_block.specs.Cells.{kind_of, all_are_zero}
use Rattle.tg_block.specs.declared.CellKind.{CellKind}
use Rattle.tg_block.specs.declared.CellKind.TheVariants.{Free, Object, Chunk, Bad}
use Rattle.tg_space.specs.declared.root.Root.{Root}
use Rattle.tg_space.specs.SpaceList.{SpaceList, IsSpaceList, cell_at, cells_of}
use Rattle.tg_space.specs.Targets.{pointers_of, cell_numbered}
use Rattle.tg_space.specs.Soundness.{AreSound, HasLayout, HasLayoutOf, IsReference, RefersTo, IsLink, LinksTo, IsPointer}
use Rattle.tg_space.specs.Rows.{link_of}
use Rattle.tg_space.proofs.Flat.{all_cells_whole}

-- a cell of a kind that is neither free nor bad has a tag
used_kind : (kind : CellKind) → (Free ≡ kind → ⊥) → (Bad ≡ kind → ⊥) → (words : List ℕ) → kind_of words ≡ kind → 0 < get_or words 0 0
used_kind kind not_free not_bad words is = by_tests (get_or words 0 0 == 0) refl (all_are_zero words) refl
  where
    by_tests : (z : Bool) → (get_or words 0 0 == 0) ≡ z → (a : Bool) → all_are_zero words ≡ a → 0 < get_or words 0 0
    by_tests false z _ _ = grind (arith, nat_tests)
    by_tests true z true a = absurd (not_free (rw (z, a) at is))
    by_tests true z false a = absurd (not_bad (rw (z, a) at is))

-- an object or a chunk is no free cell
pub used_object : (words : List ℕ) → kind_of words ≡ Object → 0 < get_or words 0 0
used_object words is = used_kind Object (λ e. cc e) (λ e. cc e) words is

pub used_chunk : (words : List ℕ) → kind_of words ≡ Chunk → 0 < get_or words 0 0
used_chunk words is = used_kind Chunk (λ e. cc e) (λ e. cc e) words is

module _ (h : SpaceList) where
  from_reference : (word : ℕ) → IsReference h word → IsPointer h word
  from_reference word is =
      ⊎_elim (λ e. inl e)
      (λ (r : RefersTo h word). inr (record { present = r.present; held = r.object.held; used = used_object (cell_at h (place_in word)) r.object.is }))
      is

  from_link : (word : ℕ) → IsLink h word → IsPointer h word
  from_link word is =
      ⊎_elim (λ e. inl e)
      (λ (r : LinksTo h word). inr (record { present = r.present; held = r.chunk.held; used = used_chunk (cell_at h (place_in word)) r.chunk.is }))
      is

  module _ (words : List ℕ) (long : length words ≡ 8) where
    -- the words of a cell from one on, up to the link
    pub parts : (n m : ℕ) → n + m ≡ 7 → drop n words ≡ take m (drop n words) ++ (link_of words ∷ [])
    parts n m sum =
        sym (take-append-drop m (drop n words))
        ∙ ap (λ (xs : List ℕ). take m (drop n words) ++ xs)
        (drop-drop m n words ∙ ap (λ (k : ℕ). drop k words) sum ∙ drop_more words 7 0 (omega arith) ∙ ap (λ (xs : List ℕ). link_of words ∷ xs) (drop_all 8 words (omega arith)))

    from_parts : (n m : ℕ) → n + m ≡ 7 → All (IsReference h) (take m (drop n words)) → IsLink h (link_of words) → All (IsPointer h) (drop n words)
    from_parts n m sum references link =
        subst (λ (xs : List ℕ). All (IsPointer h) xs) (sym (parts n m sum))
        (All-append (IsPointer h) (take m (drop n words)) (link_of words ∷ [])
        (All-weaker (IsReference h) (IsPointer h) from_reference (take m (drop n words)) references)
        (All-cons (IsPointer h) (link_of words) [] (from_link (link_of words) link) (All-nil (IsPointer h))))

    none_left : All (IsPointer h) (drop 8 words)
    none_left =
        subst (λ (xs : List ℕ). All (IsPointer h) xs) (sym (drop_all 8 words (omega arith))) (All-nil (IsPointer h))

    pub pointers_from_layout : HasLayout h words → All (IsPointer h) (pointers_of words)
    pointers_from_layout layout = by_tests (get_or words 0 0 == 0) refl (get_or words 0 0 == 1) refl (get_or words 0 0 == 2) refl
      where
        by_tests : (z : Bool) → (get_or words 0 0 == 0) ≡ z → (o : Bool) → (get_or words 0 0 == 1) ≡ o → (k : Bool) → (get_or words 0 0 == 2) ≡ k → All (IsPointer h) (pointers_of words)
        by_tests true z _ _ _ _ =
            let zero_tag : get_or words 0 0 ≡ 0 = grind (arith, nat_tests) in
            rw zero_tag none_left
        by_tests false z true o _ _ =
            let shape : HasLayoutOf h words Object = rw (z, o) at layout in
            rw o (from_parts 4 3 refl shape.1 shape.2)
        by_tests false z false o true k =
            let shape : HasLayoutOf h words Chunk = rw (z, o, k) at layout in
            rw (o, k) (from_parts 1 6 refl shape.0 shape.1)
        by_tests false z false o false k = rw (o, k) none_left

pub pointers_sound : (h : SpaceList) (roots : List Root) → AreSound h roots → IsSpaceList h → (number : ℕ) → number < length (cells_of h) → All (IsPointer h) (pointers_of (cell_numbered h number))
pointers_sound h roots sound is number low =
    pointers_from_layout h (cell_numbered h number) (All-get_or (λ (words : List ℕ). length words ≡ 8) (cells_of h) number [] low (all_cells_whole h is.spaces)) (All-get_or (HasLayout h) (cells_of h) number [] low sound.cells)
