-- The references and links of sound spaces.
use Rattle.std.proofs.Common.{◌≡◌, ℕ, zero, suc, ◌==◌, Bool, true, false, List, [], ◌∷◌, get_or, refl, subst, inl, inr, ⊎_elim}
use Rattle.std.specs.List.{All}
use Rattle.std.proofs.lemmas.List.Elements.{All-get_or}
use Rattle.std.proofs.lemmas.Bool.Decides.{eqb_tells}
use Rattle.tg_word.specs.Word.{place_in}
use Rattle.tg_block.specs.Cells.{all_are_zero}
use Rattle.tg_block.specs.declared.CellKind.TheVariants.{Object, Chunk, Bad}
use Rattle.tg_space.specs.Rows.{link_of}
use Rattle.tg_space.specs.Soundness.{AreSound, HasLayout, HasLayoutOf, IsLink, LinksTo, IsPointer}
use Rattle.tg_space.specs.SpaceList.{SpaceList, IsSpaceList, cell_at, cells_of, flat_of}
use Rattle.tg_space.specs.Targets.{pointers_of}
use Rattle.tg_space.specs.declared.root.Root.{Root}
use Rattle.tg_space.proofs.Flat.{flat_inside, get_or-flat_of}
use Rattle.tg_space.proofs.Pointing.{pointers_sound, used_chunk}
use Rattle.tg_evac.specs.Claims.{HavePointers}

-- words that are all zero
zero_at : (words : List ℕ) → all_are_zero words ≡ true → (i : ℕ) → get_or words i 0 ≡ 0
zero_at [] are i = refl
zero_at (w ∷ words) are zero = ⊎_elim
    (λ (z : (w == 0 ≡ true) × (w ≡ 0)). z.1)
    (λ (n : (w == 0 ≡ false) × (w ≡ 0 → ⊥)). absurd (let e = rw n.0 at are in cc))
    (eqb_tells w 0)
zero_at (w ∷ words) are (suc i) = ⊎_elim
    (λ (z : (w == 0 ≡ true) × (w ≡ 0)). zero_at words (rw z.0 at are) i)
    (λ (n : (w == 0 ≡ false) × (w ≡ 0 → ⊥)). absurd (let e = rw n.0 at are in cc))
    (eqb_tells w 0)

module _ (h : SpaceList) where
  from_link : (word : ℕ) → IsLink h word → IsPointer h word
  from_link word is =
      ⊎_elim (λ e. inl e)
      (λ (r : LinksTo h word). inr (record { present = r.present; held = r.chunk.held; used = used_chunk (cell_at h (place_in word)) r.chunk.is }))
      is

  link_from_layout : (words : List ℕ) → HasLayout h words → IsPointer h (link_of words)
  link_from_layout words layout = by_tests (get_or words 0 0 == 0) refl (all_are_zero words) refl (get_or words 0 0 == 1) refl (get_or words 0 0 == 2) refl
    where
      by_tests : (z : Bool) → (get_or words 0 0 == 0) ≡ z → (a : Bool) → all_are_zero words ≡ a → (o : Bool) → (get_or words 0 0 == 1) ≡ o → (k : Bool) → (get_or words 0 0 == 2) ≡ k → IsPointer h (link_of words)
      by_tests true z true a _ _ _ _ = inl (zero_at words a 7)
      by_tests true z false a _ _ _ _ = let none : HasLayoutOf h words Bad = rw (z, a) at layout in absurd none
      by_tests false z _ _ true o _ _ =
          let shape : HasLayoutOf h words Object = rw (z, o) at layout in
          from_link (link_of words) shape.2
      by_tests false z _ _ false o true k =
          let shape : HasLayoutOf h words Chunk = rw (z, o, k) at layout in
          from_link (link_of words) shape.1
      by_tests false z _ _ false o false k = let none : HasLayoutOf h words Bad = rw (z, o, k) at layout in absurd none

  pub have_pointers : (roots : List Root) → AreSound h roots → IsSpaceList h → HavePointers h
  have_pointers roots sound is = record {
    words = λ p held. subst (λ (ws : List ℕ). All (IsPointer h) (pointers_of ws)) (get_or-flat_of h is.spaces p held) (pointers_sound h roots sound is (flat_of h p) (flat_inside h is.spaces p held));
    numbered = pointers_sound h roots sound is;
    links = λ p held.
        let layout : HasLayout h (cell_at h p) = subst (λ (ws : List ℕ). HasLayout h ws) (get_or-flat_of h is.spaces p held) (All-get_or (HasLayout h) (cells_of h) (flat_of h p) [] (flat_inside h is.spaces p held) sound.cells) in
        link_from_layout (cell_at h p) layout;
  }
