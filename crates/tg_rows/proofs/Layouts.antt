-- What the layout of a cell says of its words.
use Rattle.std.proofs.Common.{◌≡◌, ◌≢◌, ℕ, zero, suc, ◌<◌, ◌≤◌, ◌/◌, ◌^◌, ◌↔◌, ◌&&◌, if◌then◌else◌, inl, Bool, true, false, ◌==◌, List, [], ◌∷◌, get_or, take, drop, refl, sym, ap, subst, arith, ◌∙◌, ⊎_elim, IsTrue}
use Rattle.std.specs.List.{All, list_all}
use Rattle.std.proofs.lemmas.List.Elements.{All-nil}
use Rattle.tg_word.specs.declared.Place.{Place}
use Rattle.tg_word.specs.Word.{is_present, place_in, rights_in, word_at, IsPlace}
use Rattle.tg_word.proofs.Packing.{word_at-rights_in, is_place-place_in}
use Rattle.tg_block.specs.Cells.{kind_of, all_are_zero}
use Rattle.tg_block.specs.declared.CellKind.TheVariants.{Free, Object, Chunk, Bad}
use Rattle.tg_space.specs.SpaceList.{SpaceList, IsSpaceList, HasCell, cell_at}
use Rattle.tg_space.specs.Soundness.{AreSound, HasLayout, HasLayoutOf, IsKindAt, IsReference, IsLink, LinksTo}
use Rattle.tg_space.specs.Rows.{link_of, link_at}
use Rattle.tg_space.specs.Targets.{first_pointer}
use Rattle.tg_space.specs.declared.root.Root.{Root}
use Rattle.tg_rows.specs.Rows.{references_of}
use Rattle.tg_rows.proofs.Places.{layout_at}
use Rattle.std.proofs.lemmas.Bool.{and_parts, cond_both, eqb-true}

-- ---- words

-- a present word is that of its own rights and place
present_fits : (word : ℕ) → IsTrue (is_present word) → word < 2 ^ 64
present_fits word present = let high = eqb-true (word / 2 ^ 41) 1 (and_parts (word / 2 ^ 41 == 1) _ present).0 in omega (arith, high)

-- the empty word isn't one
pub empty_present : (word : ℕ) → IsTrue (is_present word) → word ≢ 0
empty_present word present z = let no : false ≡ true = subst (λ (w : ℕ). is_present w ≡ true) z present in absurd cc

module _ (word : ℕ) (present : IsTrue (is_present word)) where
  pub present_word : word_at (rights_in word) (place_in word) ≡ word
  present_word = word_at-rights_in word (present_fits word present) present

  pub present_place : IsPlace (place_in word)
  present_place = is_place-place_in word (present_fits word present) present

-- two links to one place are one word
pub same_link : (h : SpaceList) (a b : ℕ) → LinksTo h a → LinksTo h b → place_in a ≡ place_in b → a ≡ b
same_link h a b one two same =
    sym (present_word a one.present) ∙ ap (λ r. word_at r (place_in a)) (one.rights ∙ sym two.rights)
    ∙ ap (word_at (rights_in b)) same ∙ present_word b two.present

-- ---- kinds

-- what the first word says
pub data KindCases (words : List ℕ) : Type 0 where
  is_free : kind_of words ≡ Free → all_are_zero words ≡ true → KindCases words
  is_object : kind_of words ≡ Object → get_or words 0 0 ≡ 1 → KindCases words
  is_chunk : kind_of words ≡ Chunk → get_or words 0 0 ≡ 2 → KindCases words
  is_bad : kind_of words ≡ Bad → KindCases words

pub kind_cases : (words : List ℕ) → KindCases words
kind_cases words = by_tests (get_or words 0 0 == 0) refl (all_are_zero words) refl (get_or words 0 0 == 1) refl (get_or words 0 0 == 2) refl
  where
    by_tests : (z : Bool) → (get_or words 0 0 == 0) ≡ z → (a : Bool) → all_are_zero words ≡ a → (o : Bool) → (get_or words 0 0 == 1) ≡ o → (k : Bool) → (get_or words 0 0 == 2) ≡ k → KindCases words
    by_tests true z true a _ _ _ _ = is_free (rw (z, a) refl) a
    by_tests true z false a _ _ _ _ = is_bad (rw (z, a) refl)
    by_tests false z _ _ true o _ _ = is_object (rw (z, o) refl) (eqb-true (get_or words 0 0) 1 o)
    by_tests false z _ _ false o true k = is_chunk (rw (z, o, k) refl) (eqb-true (get_or words 0 0) 2 k)
    by_tests false z _ _ false o false k = is_bad (rw (z, o, k) refl)

-- each word of a free cell is 0
pub zero_at : (words : List ℕ) (i : ℕ) → all_are_zero words ≡ true → get_or words i 0 ≡ 0
zero_at [] i all = refl
zero_at (w ∷ words) i all = by_test (w == 0) refl i all (zero_at words)
  where
    by_test : (b : Bool) → (w == 0) ≡ b → (j : ℕ) → (b && list_all (λ x. x == 0) words) ≡ true → ((n : ℕ) → all_are_zero words ≡ true → get_or words n 0 ≡ 0) → get_or (w ∷ words) j 0 ≡ 0
    by_test true e zero every rest = eqb-true w 0 e
    by_test true e (suc j) every rest = rest j every
    by_test false e j every rest = absurd cc

module _ (words : List ℕ) where
  pub object_tagged : (kind_of words ≡ Object) ↔ (get_or words 0 0 ≡ 1)
  object_tagged = (λ kind. by_kind (kind_cases words) kind, λ tag. rw tag refl)
    where
      by_kind : KindCases words → kind_of words ≡ Object → get_or words 0 0 ≡ 1
      by_kind (is_free kind _) is = absurd cc
      by_kind (is_object _ tag) is = tag
      by_kind (is_chunk kind _) is = absurd cc
      by_kind (is_bad kind) is = absurd cc

  pub chunk_tagged : (kind_of words ≡ Chunk) ↔ (get_or words 0 0 ≡ 2)
  chunk_tagged = (λ kind. by_kind (kind_cases words) kind, λ tag. rw tag refl)
    where
      by_kind : KindCases words → kind_of words ≡ Chunk → get_or words 0 0 ≡ 2
      by_kind (is_free kind _) is = absurd cc
      by_kind (is_object kind _) is = absurd cc
      by_kind (is_chunk _ tag) is = tag
      by_kind (is_bad kind) is = absurd cc

  pub free_zero : kind_of words ≡ Free → (i : ℕ) → get_or words i 0 ≡ 0
  free_zero is i = by_kind (kind_cases words)
    where
      by_kind : KindCases words → get_or words i 0 ≡ 0
      by_kind (is_free _ all) = zero_at words i all
      by_kind (is_object kind _) = absurd cc
      by_kind (is_chunk kind _) = absurd cc
      by_kind (is_bad kind) = absurd cc

  pub references_of_object : kind_of words ≡ Object → references_of words ≡ take 3 (drop 4 words)
  references_of_object is = rw (object_tagged.0 is) refl

  pub references_of_chunk : kind_of words ≡ Chunk → references_of words ≡ take 6 (drop 1 words)
  references_of_chunk is = rw (chunk_tagged.0 is) refl

  pub references_of_free : kind_of words ≡ Free → references_of words ≡ []
  references_of_free is = rw (free_zero is 0) refl

-- where the first reference of a cell stands
pub first_range : (tag : ℕ) → (1 ≤ first_pointer tag) × (first_pointer tag ≤ 8)
first_range tag =
    let range = λ (n : ℕ). (1 ≤ n) × (n ≤ 8) in
    cond_both (tag == 1) 4 (if tag == 2 then 1 else 8) range (λ _. (omega arith, omega arith)) (λ _. cond_both (tag == 2) 1 8 range (λ _. (omega arith, omega arith)) (λ _. (omega arith, omega arith)))

-- an object is no chunk
pub apart_kinds : (h : SpaceList) (p : Place) → IsKindAt h Object p → IsKindAt h Chunk p → ⊥
apart_kinds h p object chunk =
    let one : get_or (cell_at h p) 0 0 ≡ 1 = (object_tagged (cell_at h p)).0 object.is in
    let two : get_or (cell_at h p) 0 0 ≡ 2 = (chunk_tagged (cell_at h p)).0 chunk.is in
    omega arith

-- ---- cells of sound spaces

-- what all layouts say
pub record RowCell (h : SpaceList) (words : List ℕ) : Type 0 where
  pub references : All (IsReference h) (references_of words)
  pub link : IsLink h (link_of words)

pub row_cell : (h : SpaceList) (words : List ℕ) → HasLayout h words → RowCell h words
row_cell h words layout = by_kind (kind_cases words)
  where
    by_kind : KindCases words → RowCell h words
    by_kind (is_free kind all) = record {
      references = subst (All (IsReference h)) (sym (references_of_free words kind)) (All-nil (IsReference h));
      link = inl (zero_at words 7 all);
    }
    by_kind (is_object kind tag) =
        let shape : HasLayoutOf h words Object = subst (HasLayoutOf h words) kind layout in
        record { references = subst (All (IsReference h)) (sym (references_of_object words kind)) shape.1; link = shape.2 }
    by_kind (is_chunk kind tag) =
        let shape : HasLayoutOf h words Chunk = subst (HasLayoutOf h words) kind layout in
        record { references = subst (All (IsReference h)) (sym (references_of_chunk words kind)) shape.0; link = shape.1 }
    by_kind (is_bad kind) = absurd (subst (HasLayoutOf h words) kind layout)

module _ (h : SpaceList) (is : IsSpaceList h) (roots : List Root) (sound : AreSound h roots) where
  pub references_at : (p : Place) → HasCell h p → All (IsReference h) (references_of (cell_at h p))
  references_at p held = (row_cell h (cell_at h p) (layout_at h is roots sound p held)).references

  pub link_held : (p : Place) → HasCell h p → IsLink h (link_at h p)
  link_held p held = (row_cell h (cell_at h p) (layout_at h is roots sound p held)).link

  -- a link that isn't empty
  pub link_some : (p : Place) → HasCell h p → link_at h p ≢ 0 → LinksTo h (link_at h p)
  link_some p held some = ⊎_elim (λ z. absurd (some z)) (λ links. links) (link_held p held)
