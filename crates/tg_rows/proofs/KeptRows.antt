-- The rows of kept objects: the same cells in the same order, moved, with the same names and rights in their references.
use Rattle.std.proofs.Common.{◌≡◌, ◌≢◌, ℕ, ◌==◌, ◌&&◌, not, Bool, true, false, cond, List, [], ◌∷◌, ◌++◌, length, map, refl, sym, ap, subst, ◌∙◌, ⊎_elim}
use Rattle.std.specs.List.{All}
use Rattle.std.proofs.lemmas.List.{map-append}
use Rattle.std.proofs.lemmas.List.Elements.{All-nil, All-cons, All-append, All-head, All-tail}
use Rattle.std.proofs.lemmas.Bool.Decides.{eqb_tells}
use Rattle.tg_rights.specs.RightSet.{RightSet}
use Rattle.tg_word.specs.declared.Place.{Place}
use Rattle.tg_word.specs.Word.{place_in, rights_in}
use Rattle.tg_block.specs.Cells.{kind_of}
use Rattle.tg_block.specs.declared.CellKind.TheVariants.{Object, Chunk}
use Rattle.tg_space.specs.SpaceList.{SpaceList, cell_at, cells_of}
use Rattle.tg_space.specs.Targets.{moved_word}
use Rattle.tg_space.specs.Soundness.{IsKindAt, IsReference, RefersTo}
use Rattle.tg_rows.specs.Rows.{IsChain, name_at, name_in, names_in, references_of, rights_to, row_words, words_of}
use Rattle.tg_space.specs.Rows.{chunks_from, link_at, row_of}
use Rattle.tg_space.specs.Numbering.{moved_place}
use Rattle.tg_rows.proofs.Chains.{row_references, chain_whole}
use Rattle.tg_rows.proofs.Slots.{names_in-some}
use Rattle.tg_rows.proofs.KeptCells.{Moves, IsKeptWord, is_copied, kind_at_after, link_kept, name_kept, references_kept, sound_after}

module _ {from : ℕ → Bool} {h after : SpaceList} {to : ℕ → Place} {kept : Place → Type 0} (move : Moves from h after to kept) where
  -- a chain that begins with a kept cell, link by link
  chain_cells : (ps : List Place) (link : ℕ) → IsKeptWord move link → IsChain h link ps → All kept ps
  chain_cells [] link keep chain = All-nil kept
  chain_cells (p ∷ ps) link keep (some, at, chunk, rest) =
      let here : kept p = subst kept at (keep some).0 in
      All-cons kept p ps here (chain_cells ps (link_at h p) (link_kept move p here) rest)

  chain_after : (ps : List Place) (link : ℕ) → IsKeptWord move link → IsChain h link ps → IsChain after (moved_word from h to link) (map (moved_place from h to) ps)
  chain_after [] link keep none = subst (λ (x : ℕ). moved_word from h to x ≡ 0) (sym none) refl
  chain_after (p ∷ ps) link keep (some, at, chunk, rest) =
      let target = keep some in
      let here : kept p = subst kept at target.0 in (
        target.1.some,
        target.1.place ∙ ap (moved_place from h to) at,
        kind_at_after move Chunk p here chunk.is,
        subst (λ (x : ℕ). IsChain after x (map (moved_place from h to) ps)) (sym (is_copied move p here).link) (chain_after ps (link_at h p) (link_kept move p here) rest),
      )

  pub words_after : (ps : List Place) → All kept ps → words_of after (map (moved_place from h to) ps) ≡ map (moved_word from h to) (words_of h ps)
  words_after [] all = refl
  words_after (p ∷ ps) all =
      let here = (is_copied move p (All-head kept p ps all)).words in
      ap (λ (ws : List ℕ). ws ++ words_of after (map (moved_place from h to) ps)) here
      ∙ ap (λ (ws : List ℕ). map (moved_word from h to) (references_of (cell_at h p)) ++ ws) (words_after ps (All-tail kept p ps all))
      ∙ sym (map-append (moved_word from h to) (references_of (cell_at h p)) (words_of h ps))

  words_kept : (ps : List Place) → All kept ps → All (IsKeptWord move) (words_of h ps)
  words_kept [] all = All-nil (IsKeptWord move)
  words_kept (p ∷ ps) all =
      All-append (IsKeptWord move) (references_of (cell_at h p)) (words_of h ps)
      (references_kept move p (All-head kept p ps all)) (words_kept ps (All-tail kept p ps all))

  -- ---- what a moved reference refers to

  pub same_name : (word : ℕ) → IsKeptWord move word → IsReference h word → word ≢ 0 → name_in after (moved_word from h to word) ≡ name_in h word
  same_name word keep is some =
      let target = keep some in
      let refers : RefersTo h word = ⊎_elim (λ z. absurd (some z)) (λ r. r) is in
      ap (name_at after) target.1.place ∙ name_kept move (place_in word) target.0 refers.object.is

  -- both are references to the name, or neither
  same_test : (name word : ℕ) → IsKeptWord move word → IsReference h word → (not (moved_word from h to word == 0) && (name_in after (moved_word from h to word) == name)) ≡ (not (word == 0) && (name_in h word == name))
  same_test name word keep is =
      ⊎_elim
      (λ (z : (word == 0 ≡ true) × (word ≡ 0)). subst (λ (x : ℕ). (not (moved_word from h to x == 0) && (name_in after (moved_word from h to x) == name)) ≡ (not (x == 0) && (name_in h x == name))) (sym z.1) refl)
      (λ (n : (word == 0 ≡ false) × (word ≢ 0)).
      let still : (moved_word from h to word == 0) ≡ false = ⊎_elim (λ (z : (moved_word from h to word == 0 ≡ true) × (moved_word from h to word ≡ 0)). absurd ((keep n.1).1.some z.1)) (λ f. f.0) (eqb_tells (moved_word from h to word) 0) in
      ap (λ (b : Bool). not b && (name_in after (moved_word from h to word) == name)) (still ∙ sym n.0) ∙ ap (λ (x : ℕ). not (word == 0) && (x == name)) (same_name word keep is n.1))
      (eqb_tells word 0)

  same_rights : (word : ℕ) → IsKeptWord move word → rights_in (moved_word from h to word) ≡ rights_in word
  same_rights word keep =
      ⊎_elim
      (λ (z : (word == 0 ≡ true) × (word ≡ 0)). subst (λ (x : ℕ). rights_in (moved_word from h to x) ≡ rights_in x) (sym z.1) refl)
      (λ (n : (word == 0 ≡ false) × (word ≢ 0)). (keep n.1).1.rights)
      (eqb_tells word 0)

  rights_after : (name : ℕ) (words : List ℕ) → All (IsKeptWord move) words → All (IsReference h) words → rights_to after name (map (moved_word from h to) words) ≡ rights_to h name words
  rights_after name [] keeps are = refl
  rights_after name (w ∷ words) keeps are =
      let keep = All-head (IsKeptWord move) w words keeps in
      let test = same_test name w keep (All-head (IsReference h) w words are) in
      let rest = rights_after name words (All-tail (IsKeptWord move) w words keeps) (All-tail (IsReference h) w words are) in
      ap (λ (b : Bool). cond b (rights_in (moved_word from h to w)) (rights_to after name (map (moved_word from h to) words))) test
      ∙ ap (λ (r : RightSet). cond (not (w == 0) && (name_in h w == name)) r (rights_to after name (map (moved_word from h to) words))) (same_rights w keep)
      ∙ ap (λ (r : RightSet). cond (not (w == 0) && (name_in h w == name)) (rights_in w) r) rest

  names_after : (words : List ℕ) → All (IsKeptWord move) words → All (IsReference h) words → names_in after (map (moved_word from h to) words) ≡ names_in h words
  names_after [] keeps are = refl
  names_after (w ∷ words) keeps are =
      let keep = All-head (IsKeptWord move) w words keeps in
      let rest : names_in after (map (moved_word from h to) words) ≡ names_in h words = names_after words (All-tail (IsKeptWord move) w words keeps) (All-tail (IsReference h) w words are) in
      ⊎_elim
      (λ (z : (w == 0 ≡ true) × (w ≡ 0)). subst (λ (x : ℕ). names_in after (moved_word from h to x ∷ map (moved_word from h to) words) ≡ names_in h (x ∷ words)) (sym z.1) rest)
      (λ (n : (w == 0 ≡ false) × (w ≢ 0)).
      names_in-some after (moved_word from h to w) (map (moved_word from h to) words) (keep n.1).1.some
      ∙ ap (λ (x : ℕ). x ∷ names_in after (map (moved_word from h to) words)) (same_name w keep (All-head (IsReference h) w words are) n.1)
      ∙ ap (λ (names : List ℕ). name_in h w ∷ names) rest
      ∙ sym (names_in-some h w words n.1))
      (eqb_tells w 0)

  -- ---- rows

  -- the row of a kept object that ends, and that of its copy
  pub record IsKeptRow (p : Place) : Type 0 where
    pub object : IsKindAt after Object (moved_place from h to p)
    pub cells : All kept (row_of h p)
    pub row : row_of after (moved_place from h to p) ≡ map (moved_place from h to) (row_of h p)
    pub ends : IsChain after (link_at after (moved_place from h to p)) (chunks_from after (length (cells_of after)) (link_at after (moved_place from h to p)))
    pub words : All (IsKeptWord move) (row_words h p)
    pub references : All (IsReference h) (row_words h p)
    pub rights : (name : ℕ) → rights_to after name (row_words after (moved_place from h to p)) ≡ rights_to h name (row_words h p)
    pub names : names_in after (row_words after (moved_place from h to p)) ≡ names_in h (row_words h p)

  pub row_kept : (p : Place) → kept p → kind_of (cell_at h p) ≡ Object → IsChain h (link_at h p) (chunks_from h (length (cells_of h)) (link_at h p)) → IsKeptRow p
  row_kept p keep is chain = record {
    object = object;
    cells = cells;
    row = row;
    ends = subst (IsChain after (link_at after (moved_place from h to p))) (sym enough) moved;
    words = words_kept (row_of h p) cells;
    references = refer;
    rights = λ name. ap (rights_to after name) words ∙ rights_after name (row_words h p) (words_kept (row_of h p) cells) refer;
    names = ap (names_in after) words ∙ names_after (row_words h p) (words_kept (row_of h p) cells) refer;
  }
    where
      object : IsKindAt after Object (moved_place from h to p)
      object = kind_at_after move Object p keep is

      cells : All kept (row_of h p)
      cells = All-cons kept p (chunks_from h (length (cells_of h)) (link_at h p)) keep (chain_cells (chunks_from h (length (cells_of h)) (link_at h p)) (link_at h p) (link_kept move p keep) chain)

      refer : All (IsReference h) (row_words h p)
      refer = row_references h move.whole [] move.sound p (record { held = move.held p keep; is = is }) chain

      moved : IsChain after (link_at after (moved_place from h to p)) (map (moved_place from h to) (chunks_from h (length (cells_of h)) (link_at h p)))
      moved =
          subst (λ (x : ℕ). IsChain after x (map (moved_place from h to) (chunks_from h (length (cells_of h)) (link_at h p)))) (sym (is_copied move p keep).link)
          (chain_after (chunks_from h (length (cells_of h)) (link_at h p)) (link_at h p) (link_kept move p keep) chain)

      enough : chunks_from after (length (cells_of after)) (link_at after (moved_place from h to p)) ≡ map (moved_place from h to) (chunks_from h (length (cells_of h)) (link_at h p))
      enough =
          chain_whole after move.whole_after [] (sound_after move) (moved_place from h to p) (map (moved_place from h to) (chunks_from h (length (cells_of h)) (link_at h p))) object moved

      row : row_of after (moved_place from h to p) ≡ map (moved_place from h to) (row_of h p)
      row = ap (λ (ps : List Place). moved_place from h to p ∷ ps) enough

      words : row_words after (moved_place from h to p) ≡ map (moved_word from h to) (row_words h p)
      words = ap (words_of after) row ∙ words_after (row_of h p) cells
