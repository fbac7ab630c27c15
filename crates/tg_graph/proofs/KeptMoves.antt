-- A collection of either kind moves the cells that it keeps, once the remembered cells were written.
use Rattle.std.proofs.Common.{[], ◌≡◌, ◌≢◌, ◌↔◌, ℕ, zero, suc, ◌<◌, ◌⊎◌, ◌==◌, ◌++◌, Bool, true, false, List, ◌∷◌, length, get_or, take, drop, map, refl, sym, ap, subst, arith, ◌∙◌, inl, inr, ⊎_elim}
use Rattle.std.specs.List.{All, Contains}
use Rattle.std.proofs.lemmas.Bool.{cases_eq, cases_Bool}
use Rattle.std.proofs.lemmas.Bool.Decides.{eqb_tells}
use Rattle.std.proofs.lemmas.List.{ext_get_or, get_or-replicate, take-append-drop}
use Rattle.tg_model.specs.Walks.{begins, goes}
use Rattle.tg_word.specs.declared.Place.{Place}
use Rattle.tg_word.specs.Word.{IsPlace, link_to, place_in}
use Rattle.tg_word.proofs.Packing.{place_in-word_at, word_at-above_zero}
use Rattle.tg_rights.specs.RightSet.{no_rights}
use Rattle.tg_block.specs.Cells.{free_cell}
use Rattle.tg_block.specs.declared.CellKind.{CellKind}
use Rattle.tg_space.specs.SpaceList.{SpaceList, IsSpaceList, HasCell, cell_at, cells_of, flat_of}
use Rattle.tg_space.specs.SpaceTable.{adopted}
use Rattle.tg_space.specs.Targets.{from_space, first_pointer, moved_word, root_targets_of, all_root_targets, targets_of, pointers_of, image_of}
use Rattle.tg_space.specs.Soundness.{HasLayout, HasLayoutOf, IsOldCell, NamesCell}
use Rattle.tg_space.specs.Closure.{IsInClosure}
use Rattle.tg_space.specs.Generations.{AreNeeded, AreRemembered, NamesYoung}
use Rattle.tg_space.specs.Collection.{Collected, IsCollection, IsMadeInOld, IsNewPlace, new_place}
use Rattle.tg_space.specs.declared.kind.Kind.{Kind}
use Rattle.tg_space.specs.declared.root.Root.{Root}
use Rattle.tg_space.specs.declared.root.Root.TheVariants.{Remembered}
use Rattle.tg_space.proofs.Flat.{flat_inside, get_or-flat_of, same_place}
use Rattle.tg_payload.specs.Table.{Payloads}
use Rattle.tg_rows.specs.Graph.{IsGraph}
use Rattle.tg_graph.specs.Kept.{IsKept}
use Rattle.tg_space.specs.Numbering.{moved_place}
use Rattle.tg_rows.proofs.Members.{Contains-flat_map, Contains-here, Contains-more}
use Rattle.tg_rows.proofs.Places.{cell_long, layout_at, held_place}
use Rattle.tg_rows.proofs.Layouts.{KindCases, is_free, is_object, is_chunk, is_bad, kind_cases, object_tagged, chunk_tagged, free_zero}
use Rattle.tg_rows.proofs.KeptCells.{Moves}
use Rattle.tg_graph.proofs.KeptTargets.{IsWholeRoot, IsInFrom, next_target, reached_in_from, target_held, target_of_word}
use Rattle.tg_graph.proofs.KeptAdopted.{adopted_cases, new_apart, stays_cell, stays_held, young_moves}

-- ---- words

-- words none of which names a cell of from-space are their own image
map_same : (f : ℕ → ℕ) (words : List ℕ) → ((word : ℕ) → Contains words word → f word ≡ word) → map f words ≡ words
map_same f [] same = refl
map_same f (w ∷ words) same =
    ap (λ (x : ℕ). x ∷ map f words) (same w (Contains-here w words))
    ∙ ap (λ (xs : List ℕ). w ∷ xs) (map_same f words (λ word has. same word (Contains-more w words word has)))

pub image_same : (from : ℕ → Bool) (h : SpaceList) (to : ℕ → Place) (words : List ℕ) → ((word : ℕ) → Contains (pointers_of words) word → from (place_in word).space ≡ false) → image_of from h to words ≡ words
image_same from h to words stay =
    let first = first_pointer (get_or words 0 0) in
    ap (λ (xs : List ℕ). take first words ++ xs) (map_same (moved_word from h to) (drop first words) (λ word has. word_same word (stay word has)))
    ∙ take-append-drop first words
  where
    word_same : (word : ℕ) → from (place_in word).space ≡ false → moved_word from h to word ≡ word
    word_same word stays =
        ⊎_elim
        (λ (z : (word == 0 ≡ true) × (word ≡ 0)). rw z.0 (sym z.1))
        (λ (n : (word == 0 ≡ false) × (word ≢ 0)). rw (n.0, stays) refl)
        (eqb_tells word 0)

-- a cell with the layout of its kind whose first word is 0 is free
free_from_tag : (h : SpaceList) (words : List ℕ) → length words ≡ 8 → HasLayout h words → get_or words 0 0 ≡ 0 → words ≡ free_cell
free_from_tag h words long layout none = by_kind (kind_cases words)
  where
    by_kind : KindCases words → words ≡ free_cell
    by_kind (is_free is _) =
        ext_get_or 0 words free_cell long (λ i low. free_zero words is i ∙ sym (get_or-replicate 8 i 0 0 (omega (arith, long))))
    by_kind (is_object is _) = let tag : get_or words 0 0 ≡ 1 = (object_tagged words).0 is in absurd (omega arith)
    by_kind (is_chunk is _) = let tag : get_or words 0 0 ≡ 2 = (chunk_tagged words).0 is in absurd (omega arith)
    by_kind (is_bad is) = absurd (subst (λ (kind : CellKind). HasLayoutOf h words kind) is layout)

-- ---- numbers

-- a number below n at which a list has a word, or none
found_below : (words : List ℕ) (word n : ℕ) → ((c : ℕ) × (c < n) × (get_or words c 0 ≡ word)) ⊎ ((c : ℕ) → c < n → get_or words c 0 ≢ word)
found_below words word zero = inr (λ c low. absurd (omega arith))
found_below words word (suc n) = by_last (cases_eq (get_or words n 0) word) (found_below words word n)
  where
    by_last : (get_or words n 0 ≡ word) ⊎ (get_or words n 0 ≢ word) → ((c : ℕ) × (c < n) × (get_or words c 0 ≡ word)) ⊎ ((c : ℕ) → c < n → get_or words c 0 ≢ word) → ((c : ℕ) × (c < suc n) × (get_or words c 0 ≡ word)) ⊎ ((c : ℕ) → c < suc n → get_or words c 0 ≢ word)
    by_last (inl same) _ = inl (n, omega arith, same)
    by_last (inr _) (inl (c, low, same)) = inl (c, omega arith, same)
    by_last (inr differ) (inr none) = inr (λ c low same. by_place c same (cases_eq c n) low)
      where
        by_place : (c : ℕ) → get_or words c 0 ≡ word → (c ≡ n) ⊎ (c ≢ n) → c < suc n → ⊥
        by_place c same (inl last) low = differ (ap (λ (k : ℕ). get_or words k 0) (sym last) ∙ same)
        by_place c same (inr other) low = none c (omega arith) same

-- ---- what a collection starts from, and what is written after it

-- The remembered cells among the roots stay where they are, and each cell that stays and names one of from-space is
-- among them.
pub record AreRooted (from : ℕ → Bool) (h : SpaceList) (roots : List Root) : Type 0 where
  pub held : All (IsWholeRoot h) roots
  pub stay : (p : Place) → Contains roots (Remembered p) → IsOldCell h p × (from p.space ≡ false)
  pub all : (p : Place) → HasCell h p → from p.space ≡ false → (word : ℕ) → Contains (pointers_of (cell_at h p)) word → from (place_in word).space ≡ true → Contains roots (Remembered p)

-- the words that a place has after a collection: a remembered cell was written, and any other is as it was adopted
abbrev pub HasWordsAfter : Kind → SpaceList → List Root → Collected → SpaceList → Place → Type 0
HasWordsAfter kind h roots made after q =
    (Contains roots (Remembered q) × (cell_at after q ≡ image_of (from_space kind) h (new_place made.forward) (cell_at h q)))
    ⊎ ((Contains roots (Remembered q) → ⊥) × (cell_at after q ≡ cell_at (adopted kind h made.aged made.old) q))

pub record IsAfter (kind : Kind) (h : SpaceList) (roots : List Root) (made : Collected) (after : SpaceList) : Type 0 where
  pub whole : IsSpaceList after
  pub held : (q : Place) → HasCell after q ↔ HasCell (adopted kind h made.aged made.old) q
  pub words : (q : Place) → HasCell after q → HasWordsAfter kind h roots made after q

module _ (kind : Kind) (h after : SpaceList) (payloads : Payloads) (whole : IsSpaceList h) (some : 0 < length h) (graph : IsGraph h payloads) (roots : List Root) (rooted : AreRooted (from_space kind) h roots)
    (made : Collected) (is : IsCollection kind h roots made) (now : IsAfter kind h roots made after) where
  abbrev from : ℕ → Bool
  from = from_space kind

  abbrev to : ℕ → Place
  to = new_place made.forward

  abbrev IsReachedNumber : ℕ → Type 0
  IsReachedNumber = IsInClosure (all_root_targets from h roots) (targets_of from h)

  -- ---- the words after the collection

  new_cell : (q : Place) → IsNewPlace kind h made.aged made.old q → cell_at after q ≡ cell_at (adopted kind h made.aged made.old) q
  new_cell q new =
      ⊎_elim
      (λ written. let stays = rooted.stay q written.0 in absurd (new_apart h made.aged made.old kind q new stays.0.held stays.1))
      (λ adopted_as. adopted_as.1)
      (now.words q ((now.held q).1 new.held))

  old_held : (p : Place) → HasCell h p → from p.space ≡ false → HasCell after p
  old_held p held stays = (now.held p).1 (stays_held h made.aged made.old kind p held stays)

  old_cell : (p : Place) → HasCell h p → from p.space ≡ false → cell_at after p ≡ image_of from h to (cell_at h p)
  old_cell p held stays = by_words (now.words p (old_held p held stays))
    where
      by_words : HasWordsAfter kind h roots made after p → cell_at after p ≡ image_of from h to (cell_at h p)
      by_words (inl written) = written.1
      by_words (inr (apart, same)) =
          same ∙ stays_cell h made.aged made.old kind p held stays
          ∙ sym (image_same from h to (cell_at h p) (λ word among. ⊎_elim (λ moves. absurd (apart (rooted.all p held stays word among moves))) (λ f. f) (cases_Bool (from (place_in word).space))))

  -- ---- what was copied

  pub reached_word : (p : Place) → HasCell h p → IsReachedNumber (flat_of h p) → get_or made.forward (flat_of h p) 0 ≢ 0
  reached_word p held reached = (is.reached (flat_of h p) (flat_inside h whole.spaces p held)).1 reached

  pub word_reached : (p : Place) → HasCell h p → get_or made.forward (flat_of h p) 0 ≢ 0 → IsReachedNumber (flat_of h p)
  word_reached p held ne = (is.reached (flat_of h p) (flat_inside h whole.spaces p held)).0 ne

  place_new : (p : Place) → HasCell h p → get_or made.forward (flat_of h p) 0 ≢ 0 → IsNewPlace kind h made.aged made.old (to (flat_of h p))
  place_new p held ne = is.placed (flat_of h p) (flat_inside h whole.spaces p held, ne)

  place_cell : (p : Place) → HasCell h p → get_or made.forward (flat_of h p) 0 ≢ 0 → cell_at after (to (flat_of h p)) ≡ image_of from h to (cell_at h p)
  place_cell p held ne =
      new_cell (to (flat_of h p)) (place_new p held ne)
      ∙ is.copied (flat_of h p) (flat_inside h whole.spaces p held, ne)
      ∙ ap (image_of from h to) (get_or-flat_of h whole.spaces p held)

  moved_to : (p : Place) → from p.space ≡ true → moved_place from h to p ≡ to (flat_of h p)
  moved_to p t = rw t refl

  not_moved : (p : Place) → from p.space ≡ false → moved_place from h to p ≡ p
  not_moved p f = rw f refl

  -- ---- the moves

  target_kept : (p : Place) → IsKept kind h made.forward p → (word : ℕ) → Contains (pointers_of (cell_at h p)) word → word ≢ 0 → IsKept kind h made.forward (place_in word)
  target_kept p keep word among ne = record {
    held = names.held;
    used = names.used;
    copied = λ moves. reached_word (place_in word) names.held (by_space moves (cases_Bool (from p.space)));
  }
    where
      names : NamesCell h word
      names = target_held from h whole graph.sound p keep.held word among ne

      by_space : from (place_in word).space ≡ true → (from p.space ≡ true) ⊎ (from p.space ≡ false) → IsReachedNumber (flat_of h (place_in word))
      by_space moves (inl t) =
          goes (word_reached p keep.held (keep.copied t)) (next_target from h whole graph.sound p keep.held word among ne moves)
      by_space moves (inr f) =
          begins (Contains-flat_map (root_targets_of from h) roots (Remembered p) (flat_of h (place_in word)) (rooted.all p keep.held f word among moves) (target_of_word from h (pointers_of (cell_at h p)) word among ne moves))

  kept_stands : (p : Place) → IsKept kind h made.forward p → HasCell after (moved_place from h to p)
  kept_stands p keep = by_space (cases_Bool (from p.space))
    where
      by_space : (from p.space ≡ true) ⊎ (from p.space ≡ false) → HasCell after (moved_place from h to p)
      by_space (inl t) = subst (HasCell after) (sym (moved_to p t)) ((now.held (to (flat_of h p))).1 (place_new p keep.held (keep.copied t)).held)
      by_space (inr f) = subst (HasCell after) (sym (not_moved p f)) (old_held p keep.held f)

  kept_copied : (p : Place) → IsKept kind h made.forward p → cell_at after (moved_place from h to p) ≡ image_of from h to (cell_at h p)
  kept_copied p keep = by_space (cases_Bool (from p.space))
    where
      by_space : (from p.space ≡ true) ⊎ (from p.space ≡ false) → cell_at after (moved_place from h to p) ≡ image_of from h to (cell_at h p)
      by_space (inl t) = ap (cell_at after) (moved_to p t) ∙ place_cell p keep.held (keep.copied t)
      by_space (inr f) = ap (cell_at after) (not_moved p f) ∙ old_cell p keep.held f

  kept_apart : (p q : Place) → IsKept kind h made.forward p → IsKept kind h made.forward q → moved_place from h to p ≡ moved_place from h to q → p ≡ q
  kept_apart p q keep_p keep_q same = by_spaces (cases_Bool (from p.space)) (cases_Bool (from q.space))
    where
      new_old : (a b : Place) → IsKept kind h made.forward a → IsKept kind h made.forward b → from a.space ≡ true → from b.space ≡ false → to (flat_of h a) ≡ b → ⊥
      new_old a b keep_a keep_b t f at =
          let new = subst (IsNewPlace kind h made.aged made.old) at (place_new a keep_a.held (keep_a.copied t)) in
          new_apart h made.aged made.old kind b new keep_b.held f

      by_spaces : (from p.space ≡ true) ⊎ (from p.space ≡ false) → (from q.space ≡ true) ⊎ (from q.space ≡ false) → p ≡ q
      by_spaces (inl tp) (inl tq) =
          let at_p = flat_inside h whole.spaces p keep_p.held in
          let at_q = flat_inside h whole.spaces q keep_q.held in
          let words : get_or made.forward (flat_of h p) 0 ≡ get_or made.forward (flat_of h q) 0 = is.words (flat_of h p) (at_p, keep_p.copied tp) ∙ ap link_to (sym (moved_to p tp) ∙ same ∙ moved_to q tq) ∙ sym (is.words (flat_of h q) (at_q, keep_q.copied tq)) in
          same_place h whole.spaces p q keep_p.held keep_q.held (is.apart (flat_of h p) (flat_of h q) (at_p, keep_p.copied tp) at_q words)
      by_spaces (inl tp) (inr fq) = absurd (new_old p q keep_p keep_q tp fq (sym (moved_to p tp) ∙ same ∙ not_moved q fq))
      by_spaces (inr fp) (inl tq) = absurd (new_old q p keep_q keep_p tq fp (sym (moved_to q tq) ∙ sym same ∙ not_moved p fp))
      by_spaces (inr fp) (inr fq) = sym (not_moved p fp) ∙ same ∙ not_moved q fq

  -- a cell that has an image at a place is free there, or was kept
  free_or_kept : (p q : Place) → HasCell h p → (from p.space ≡ true → get_or made.forward (flat_of h p) 0 ≢ 0) → moved_place from h to p ≡ q → cell_at after q ≡ image_of from h to (cell_at h p) →
      (cell_at after q ≡ free_cell) ⊎ ((a : Place) × IsKept kind h made.forward a × (moved_place from h to a ≡ q))
  free_or_kept p q held copied at words = by_tag (cases_eq (get_or (cell_at h p) 0 0) 0)
    where
      by_tag : (get_or (cell_at h p) 0 0 ≡ 0) ⊎ (get_or (cell_at h p) 0 0 ≢ 0) → (cell_at after q ≡ free_cell) ⊎ ((a : Place) × IsKept kind h made.forward a × (moved_place from h to a ≡ q))
      by_tag (inl none) =
          let free = free_from_tag h (cell_at h p) (cell_long h whole p held) (layout_at h whole [] graph.sound p held) none in
          inl (words ∙ ap (image_of from h to) free)
      by_tag (inr used) = inr (p, record { held = held; used = omega arith; copied = copied }, at)

  rest_after : (q : Place) → HasCell after q → (cell_at after q ≡ free_cell) ⊎ ((a : Place) × IsKept kind h made.forward a × (moved_place from h to a ≡ q))
  rest_after q holds = by_place (adopted_cases h made.aged made.old kind q some ((now.held q).0 holds))
    where
      found : IsPlace q → (c : ℕ) → c < length (cells_of h) → get_or made.forward c 0 ≡ link_to q → (cell_at after q ≡ free_cell) ⊎ ((a : Place) × IsKept kind h made.forward a × (moved_place from h to a ≡ q))
      found inside c low link =
          let high = word_at-above_zero no_rights q inside in
          let ne : get_or made.forward c 0 ≢ 0 = λ z. let none : link_to q ≡ 0 = sym link ∙ z in omega arith in
          let at : IsInFrom from h c = reached_in_from from h whole graph.sound payloads graph roots rooted.held c ((is.reached c low).0 ne) in
          let here : get_or made.forward (flat_of h at.place) 0 ≡ link_to q = ap (λ (n : ℕ). get_or made.forward n 0) at.at ∙ link in
          let some_word : get_or made.forward (flat_of h at.place) 0 ≢ 0 = λ z. let none : link_to q ≡ 0 = sym here ∙ z in omega arith in
          let goes_to : to (flat_of h at.place) ≡ q = ap place_in here ∙ place_in-word_at no_rights q inside in
          free_or_kept at.place q at.held (λ _. some_word) (moved_to at.place at.moves ∙ goes_to) (ap (cell_at after) (sym goes_to) ∙ place_cell at.place at.held some_word)

      by_search : IsNewPlace kind h made.aged made.old q → ((c : ℕ) × (c < length (cells_of h)) × (get_or made.forward c 0 ≡ link_to q)) ⊎ ((c : ℕ) → c < length (cells_of h) → get_or made.forward c 0 ≢ link_to q) →
          (cell_at after q ≡ free_cell) ⊎ ((a : Place) × IsKept kind h made.forward a × (moved_place from h to a ≡ q))
      by_search new (inl (c, low, link)) = found (held_place after now.whole q holds) c low link
      by_search new (inr none) = inl (new_cell q new ∙ is.rest q new none)

      by_place : (HasCell h q × (from q.space ≡ false)) ⊎ IsNewPlace kind h made.aged made.old q → (cell_at after q ≡ free_cell) ⊎ ((a : Place) × IsKept kind h made.forward a × (moved_place from h to a ≡ q))
      by_place (inl (held, stays)) =
          free_or_kept q q held (λ t. let no : true ≡ false = sym t ∙ stays in absurd cc) (not_moved q stays) (old_cell q held stays)
      by_place (inr new) = by_search new (found_below made.forward (link_to q) (length (cells_of h)))

  pub collection_moves : Moves from h after to (IsKept kind h made.forward)
  collection_moves = record {
    whole = whole;
    whole_after = now.whole;
    sound = graph.sound;
    held = λ p keep. keep.held;
    used = λ p keep. keep.used;
    closed = target_kept;
    stands = kept_stands;
    copied = kept_copied;
    apart = kept_apart;
    rest = rest_after;
  }

  -- ---- remembered cells

  pub remembered_after : AreRemembered after made.notes
  remembered_after = record { cells = cells; all = all }
    where
      cells : (p : Place) → Contains made.notes p → IsOldCell after p
      cells p has = by_made ((is.noted p).0 has).1
        where
          by_made : IsMadeInOld kind h roots made.forward made.aged made.old p ((is.noted p).0 has).0 → IsOldCell after p
          by_made (inl (new, at, _)) = record { held = (now.held p).1 new.held; space = at }
          by_made (inr (root, _)) = let stays = rooted.stay p root in record { held = old_held p stays.0.held stays.1; space = stays.0.space }

      all : (p : Place) → IsOldCell after p → NamesYoung (cell_at after p) → Contains made.notes p
      all p cell names = by_place (adopted_cases h made.aged made.old kind p some ((now.held p).0 cell.held))
        where
          by_words : HasCell h p → from p.space ≡ false → HasWordsAfter kind h roots made after p → Contains made.notes p
          by_words held stays (inl (root, same)) = (is.noted p).1 (cell_at after p, inr (root, same), names)
          by_words held stays (inr (apart, same)) =
              let words : cell_at after p ≡ cell_at h p = same ∙ stays_cell h made.aged made.old kind p held stays in
              let among : Contains (pointers_of (cell_at h p)) names.0 = subst (λ (ws : List ℕ). Contains (pointers_of ws) names.0) words names.1 in
              absurd (apart (rooted.all p held stays names.0 among (young_moves kind (place_in names.0).space names.2)))

          by_place : (HasCell h p × (from p.space ≡ false)) ⊎ IsNewPlace kind h made.aged made.old p → Contains made.notes p
          by_place (inl (held, stays)) = by_words held stays (now.words p cell.held)
          by_place (inr new) = (is.noted p).1 (cell_at after p, inl (new, cell.space, new_cell p new), names)

  pub needed_after : AreNeeded after made.notes
  needed_after p has = by_made given.1
    where
      given : (words : List ℕ) × IsMadeInOld kind h roots made.forward made.aged made.old p words × NamesYoung words
      given = (is.noted p).0 has

      by_words : Contains roots (Remembered p) → given.0 ≡ image_of from h to (cell_at h p) → HasWordsAfter kind h roots made after p → NamesYoung (cell_at after p)
      by_words root is_image (inl (_, same)) = subst NamesYoung (is_image ∙ sym same) given.2
      by_words root is_image (inr (apart, _)) = absurd (apart root)

      by_made : IsMadeInOld kind h roots made.forward made.aged made.old p given.0 → NamesYoung (cell_at after p)
      by_made (inl (new, at, words)) = subst NamesYoung (words ∙ sym (new_cell p new)) given.2
      by_made (inr (root, words)) = let stays = rooted.stay p root in by_words root words (now.words p (old_held p stays.0.held stays.1))
