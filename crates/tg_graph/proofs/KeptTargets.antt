-- What a collection of either kind traces: targets in from-space, and what the roots reach.
use Rattle.std.proofs.Common.{◌≡◌, ◌≢◌, ℕ, ◌⊎◌, ◌==◌, Bool, cond, true, false, List, [], ◌∷◌, length, take, drop, ◌++◌, not, sym, ap, subst, inl, inr, ⊎_elim}
use Rattle.std.specs.List.{All, Contains, flat_map, prefix_len}
use Rattle.std.proofs.lemmas.Bool.{cases_Bool}
use Rattle.std.proofs.lemmas.Bool.Decides.{eqb_tells}
use Rattle.std.proofs.lemmas.List.{take-append-drop}
use Rattle.std.proofs.lemmas.List.Elements.{All-contains, Contains-append_left}
use Rattle.tg_model.specs.Walks.{Walk-within}
use Rattle.tg_word.specs.declared.Place.{Place}
use Rattle.tg_word.specs.Word.{place_in}
use Rattle.tg_block.specs.declared.CellKind.TheVariants.{Object}
use Rattle.tg_space.specs.SpaceList.{SpaceList, IsSpaceList, HasCell, cell_at, cells_of, flat_of}
use Rattle.tg_space.specs.Closure.{IsInClosure}
use Rattle.tg_space.specs.Rows.{chunks_from, link_at, row_of}
use Rattle.tg_space.specs.Targets.{target_in, named_by, targets_of, targets_at, cells_followed, root_targets_of, all_root_targets, pointers_of}
use Rattle.tg_space.specs.Soundness.{AreSound, IsKindAt, IsOldCell, IsPointer, IsRootIn, NamesCell}
use Rattle.tg_space.specs.declared.root.Root.{Root}
use Rattle.tg_space.specs.declared.root.Root.TheVariants.{Row, Remembered}
use Rattle.tg_space.proofs.Flat.{get_or-flat_of}
use Rattle.tg_space.proofs.Pointing.{pointers_from_layout}
use Rattle.tg_payload.specs.Table.{Payloads}
use Rattle.tg_rows.specs.Graph.{IsGraph}
use Rattle.tg_rows.proofs.Members.{Contains-cases, Contains-here, Contains-none, Contains-flat_map, Contains-from_flat_map}
use Rattle.tg_rows.proofs.Places.{cell_long, layout_at}
use Rattle.tg_rows.proofs.Chains.{row_held}

-- a root represents the whole row of an object, or for a remembered cell of Old
abbrev pub IsWholeRoot : SpaceList → Root → Type 0
IsWholeRoot h (Row p) = IsKindAt h Object p
IsWholeRoot h (Remembered p) = IsOldCell h p

pub whole_is_root : (h : SpaceList) (root : Root) → IsWholeRoot h root → IsRootIn h root
whole_is_root h (Row p) object = inl object
whole_is_root h (Remembered p) old = old

module _ (from : ℕ → Bool) (h : SpaceList) where
  -- one of these words names the cell of from-space with a number
  pub record NamesNumber (words : List ℕ) (number : ℕ) : Type 0 where
    pub word : ℕ
    pub among : Contains words word
    pub some : word ≢ 0
    pub moves : from (place_in word).space ≡ true
    pub at : flat_of h (place_in word) ≡ number

  pub word_of_target : (words : List ℕ) (number : ℕ) → Contains (named_by from h words) number → NamesNumber words number
  word_of_target words number has = by_test (eqb_tells piece.0 0) (cases_Bool (from (place_in piece.0).space))
    where
      piece : (word : ℕ) × Contains words word × Contains (target_in from h word) number
      piece = Contains-from_flat_map (target_in from h) words number has

      by_test : ((piece.0 == 0 ≡ true) × (piece.0 ≡ 0)) ⊎ ((piece.0 == 0 ≡ false) × (piece.0 ≢ 0)) → (from (place_in piece.0).space ≡ true) ⊎ (from (place_in piece.0).space ≡ false) → NamesNumber words number
      by_test (inl z) _ = absurd (Contains-none number (rw z.0 at piece.2))
      by_test (inr n) (inr f) = absurd (Contains-none number (rw (n.0, f) at piece.2))
      by_test (inr n) (inl t) =
          let one : Contains (flat_of h (place_in piece.0) ∷ []) number = rw (n.0, t) at piece.2 in
          record { word = piece.0; among = piece.1; some = n.1; moves = t; at = ⊎_elim (λ e. e) (λ none. absurd (Contains-none number none)) (Contains-cases (flat_of h (place_in piece.0)) [] number one) }

  pub target_of_word : (words : List ℕ) (word : ℕ) → Contains words word → word ≢ 0 → from (place_in word).space ≡ true → Contains (named_by from h words) (flat_of h (place_in word))
  target_of_word words word among some t =
      let n : (word == 0) ≡ false = ⊎_elim (λ z. absurd (some z.1)) (λ n. n.0) (eqb_tells word 0) in
      let here : Contains (target_in from h word) (flat_of h (place_in word)) = rw (n, t) (Contains-here (flat_of h (place_in word)) []) in
      Contains-flat_map (target_in from h) words word (flat_of h (place_in word)) among here

  -- a held cell of from-space
  pub record IsInFrom (number : ℕ) : Type 0 where
    pub place : Place
    pub held : HasCell h place
    pub moves : from place.space ≡ true
    pub at : flat_of h place ≡ number

  module _ (whole : IsSpaceList h) (sound : AreSound h []) where
    -- what a pointer of a held cell names
    pub target_held : (p : Place) → HasCell h p → (word : ℕ) → Contains (pointers_of (cell_at h p)) word → word ≢ 0 → NamesCell h word
    target_held p held word among some =
        let all : All (IsPointer h) (pointers_of (cell_at h p)) = pointers_from_layout h (cell_at h p) (cell_long h whole p held) (layout_at h whole [] sound p held) in
        ⊎_elim (λ z. absurd (some z)) (λ names. names) (All-contains (IsPointer h) (pointers_of (cell_at h p)) word all among)

    -- the targets of the cell at a place
    numbered_targets : (p : Place) → HasCell h p → targets_of from h (flat_of h p) ≡ targets_at from h p
    numbered_targets p held = ap (λ (words : List ℕ). named_by from h (pointers_of words)) (get_or-flat_of h whole.spaces p held)

    pub next_target : (p : Place) → HasCell h p → (word : ℕ) → Contains (pointers_of (cell_at h p)) word → word ≢ 0 → from (place_in word).space ≡ true → Contains (targets_of from h (flat_of h p)) (flat_of h (place_in word))
    next_target p held word among some moves =
        subst (λ (numbers : List ℕ). Contains numbers (flat_of h (place_in word))) (sym (numbered_targets p held)) (target_of_word (pointers_of (cell_at h p)) word among some moves)

    pub next_of : (p : Place) → HasCell h p → (number : ℕ) → Contains (targets_of from h (flat_of h p)) number → NamesNumber (pointers_of (cell_at h p)) number
    next_of p held number has =
        word_of_target (pointers_of (cell_at h p)) number (subst (λ (numbers : List ℕ). Contains numbers number) (numbered_targets p held) has)

    -- a target of a held cell is in from-space
    from_target : (p : Place) → HasCell h p → (number : ℕ) → Contains (targets_at from h p) number → IsInFrom number
    from_target p held number has =
        let named = word_of_target (pointers_of (cell_at h p)) number has in
        let names = target_held p held named.word named.among named.some in
        record { place = place_in named.word; held = names.held; moves = named.moves; at = named.at }

    module _ (payloads : Payloads) (graph : IsGraph h payloads) where
      -- the cells of a row that are met are held
      met_held : (p q : Place) → IsKindAt h Object p → Contains (cells_followed from h p) q → HasCell h q
      met_held p q object has =
          let row = row_held h p (chunks_from h (length (cells_of h)) (link_at h p)) object (graph.ends p object) in
          let n = prefix_len (λ (r : Place). not (from r.space)) (row_of h p) in
          let in_row : Contains (take n (row_of h p) ++ drop n (row_of h p)) q = Contains-append_left (take n (row_of h p)) (drop n (row_of h p)) q has in
          All-contains (HasCell h) (row_of h p) q row (subst (λ (ps : List Place). Contains ps q) (take-append-drop n (row_of h p)) in_row)

      root_in_from : (root : Root) → IsWholeRoot h root → (number : ℕ) → Contains (root_targets_of from h root) number → IsInFrom number
      root_in_from (Remembered p) old number has = from_target p old.held number has
      root_in_from (Row p) object number has = by_space (cases_Bool (from p.space))
        where
          by_space : (from p.space ≡ true) ⊎ (from p.space ≡ false) → IsInFrom number
          by_space (inl t) =
              let one : Contains (flat_of h p ∷ []) number = rw t at has in
              record { place = p; held = object.held; moves = t; at = ⊎_elim (λ e. e) (λ none. absurd (Contains-none number none)) (Contains-cases (flat_of h p) [] number one) }
          by_space (inr f) =
              let met : Contains (flat_map (targets_at from h) (cells_followed from h p)) number = subst (λ (b : Bool). Contains (cond b (flat_of h p ∷ []) (flat_map (targets_at from h) (cells_followed from h p))) number) f has in
              let piece = Contains-from_flat_map (targets_at from h) (cells_followed from h p) number met in
              from_target piece.0 (met_held p piece.0 object piece.1) number piece.2

      -- what the roots reach is in from-space
      pub reached_in_from : (roots : List Root) → All (IsWholeRoot h) roots → (number : ℕ) → IsInClosure (all_root_targets from h roots) (targets_of from h) number → IsInFrom number
      reached_in_from roots are = Walk-within IsInFrom first next
        where
          first : (number : ℕ) → Contains (all_root_targets from h roots) number → IsInFrom number
          first number has =
              let piece = Contains-from_flat_map (root_targets_of from h) roots number has in
              root_in_from piece.0 (All-contains (IsWholeRoot h) roots piece.0 are piece.1) number piece.2

          next : (number target : ℕ) → IsInFrom number → Contains (targets_of from h number) target → IsInFrom target
          next number target is has =
              let named = next_of is.place is.held target (subst (λ (n : ℕ). Contains (targets_of from h n) target) (sym is.at) has) in
              let names = target_held is.place is.held named.word named.among named.some in
              record { place = place_in named.word; held = names.held; moves = named.moves; at = named.at }
