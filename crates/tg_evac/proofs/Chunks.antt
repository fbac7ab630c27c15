-- The targets of a row, chunk by chunk, and that the cells among them are used ones of from-space.
use Rattle.std.proofs.Common.{◌≡◌, ◌≢◌, ℕ, zero, suc, ◌<◌, ◌+◌, ◌-◌, ◌⊎◌, ◌==◌, ◌++◌, Bool, true, false, not, cond, List, [], ◌∷◌, length, get_or, refl, sym, ap, subst, arith, ◌∙◌, inl, inr, ⊎_elim}
use Rattle.std.specs.List.{All, Contains, flat_map, take_while}
use Rattle.std.proofs.lemmas.List.{append-nil, append_assoc}
use Rattle.std.proofs.lemmas.List.Elements.{All-nil, All-cons, All-append, All-weaker, All-head, All-tail, All-contains_itself, Contains-append_left, Contains-append_right}
use Rattle.std.proofs.lemmas.List.Sums.{take_while-cons}
use Rattle.std.proofs.lemmas.Bool.Decides.{eqb_tells, nat_tests}
use Rattle.tg_word.specs.declared.Place.{Place}
use Rattle.tg_word.specs.Word.{place_in}
use Rattle.tg_space.specs.Rows.{chunks_from, link_at}
use Rattle.tg_space.specs.Soundness.{IsPointer, IsRootIn}
use Rattle.tg_space.specs.SpaceList.{SpaceList, IsSpaceList, HasCell, cell_at, flat_of, cells_of}
use Rattle.tg_space.specs.Targets.{from_space, pointers_of, target_in, named_by, cells_followed, targets_at, targets_of, root_targets_of}
use Rattle.tg_space.specs.declared.kind.Kind.{Kind}
use Rattle.tg_space.specs.declared.root.Root.{Root}
use Rattle.tg_space.specs.declared.root.Root.TheVariants.{Row, Remembered}
use Rattle.tg_space.proofs.Flat.{get_or-flat_of}
use Rattle.tg_space.proofs.Pointing.{used_chunk, used_object}
use Rattle.tg_evac.specs.Claims.{HavePointers, chunk_targets}
use Rattle.tg_evac.proofs.Counting.{IsUsed}

-- a test, and what it says
pub tells : (b : Bool) → (b ≡ true) ⊎ (b ≡ false)
tells true = inl refl
tells false = inr refl

-- ---- words

module _ (from : ℕ → Bool) (h : SpaceList) (word : ℕ) where
  pub target_none : word ≡ 0 → target_in from h word ≡ []
  target_none is = rw is refl

  pub target_kept : from (place_in word).space ≡ false → target_in from h word ≡ []
  target_kept kept = by_test (word == 0)
    where
      by_test : (b : Bool) → cond b [] (cond (from (place_in word).space) (flat_of h (place_in word) ∷ []) []) ≡ []
      by_test true = refl
      by_test false = rw kept refl

  pub target_moved : word ≢ 0 → from (place_in word).space ≡ true → target_in from h word ≡ flat_of h (place_in word) ∷ []
  target_moved some moved = ⊎_elim
      (λ (z : (word == 0 ≡ true) × (word ≡ 0)). absurd (some z.1))
      (λ (n : (word == 0 ≡ false) × (word ≢ 0)). rw (n.0, moved) refl)
      (eqb_tells word 0)

-- ---- chunks

module _ (from : ℕ → Bool) (h : SpaceList) where
  pub chunks_none : (most link : ℕ) → link ≡ 0 → chunk_targets from h most link ≡ []
  chunks_none zero link none = refl
  chunks_none (suc most) link none = rw none refl

  stop : (p : Place) (rest : List Place) → from p.space ≡ true → flat_map (targets_at from h) (take_while (λ (q : Place). not (from q.space)) (p ∷ rest)) ≡ []
  stop p rest moved = rw (take_while-cons (λ (q : Place). not (from q.space)) p rest, moved) refl

  step : (p : Place) (rest : List Place) → from p.space ≡ false → flat_map (targets_at from h) (take_while (λ (q : Place). not (from q.space)) (p ∷ rest)) ≡ targets_at from h p ++ flat_map (targets_at from h) (take_while (λ (q : Place). not (from q.space)) rest)
  step p rest kept = rw (take_while-cons (λ (q : Place). not (from q.space)) p rest, kept) refl

  pub chunks_moved : (most link : ℕ) → from (place_in link).space ≡ true → chunk_targets from h most link ≡ []
  chunks_moved zero link moved = refl
  chunks_moved (suc most) link moved = by_test (link == 0)
    where
      by_test : (b : Bool) → flat_map (targets_at from h) (take_while (λ (q : Place). not (from q.space)) (cond b [] (place_in link ∷ chunks_from h most (link_at h (place_in link))))) ≡ []
      by_test true = refl
      by_test false = stop (place_in link) (chunks_from h most (link_at h (place_in link))) moved

  pub chunks_more : (most link : ℕ) → link ≢ 0 → from (place_in link).space ≡ false → chunk_targets from h (suc most) link ≡ targets_at from h (place_in link) ++ chunk_targets from h most (link_at h (place_in link))
  chunks_more most link some kept =
      let present : (link == 0) ≡ false = grind (arith, nat_tests) in
      rw present (step (place_in link) (chunks_from h most (link_at h (place_in link))) kept)

  pub row_moved : (p : Place) → from p.space ≡ true → root_targets_of from h (Row p) ≡ flat_of h p ∷ []
  row_moved p moved = rw moved refl

  pub row_kept : (p : Place) → from p.space ≡ false → root_targets_of from h (Row p) ≡ targets_at from h p ++ chunk_targets from h (length (cells_of h)) (link_at h p)
  row_kept p kept = by_test (from p.space) kept
    where
      by_test : (b : Bool) → b ≡ false → cond b (flat_of h p ∷ []) (flat_map (targets_at from h) (cells_followed from h p)) ≡ targets_at from h p ++ chunk_targets from h (length (cells_of h)) (link_at h p)
      by_test true isnt = absurd cc
      by_test false isnt = step p (chunks_from h (length (cells_of h)) (link_at h p)) kept

  -- the chunks of a link that were passed: their targets are these, and each is in a list
  pub record ChunksPassed (count first passed link : ℕ) (won : List ℕ) : Type 0 where
    pub done : List ℕ
    pub is : chunk_targets from h count first ≡ done ++ chunk_targets from h (count - passed) link
    pub held : All (Contains won) done

  pub none_passed : (count first : ℕ) (won : List ℕ) → ChunksPassed count first 0 first won
  none_passed count first won = record { done = []; is = ap (λ (n : ℕ). chunk_targets from h n first) (omega arith); held = All-nil (Contains won) }

  -- where the rest has no target, all are held
  pub all_passed : {count first passed link : ℕ} {won : List ℕ} → ChunksPassed count first passed link won → chunk_targets from h (count - passed) link ≡ [] → All (Contains won) (chunk_targets from h count first)
  all_passed {won = won} before none =
      subst (λ (ts : List ℕ). All (Contains won) ts) (sym (before.is ∙ ap (λ (ts : List ℕ). before.done ++ ts) none ∙ append-nil before.done)) before.held

  module _ {count first passed link : ℕ} {won : List ℕ} (before : ChunksPassed count first passed link won) (more : passed < count) (some : link ≢ 0) (kept : from (place_in link).space ≡ false) where
    split : chunk_targets from h count first ≡ before.done ++ (targets_at from h (place_in link) ++ chunk_targets from h (count - (passed + 1)) (link_at h (place_in link)))
    split =
        let next : count - passed ≡ suc (count - (passed + 1)) = omega arith in
        before.is ∙ ap (λ (ts : List ℕ). before.done ++ ts) (ap (λ (n : ℕ). chunk_targets from h n link) next ∙ chunks_more (count - (passed + 1)) link some kept)

    pub chunk_inside : All (Contains (chunk_targets from h count first)) (targets_at from h (place_in link))
    chunk_inside =
        All-weaker (Contains (targets_at from h (place_in link))) (Contains (chunk_targets from h count first))
        (λ x c. subst (λ (ts : List ℕ). Contains ts x) (sym split)
        (Contains-append_right before.done (targets_at from h (place_in link) ++ chunk_targets from h (count - (passed + 1)) (link_at h (place_in link))) x
        (Contains-append_left (targets_at from h (place_in link)) (chunk_targets from h (count - (passed + 1)) (link_at h (place_in link))) x c)))
        (targets_at from h (place_in link)) (All-contains_itself (targets_at from h (place_in link)))

    pub one_passed : (now : List ℕ) → All (Contains now) before.done → All (Contains now) (targets_at from h (place_in link)) → ChunksPassed count first (passed + 1) (link_at h (place_in link)) now
    one_passed now old new = record {
      done = before.done ++ targets_at from h (place_in link);
      is = split ∙ sym (append_assoc before.done (targets_at from h (place_in link)) (chunk_targets from h (count - (passed + 1)) (link_at h (place_in link))));
      held = All-append (Contains now) before.done (targets_at from h (place_in link)) old new;
    }

-- ---- used cells

module _ (kind : Kind) (h : SpaceList) (is : IsSpaceList h) (pointers : HavePointers h) where
  used_named : (words : List ℕ) → All (IsPointer h) words → All (IsUsed kind h) (named_by (from_space kind) h words)
  used_named [] are = All-nil (IsUsed kind h)
  used_named (w ∷ words) are =
      All-append (IsUsed kind h) (target_in (from_space kind) h w) (named_by (from_space kind) h words)
      (one (All-head (IsPointer h) w words are) (tells (from_space kind (place_in w).space)))
      (used_named words (All-tail (IsPointer h) w words are))
    where
      one : IsPointer h w → (from_space kind (place_in w).space ≡ true) ⊎ (from_space kind (place_in w).space ≡ false) → All (IsUsed kind h) (target_in (from_space kind) h w)
      one pointer (inr kept) = rw (target_kept (from_space kind) h w kept) (All-nil (IsUsed kind h))
      one (inl none) (inl moved) = rw (target_none (from_space kind) h w none) (All-nil (IsUsed kind h))
      one (inr names) (inl moved) =
          let used : IsUsed kind h (flat_of h (place_in w)) = record { place = place_in w; held = names.held; moved = moved; at = refl; used = names.used } in
          ⊎_elim (λ (z : (w == 0 ≡ true) × (w ≡ 0)). rw (target_none (from_space kind) h w z.1) (All-nil (IsUsed kind h)))
          (λ (n : (w == 0 ≡ false) × (w ≢ 0)). rw (target_moved (from_space kind) h w n.1 moved) (All-cons (IsUsed kind h) (flat_of h (place_in w)) [] used (All-nil (IsUsed kind h))))
          (eqb_tells w 0)

  pub used_targets : (p : Place) → HasCell h p → All (IsUsed kind h) (targets_at (from_space kind) h p)
  used_targets p held = used_named (pointers_of (cell_at h p)) (pointers.words p held)

  used_chunks : (most link : ℕ) → IsPointer h link → All (IsUsed kind h) (chunk_targets (from_space kind) h most link)
  used_chunks zero link pointer = All-nil (IsUsed kind h)
  used_chunks (suc most) link (inl none) = rw (chunks_none (from_space kind) h (suc most) link none) (All-nil (IsUsed kind h))
  used_chunks (suc most) link (inr names) =
      by_tests (used_chunks most (link_at h (place_in link)) (pointers.links (place_in link) names.held)) (eqb_tells link 0) (tells (from_space kind (place_in link).space))
    where
      by_tests : All (IsUsed kind h) (chunk_targets (from_space kind) h most (link_at h (place_in link))) → ((link == 0 ≡ true) × (link ≡ 0)) ⊎ ((link == 0 ≡ false) × (link ≢ 0)) → (from_space kind (place_in link).space ≡ true) ⊎ (from_space kind (place_in link).space ≡ false) → All (IsUsed kind h) (chunk_targets (from_space kind) h (suc most) link)
      by_tests later (inl z) _ = rw (chunks_none (from_space kind) h (suc most) link z.1) (All-nil (IsUsed kind h))
      by_tests later (inr n) (inl moved) = rw (chunks_moved (from_space kind) h (suc most) link moved) (All-nil (IsUsed kind h))
      by_tests later (inr n) (inr kept) =
          rw (chunks_more (from_space kind) h most link n.1 kept)
          (All-append (IsUsed kind h) (targets_at (from_space kind) h (place_in link)) (chunk_targets (from_space kind) h most (link_at h (place_in link)))
          (used_targets (place_in link) names.held) later)

  used_row : (p : Place) → HasCell h p → 0 < get_or (cell_at h p) 0 0 → All (IsUsed kind h) (root_targets_of (from_space kind) h (Row p))
  used_row p held some = ⊎_elim
      (λ (moved : from_space kind p.space ≡ true).
      let used : IsUsed kind h (flat_of h p) = record { place = p; held = held; moved = moved; at = refl; used = some } in
      rw (row_moved (from_space kind) h p moved) (All-cons (IsUsed kind h) (flat_of h p) [] used (All-nil (IsUsed kind h))))
      (λ (kept : from_space kind p.space ≡ false).
      rw (row_kept (from_space kind) h p kept)
      (All-append (IsUsed kind h) (targets_at (from_space kind) h p) (chunk_targets (from_space kind) h (length (cells_of h)) (link_at h p))
      (used_targets p held) (used_chunks (length (cells_of h)) (link_at h p) (pointers.links p held))))
      (tells (from_space kind p.space))

  pub used_root : (root : Root) → IsRootIn h root → All (IsUsed kind h) (root_targets_of (from_space kind) h root)
  used_root (Row p) (inl object) = used_row p object.held (used_object (cell_at h p) object.is)
  used_root (Row p) (inr chunk) = used_row p chunk.held (used_chunk (cell_at h p) chunk.is)
  used_root (Remembered p) old = used_targets p old.held

-- the targets of a cell, by its place and by its number
pub targets_from : (from : ℕ → Bool) (h : SpaceList) → IsSpaceList h → (p : Place) → HasCell h p → (c : ℕ) → flat_of h p ≡ c → targets_at from h p ≡ targets_of from h c
targets_from from h is p held c at =
    ap (λ (words : List ℕ). named_by from h (pointers_of words)) (sym (get_or-flat_of h is.spaces p held)) ∙ ap (targets_of from h) at
