-- Claims of the targets of roots, and of won cells, piece by piece.
use Rattle.std.proofs.Common.{◌≡◌, ℕ, ◌≢◌, ◌<◌, ◌≤◌, ◌+◌, ◌++◌, ◌∷◌, ◌==◌, Bool, true, false, List, [], length, get_or, map, take, drop, refl, sym, ap, subst, arith, inl, inr, ◌∙◌, ⊎_elim, Result, Ok, Err}
use Rattle.std.specs.List.{All, Contains}
use Rattle.std.specs.Result.{OnOk}
use Rattle.std.proofs.lemmas.Bool.{cases_eq}
use Rattle.std.proofs.lemmas.Bool.Decides.{eqb_tells}
use Rattle.std.proofs.lemmas.List.{get_or-map, get_or_append_left, length-append, length-map, length_push, map-append, take-append-drop, take-append-le, take_more}
use Rattle.std.proofs.lemmas.List.Elements.{All-append, All-weaker, All-contains_itself, Contains-append_left, Contains-append_right, filter-append}
use Rattle.tg_word.specs.declared.Place.{Place}
use Rattle.tg_word.specs.Word.{place_in}
use Rattle.tg_space.specs.Closure.{IsClosed}
use Rattle.tg_space.specs.Rows.{link_at}
use Rattle.tg_space.specs.SpaceList.{SpaceList, cells_of}
use Rattle.tg_space.specs.Targets.{cell_numbered, from_space, image_of, named_by, pointers_of, targets_at, targets_of, root_targets_of, all_root_targets}
use Rattle.tg_space.specs.declared.kind.Kind.{Kind}
use Rattle.tg_space.specs.declared.root.Root.{Root}
use Rattle.tg_space.specs.declared.root.Root.TheVariants.{Row}
use Rattle.tg_evac.specs.Win.{Win}
use Rattle.tg_evac.specs.Claims.{AreTraced, Claimed, IsClaimOf, cells_won, chunk_targets, is_in, is_in_old, is_straight, win_at, won_in}
use Rattle.tg_evac.specs.Claimers.{AddsCopy, AddsWins, AreScanned, KeepsWins, KnowsMore, Walked, copies_to, image_at, walked_of}
use Rattle.tg_evac.proofs.Claiming.{in_other, in_push}
use Rattle.tg_evac.proofs.Chunks.{ChunksPassed, chunk_inside, one_passed, row_kept}
use Rattle.tg_evac.proofs.Reasons.{traced_more}
use Rattle.tg_evac.proofs.Walking.{met_piece, still_met, wider, wins_then, wins_weaker}

-- the targets of a root
module _ (h : SpaceList) (root : Root) {Fixed : Type 0} {a b : Walked Fixed} (adds : AddsWins (IsClaimOf h (is_straight a.kind root) (root_targets_of (from_space a.kind) h root)) a b) where
  pub keeps_root : KeepsWins a b
  keeps_root = wins_weaker adds (λ w claim. tt)

  pub traced_root : (all : List Root) → Contains all root → AreTraced a.kind h all a.won → AreTraced a.kind h all b.won
  traced_root all held traced = traced_more a.kind h all adds (λ w claim. inl (record { root = root; is = held; claim = claim })) traced

pub ok_always : {A E : Type 0} (r : Result A E) {P : Type 0} → P → OnOk r P
ok_always (Ok x) p = p
ok_always (Err e) p = tt

-- the roots, one after the other
module _ (h : SpaceList) (roots : List Root) (i : ℕ) (d : Root) (inside : i < length roots) {reason : Win → Type 0} {other : Win → Type 0} {Fixed : Type 0} {a b c : Walked Fixed} (one : AddsWins reason a b) (two : AddsWins other b c) where
  pub met_root : All (Contains b.met) (all_root_targets (from_space a.kind) h (take i roots)) → All (Contains c.met) (root_targets_of (from_space b.kind) h (get_or roots i d)) → All (Contains c.met) (all_root_targets (from_space a.kind) h (take (i + 1) roots))
  met_root before here =
      met_piece (root_targets_of (from_space a.kind) h) roots i d inside b.met c.met two.still before
      (subst (λ (k : Kind). All (Contains c.met) (root_targets_of (from_space k) h (get_or roots i d))) one.same_kind here)

-- the targets of one more chunk
module _ (h : SpaceList) (straight : Bool) (count first passed link : ℕ) (chunk : Place) (is : chunk ≡ place_in link) {Fixed : Type 0} {a b c : Walked Fixed}
    (one : AddsWins (IsClaimOf h straight (chunk_targets (from_space a.kind) h count first)) a b)
    (two : AddsWins (IsClaimOf h straight (targets_at (from_space b.kind) h chunk)) b c)
    (before : ChunksPassed (from_space a.kind) h count first passed link b.met) (more : passed < count) (some : link ≢ 0) (kept : from_space a.kind (place_in link).space ≡ false) where
  chunk_is : AddsWins (IsClaimOf h straight (targets_at (from_space a.kind) h (place_in link))) b c
  chunk_is =
      subst (λ (p : Place). AddsWins (IsClaimOf h straight (targets_at (from_space a.kind) h p)) b c) is
      (subst (λ (k : Kind). AddsWins (IsClaimOf h straight (targets_at (from_space k) h chunk)) b c) one.same_kind two)

  pub wins_chunk : AddsWins (IsClaimOf h straight (chunk_targets (from_space a.kind) h count first)) a c
  wins_chunk =
      wins_then one (wins_weaker chunk_is (wider (targets_at (from_space a.kind) h (place_in link)) (chunk_targets (from_space a.kind) h count first) (chunk_inside (from_space a.kind) h before more some kept)))

  pub met_chunk : All (Contains c.met) (targets_at (from_space b.kind) h chunk) → ChunksPassed (from_space a.kind) h count first (passed + 1) (link_at h (place_in link)) c.met
  met_chunk here =
      one_passed (from_space a.kind) h before more some kept c.met (still_met chunk_is before.done before.held)
      (subst (λ (p : Place). All (Contains c.met) (targets_at (from_space a.kind) h p)) is
      (subst (λ (k : Kind). All (Contains c.met) (targets_at (from_space k) h chunk)) one.same_kind here))

-- the targets of a row whose object stays
module _ (h : SpaceList) (straight : Bool) (object : Place) {Fixed : Type 0} {a b : Walked Fixed} (kept : from_space a.kind object.space ≡ false)
    (one : AddsWins (IsClaimOf h straight (targets_at (from_space a.kind) h object)) a b) where
  pub row_first : AddsWins (IsClaimOf h straight (root_targets_of (from_space a.kind) h (Row object))) a b
  row_first = wins_weaker one (wider (targets_at (from_space a.kind) h object) (root_targets_of (from_space a.kind) h (Row object))
      (subst (λ (ts : List ℕ). All (Contains ts) (targets_at (from_space a.kind) h object)) (sym (row_kept (from_space a.kind) h object kept))
      (All-weaker (Contains (targets_at (from_space a.kind) h object)) (Contains (targets_at (from_space a.kind) h object ++ chunk_targets (from_space a.kind) h (length (cells_of h)) (link_at h object)))
      (λ x held. Contains-append_left (targets_at (from_space a.kind) h object) (chunk_targets (from_space a.kind) h (length (cells_of h)) (link_at h object)) x held)
      (targets_at (from_space a.kind) h object) (All-contains_itself (targets_at (from_space a.kind) h object)))))

  module _ {c : Walked Fixed} (two : AddsWins (IsClaimOf h straight (chunk_targets (from_space b.kind) h (length (cells_of h)) (link_at h object))) b c) where
    chunks_is : AddsWins (IsClaimOf h straight (chunk_targets (from_space a.kind) h (length (cells_of h)) (link_at h object))) b c
    chunks_is = subst (λ (k : Kind). AddsWins (IsClaimOf h straight (chunk_targets (from_space k) h (length (cells_of h)) (link_at h object))) b c) one.same_kind two

    pub row_both : AddsWins (IsClaimOf h straight (root_targets_of (from_space a.kind) h (Row object))) a c
    row_both = wins_then row_first (wins_weaker chunks_is (wider (chunk_targets (from_space a.kind) h (length (cells_of h)) (link_at h object)) (root_targets_of (from_space a.kind) h (Row object))
        (subst (λ (ts : List ℕ). All (Contains ts) (chunk_targets (from_space a.kind) h (length (cells_of h)) (link_at h object))) (sym (row_kept (from_space a.kind) h object kept))
        (All-weaker (Contains (chunk_targets (from_space a.kind) h (length (cells_of h)) (link_at h object))) (Contains (targets_at (from_space a.kind) h object ++ chunk_targets (from_space a.kind) h (length (cells_of h)) (link_at h object)))
        (λ x held. Contains-append_right (targets_at (from_space a.kind) h object) (chunk_targets (from_space a.kind) h (length (cells_of h)) (link_at h object)) x held)
        (chunk_targets (from_space a.kind) h (length (cells_of h)) (link_at h object)) (All-contains_itself (chunk_targets (from_space a.kind) h (length (cells_of h)) (link_at h object)))))))

    pub row_met : All (Contains b.met) (targets_at (from_space a.kind) h object) → All (Contains c.met) (chunk_targets (from_space b.kind) h (length (cells_of h)) (link_at h object)) → All (Contains c.met) (root_targets_of (from_space a.kind) h (Row object))
    row_met first rest =
        subst (λ (ts : List ℕ). All (Contains c.met) ts) (sym (row_kept (from_space a.kind) h object kept))
        (All-append (Contains c.met) (targets_at (from_space a.kind) h object) (chunk_targets (from_space a.kind) h (length (cells_of h)) (link_at h object))
        (still_met chunks_is (targets_at (from_space a.kind) h object) first)
        (subst (λ (k : Kind). All (Contains c.met) (chunk_targets (from_space k) h (length (cells_of h)) (link_at h object))) one.same_kind rest))

-- ---- scanned cells

copies_push : (space : ℕ) (kind : Kind) (h : SpaceList) (to : ℕ → Place) (won : List Win) (w : Win) → (place_in w.word).space ≡ space → copies_to space kind h to (won ++ w ∷ []) ≡ copies_to space kind h to won ++ image_at kind h to w.cell ∷ []
copies_push space kind h to won w here =
    let f = λ (v : Win). image_at kind h to v.cell in
    ap (map f) (in_push space won w here) ∙ map-append f (won_in space won) (w ∷ [])

copies_other : (space : ℕ) (kind : Kind) (h : SpaceList) (to : ℕ → Place) (won : List Win) (w : Win) → (place_in w.word).space ≢ space → copies_to space kind h to (won ++ w ∷ []) ≡ copies_to space kind h to won
copies_other space kind h to won w other = ap (map (λ (v : Win). image_at kind h to v.cell)) (in_other space won w other)

-- what was scanned stays so
module _ {h : SpaceList} {reason : Win → Type 0} {Fixed : Type 0} {b c : Walked Fixed} {before after : (ℕ → Place) → Type 0} {n : ℕ} {aged old : List (List ℕ)}
    (so : AreScanned h b before n aged old) (adds : AddsWins reason b c) (grows : KnowsMore before after) where
  same_win : (k : ℕ) → k < n → win_at c.won k ≡ win_at b.won k
  same_win k low = let within = so.within in ap (λ (ws : List Win). win_at ws k) adds.is ∙ get_or_append_left b.won adds.added (win_at [] 0) k (omega arith)

  same_first : take n c.won ≡ take n b.won
  same_first = ap (take n) adds.is ∙ take-append-le n b.won adds.added so.within

  copies_same : (space : ℕ) (to : ℕ → Place) → copies_to space b.kind h to (take n b.won) ≡ copies_to space c.kind h to (take n c.won)
  copies_same space to =
      ap (λ (k : Kind). copies_to space k h to (take n b.won)) (sym adds.same_kind) ∙ ap (copies_to space c.kind h to) (sym same_first)

  pub scanned_more : AreScanned h c after n aged old
  scanned_more = record {
    within = let within = so.within in let long = ap length adds.is ∙ length-append b.won adds.added in omega arith;
    met = λ k low.
        subst (λ (w : Win). All (Contains c.met) (targets_of (from_space c.kind) h w.cell)) (sym (same_win k low))
        (subst (λ (kind : Kind). All (Contains c.met) (targets_of (from_space kind) h (win_at b.won k).cell)) (sym adds.same_kind)
        (still_met adds (targets_of (from_space b.kind) h (win_at b.won k).cell) (so.met k low)));
    aged_long = so.aged_long ∙ ap (λ (ws : List Win). length (won_in 1 ws)) (sym same_first);
    old_long = so.old_long ∙ ap (λ (ws : List Win). length (won_in 0 ws)) (sym same_first);
    in_aged = λ to agrees. so.in_aged to (grows to agrees) ∙ copies_same 1 to;
    in_old = λ to agrees. so.in_old to (grows to agrees) ∙ copies_same 0 to;
  }

-- one more cell was scanned
module _ {h : SpaceList} {Fixed : Type 0} {b : Walked Fixed} {knows : (ℕ → Place) → Type 0} {n : ℕ} {aged old : List (List ℕ)} (so : AreScanned h b knows n aged old)
    (low : n < length b.won) (w : Win) (is : w ≡ win_at b.won n) (met : All (Contains b.met) (targets_of (from_space b.kind) h w.cell))
    (words : List ℕ) (image : (to : ℕ → Place) → knows to → words ≡ image_at b.kind h to w.cell) where
  more : take (n + 1) b.won ≡ take n b.won ++ w ∷ []
  more = take_more b.won n (win_at [] 0) low ∙ ap (λ (v : Win). take n b.won ++ v ∷ []) (sym is)

  module _ (space : ℕ) (before after : List (List ℕ)) where
    pub copied_long : length before ≡ length (won_in space (take n b.won)) → ((place_in w.word).space ≡ space → after ≡ before ++ words ∷ []) → ((place_in w.word).space ≢ space → after ≡ before) →
        length after ≡ length (won_in space (take (n + 1) b.won))
    copied_long was new left = ⊎_elim
        (λ (here : (place_in w.word).space ≡ space).
        ap length (new here) ∙ length_push before words ∙ ap (λ (m : ℕ). m + 1) was ∙ sym (ap (λ (ws : List Win). length (won_in space ws)) more ∙ ap length (in_push space (take n b.won) w here) ∙ length_push (won_in space (take n b.won)) w))
        (λ (other : (place_in w.word).space ≢ space).
        ap length (left other) ∙ was ∙ sym (ap (λ (ws : List Win). length (won_in space ws)) more ∙ ap length (in_other space (take n b.won) w other)))
        (cases_eq (place_in w.word).space space)

    pub copied_is : ((to : ℕ → Place) → knows to → before ≡ copies_to space b.kind h to (take n b.won)) → ((place_in w.word).space ≡ space → after ≡ before ++ words ∷ []) → ((place_in w.word).space ≢ space → after ≡ before) →
        (to : ℕ → Place) → knows to → after ≡ copies_to space b.kind h to (take (n + 1) b.won)
    copied_is was new left to agrees = ⊎_elim
        (λ (here : (place_in w.word).space ≡ space).
        new here ∙ ap (λ (cells : List (List ℕ)). cells ++ words ∷ []) (was to agrees) ∙ ap (λ (ws : List ℕ). copies_to space b.kind h to (take n b.won) ++ ws ∷ []) (image to agrees)
        ∙ sym (ap (copies_to space b.kind h to) more ∙ copies_push space b.kind h to (take n b.won) w here))
        (λ (other : (place_in w.word).space ≢ space).
        left other ∙ was to agrees ∙ sym (ap (copies_to space b.kind h to) more ∙ copies_other space b.kind h to (take n b.won) w other))
        (cases_eq (place_in w.word).space space)

  pub scanned_next : (aged_after old_after : List (List ℕ)) → ((place_in w.word).space ≡ 1 → aged_after ≡ aged ++ words ∷ []) → ((place_in w.word).space ≢ 1 → aged_after ≡ aged) →
      ((place_in w.word).space ≡ 0 → old_after ≡ old ++ words ∷ []) → ((place_in w.word).space ≢ 0 → old_after ≡ old) → AreScanned h b knows (n + 1) aged_after old_after
  scanned_next aged_after old_after aged_new aged_left old_new old_left = record {
    within = omega arith;
    met = λ k below. ⊎_elim
        (λ (last : k ≡ n). subst (λ (v : Win). All (Contains b.met) (targets_of (from_space b.kind) h v.cell)) (is ∙ ap (λ (m : ℕ). win_at b.won m) (sym last)) met)
        (λ (other : k ≢ n). so.met k (omega arith))
        (cases_eq k n);
    aged_long = copied_long 1 aged aged_after so.aged_long aged_new aged_left;
    old_long = copied_long 0 old old_after so.old_long old_new old_left;
    in_aged = copied_is 1 aged aged_after so.in_aged aged_new aged_left;
    in_old = copied_is 0 old old_after so.in_old old_new old_left;
  }

-- a pair that is not among the first takes the room of one more
pub room_left : (space : ℕ) (won : List Win) (n : ℕ) → n < length won → (place_in (win_at won n).word).space ≡ space → length (won_in space (take n won)) < length (won_in space won)
room_left space won n low here =
    let first : won_in space (take (n + 1) won) ≡ won_in space (take n won) ++ win_at won n ∷ [] =
    ap (won_in space) (take_more won n (win_at [] 0) low) ∙ in_push space (take n won) (win_at won n) here in
    let long = ap length first ∙ length_push (won_in space (take n won)) (win_at won n) in
    let all : won_in space won ≡ won_in space (take (n + 1) won) ++ won_in space (drop (n + 1) won) =
    ap (won_in space) (sym (take-append-drop (n + 1) won)) ∙ filter-append (is_in space) (take (n + 1) won) (drop (n + 1) won) in
    let whole = ap length all ∙ length-append (won_in space (take (n + 1) won)) (won_in space (drop (n + 1) won)) in
    omega arith

-- one more cell is scanned: what it names is claimed, and it is copied
module _ (h : SpaceList) (n : ℕ) (w : Win) (straight : Bool) (source : List ℕ) {Fixed : Type 0} {b : Walked Fixed} {before : (ℕ → Place) → Type 0} {aged old : List (List ℕ)}
    (so : AreScanned h b before n aged old) (low : n < length b.won) (is : w ≡ win_at b.won n) (in_old : straight ≡ is_in_old w) (at : source ≡ cell_numbered h w.cell) where
  pub scan_room : (space room : ℕ) (cells : List (List ℕ)) → length cells ≡ length (won_in space (take n b.won)) → length (won_in space b.won) ≤ room → (place_in w.word).space ≡ space → length cells < room
  scan_room space room cells long few here =
      let left = room_left space b.won n low (ap (λ (v : Win). (place_in v.word).space) (sym is) ∙ here) in omega arith

  pub straight_old : straight ≡ true → (place_in w.word).space ≡ 0
  straight_old is_true = ⊎_elim (λ (e : ((place_in w.word).space == 0 ≡ true) × ((place_in w.word).space ≡ 0)). e.1)
      (λ (ne : ((place_in w.word).space == 0 ≡ false) × ((place_in w.word).space ≢ 0)). absurd (let both : true ≡ false = sym is_true ∙ in_old ∙ ne.0 in cc)) (eqb_tells (place_in w.word).space 0)

  pub straight_aged : straight ≡ false → (place_in w.word).space ≢ 0
  straight_aged isnt = ⊎_elim (λ (e : ((place_in w.word).space == 0 ≡ true) × ((place_in w.word).space ≡ 0)). absurd (let both : true ≡ false = sym e.0 ∙ sym in_old ∙ isnt in cc))
      (λ (ne : ((place_in w.word).space == 0 ≡ false) × ((place_in w.word).space ≢ 0)). ne.1) (eqb_tells (place_in w.word).space 0)

  module _ {c : Walked Fixed} (added : AddsWins (IsClaimOf h straight (named_by (from_space b.kind) h (pointers_of source))) b c) where
    two : AddsWins (IsClaimOf h straight (targets_of (from_space b.kind) h w.cell)) b c
    two = subst (λ (ws : List ℕ). AddsWins (IsClaimOf h straight (named_by (from_space b.kind) h (pointers_of ws))) b c) at added

    scan_is : AddsWins (IsClaimOf h (is_in_old (win_at b.won n)) (targets_of (from_space b.kind) h (win_at b.won n).cell)) b c
    scan_is =
        subst (λ (v : Win). AddsWins (IsClaimOf h (is_in_old v) (targets_of (from_space b.kind) h v.cell)) b c) is
        (subst (λ (o : Bool). AddsWins (IsClaimOf h o (targets_of (from_space b.kind) h w.cell)) b c) in_old two)

    pub scan_traced : (roots : List Root) → AreTraced b.kind h roots b.won → AreTraced b.kind h roots c.won
    scan_traced roots traced = traced_more b.kind h roots scan_is (λ v claim. inr (n, low, claim)) traced

    pub scan_keeps : KeepsWins b c
    scan_keeps = wins_weaker two (λ v claim. tt)

    -- of what a call answers that may be refused
    pub scan_copied : {E : Type 0} (r : Result (Unit {0}) E) {after : (ℕ → Place) → Type 0} → KnowsMore before after → OnOk r (All (Contains c.met) (named_by (from_space b.kind) h (pointers_of source))) → (place_in w.word).space < 2 →
        (aged_after old_after : List (List ℕ)) → OnOk r (straight ≡ true → AddsCopy b.kind h after source old old_after) → (straight ≡ false → old_after ≡ old) → OnOk r (straight ≡ false → AddsCopy b.kind h after source aged aged_after) → (straight ≡ true → aged_after ≡ aged) →
        OnOk r (AreScanned h c after (n + 1) aged_after old_after)
    scan_copied (Err _) grows met low_space aged_after old_after old_new old_kept aged_new aged_kept = tt
    scan_copied (Ok _) {after} grows met low_space aged_after old_after old_new old_kept aged_new aged_kept = by_test straight refl
      where
        low_now : n < length c.won
        low_now = let long = ap length two.is ∙ length-append b.won two.added in omega arith

        is_now : w ≡ win_at c.won n
        is_now = is ∙ sym (ap (λ (ws : List Win). win_at ws n) two.is ∙ get_or_append_left b.won two.added (win_at [] 0) n low)

        met_now : All (Contains c.met) (targets_of (from_space c.kind) h w.cell)
        met_now = subst (λ (k : Kind). All (Contains c.met) (targets_of (from_space k) h w.cell)) (sym two.same_kind) (subst (λ (ws : List ℕ). All (Contains c.met) (named_by (from_space b.kind) h (pointers_of ws))) at met)

        image_now : {one more : List (List ℕ)} (adds : AddsCopy b.kind h after source one more) (to : ℕ → Place) → after to → adds.copy ≡ image_at c.kind h to w.cell
        image_now adds to agrees = adds.image to agrees ∙ ap (image_of (from_space b.kind) h to) at ∙ ap (λ (k : Kind). image_at k h to w.cell) (sym two.same_kind)

        by_test : (o : Bool) → straight ≡ o → AreScanned h c after (n + 1) aged_after old_after
        by_test true is_true =
            let one = old_new is_true in let here = straight_old is_true in
            scanned_next (scanned_more so two grows) low_now w is_now met_now one.copy (image_now one) aged_after old_after (λ aged. absurd (omega arith)) (λ other. aged_kept is_true) (λ zero_is. one.is) (λ other. absurd (other here))
        by_test false isnt =
            let one = aged_new isnt in let other = straight_aged isnt in
            scanned_next (scanned_more so two grows) low_now w is_now met_now one.copy (image_now one) aged_after old_after (λ aged. one.is) (λ not_one. absurd (omega arith)) (λ zero_is. absurd (other zero_is)) (λ _. old_kept isnt)

-- ---- the plain table

-- no cell was scanned
pub none_scanned : {Fixed : Type 0} (h : SpaceList) (w : Walked Fixed) (knows : (ℕ → Place) → Type 0) (scanned : ℕ) (aged old : List (List ℕ)) → scanned ≡ 0 → aged ≡ [] → old ≡ [] → AreScanned h w knows scanned aged old
none_scanned h w knows scanned aged old none no_aged no_old =
    rw (none, no_aged, no_old) (record { within = omega arith; met = λ k low. absurd (omega arith); aged_long = refl; old_long = refl; in_aged = λ to agrees. refl; in_old = λ to agrees. refl })

-- the plan stays as it was
pub plan_kept : (a b : Claimed) {reason : Win → Type 0} → AddsWins reason (walked_of a) (walked_of b) → b.plan ≡ a.plan
plan_kept a b adds i = record { kind = adds.same_kind i; kept = adds.same_kept i; room = adds.same_room i }

-- where all won cells were scanned, what they name was won
pub closed_from : (h : SpaceList) (c : Claimed) (knows : (ℕ → Place) → Type 0) {aged old : List (List ℕ)} → AreScanned h (walked_of c) knows (length c.won) aged old → IsClosed (targets_of (from_space c.plan.kind) h) (cells_won c.won) (length (cells_won c.won))
closed_from h c knows so k low =
    let below : k < length c.won = rw length-map at low in
    subst (λ (n : ℕ). All (Contains (cells_won c.won)) (targets_of (from_space c.plan.kind) h n)) (sym (get_or-map (λ (v : Win). v.cell) c.won k (win_at [] 0) 0 below)) (so.met k below)
