-- What the reasons of won pairs say: which cells were won, and in which space their copies are.
use Rattle.std.proofs.Common.{◌≡◌, ◌≢◌, ℕ, zero, suc, ◌<◌, ◌≤◌, ◌+◌, ◌-◌, ◌⊎◌, ◌==◌, Bool, true, false, List, [], length, get_or, refl, sym, ap, subst, arith, ◌∙◌, inl, inr, ⊎_elim}
use Rattle.std.specs.List.{All, Contains}
use Rattle.std.proofs.lemmas.List.{get_or-map, length-map, length-append, get_or_append_left, get_or-append_right, get_or_default}
use Rattle.std.proofs.lemmas.List.Elements.{All-map, All-get_or, All-contains, All-contains_itself, All-from_get_or, All-weaker, Contains-get_or}
use Rattle.std.proofs.lemmas.Bool.{cases_lt, cases_eq}
use Rattle.std.proofs.lemmas.Bool.Decides.{eqb_tells}
use Rattle.tg_model.specs.Walks.{Walk, begins, goes}
use Rattle.tg_word.specs.declared.Place.{Place}
use Rattle.tg_word.specs.Word.{place_in}
use Rattle.tg_space.specs.Closure.{IsTraced}
use Rattle.tg_space.specs.Generations.{AreSortedByAge, GoesTo, IsAgedCell, IsNextIn, IsNurseryCell, IsRememberedTarget, IsRowTarget}
use Rattle.tg_space.specs.Soundness.{IsRootIn}
use Rattle.tg_space.specs.SpaceList.{SpaceList, IsSpaceList, HasCell, cells_of, flat_of}
use Rattle.tg_space.specs.Targets.{from_space, young_spaces, targets_of, root_targets_of, all_root_targets}
use Rattle.tg_space.specs.declared.kind.Kind.{Kind}
use Rattle.tg_space.specs.declared.kind.Kind.TheVariants.{Full, Nursery}
use Rattle.tg_space.specs.declared.root.Root.{Root}
use Rattle.tg_space.specs.declared.root.Root.TheVariants.{Row, Remembered}
use Rattle.tg_space.proofs.Adding.{piece}
use Rattle.tg_space.proofs.Flat.{same_place, flat_inside}
use Rattle.tg_space.proofs.Tracing.{reached_from_won}
use Rattle.tg_evac.specs.Win.{Win}
use Rattle.tg_evac.specs.Claims.{HavePointers, IsWonIn, IsClaimOf, IsRootClaim, AreTraced, AreWordsOf, cells_won, is_in_old, is_straight, space_for, win_at}
use Rattle.tg_evac.specs.Claimers.{AddsWins, Walked}
use Rattle.tg_evac.specs.Room.{IsReachedFrom}
use Rattle.tg_evac.proofs.Chunks.{used_root, used_targets, targets_from}
use Rattle.tg_evac.proofs.Claiming.{pair_of}
use Rattle.tg_evac.proofs.Counting.{IsUsed}

-- ---- spaces of copies

pub space_straight : (b : Bool) (space : ℕ) → b ≡ true → space_for b space ≡ 0
space_straight b space is = rw is refl

pub space_aged : (b : Bool) (space : ℕ) → space ≡ 1 → space_for b space ≡ 0
space_aged true space is = refl
space_aged false space is = rw is refl

pub space_other : (b : Bool) (space : ℕ) → b ≡ false → space ≢ 1 → space_for b space ≡ 1
space_other b space is other = ⊎_elim
    (λ (y : (space == 1 ≡ true) × (space ≡ 1)). absurd (other y.1))
    (λ (n : (space == 1 ≡ false) × (space ≢ 1)). rw (is, n.0) refl)
    (eqb_tells space 1)

-- ---- one trace after more claims

-- a pair has a reason among so many of these pairs
abbrev pub HasReason : Kind → SpaceList → List Root → List Win → ℕ → Win → Type 0
HasReason kind h roots won n w =
    IsRootClaim kind h roots w
    ⊎ ((j : ℕ) × (j < n) × IsClaimOf h (is_in_old (win_at won j)) (targets_of (from_space kind) h (win_at won j).cell) w)

module _ (kind : Kind) (h : SpaceList) (roots : List Root) {reason : Win → Type 0} {Fixed : Type 0} {a b : Walked Fixed} (adds : AddsWins reason a b) where
  kept_win : (k : ℕ) → k < length a.won → win_at b.won k ≡ win_at a.won k
  kept_win k low = ap (λ (ws : List Win). win_at ws k) adds.is ∙ get_or_append_left a.won adds.added (win_at [] 0) k low

  new_win : (k : ℕ) → length a.won ≤ k → k < length b.won → reason (win_at b.won k)
  new_win k low high =
      let long : length b.won ≡ length a.won + length adds.added = ap length adds.is ∙ length-append a.won adds.added in
      let e = ap (λ (ws : List Win). win_at ws k) adds.is ∙ get_or-append_right a.won adds.added (length a.won) k (win_at [] 0) refl low in
      subst (λ (w : Win). reason w) (sym e) (All-get_or reason adds.added (k - length a.won) (win_at [] 0) (omega arith) adds.reasons)

  -- and so it has among more
  carry : (n m : ℕ) (w : Win) → n ≤ length a.won → n ≤ m → HasReason kind h roots a.won n w → HasReason kind h roots b.won m w
  carry n m w low le has = ⊎_elim (λ r. inl r)
      (λ (j, below, claim). inr (j, omega arith, subst (λ (v : Win). IsClaimOf h (is_in_old v) (targets_of (from_space kind) h v.cell) w) (sym (kept_win j (omega arith))) claim)) has

  pub traced_more : ((w : Win) → reason w → HasReason kind h roots a.won (length a.won) w) → AreTraced kind h roots a.won → AreTraced kind h roots b.won
  traced_more allowed traced k inside = ⊎_elim
      (λ (low : k < length a.won). subst (λ (w : Win). HasReason kind h roots b.won k w) (sym (kept_win k low)) (carry k k (win_at a.won k) (omega arith) (omega arith) (traced k low)))
      (λ (high : length a.won ≤ k). carry (length a.won) k (win_at b.won k) (omega arith) high (allowed (win_at b.won k) (new_win k high inside)))
      (cases_lt k (length a.won))

-- ---- what a trace says

module _ (kind : Kind) (h : SpaceList) (roots : List Root) (won : List Win) (traced : AreTraced kind h roots won) where
  cell_is : (k : ℕ) → k < length won → get_or (cells_won won) k 0 ≡ (win_at won k).cell
  cell_is k low = get_or-map (λ (w : Win). w.cell) won k (win_at [] 0) 0 low

  pub traced_cells : IsTraced (all_root_targets (from_space kind) h roots) (targets_of (from_space kind) h) (cells_won won)
  traced_cells k inside =
      let low : k < length won = rw length-map at inside in
      ⊎_elim
      (λ (r : IsRootClaim kind h roots (win_at won k)).
      let here : Contains (root_targets_of (from_space kind) h (get_or roots r.is.0 r.root)) (win_at won k).cell = subst (λ (x : Root). Contains (root_targets_of (from_space kind) h x) (win_at won k).cell) (sym r.is.2) r.claim.one in
      inl (subst (λ (c : ℕ). Contains (all_root_targets (from_space kind) h roots) c) (sym (cell_is k low))
      (All-contains (Contains (all_root_targets (from_space kind) h roots)) (root_targets_of (from_space kind) h (get_or roots r.is.0 r.root)) (win_at won k).cell
      (piece (root_targets_of (from_space kind) h) roots r.is.0 r.root r.is.1) here)))
      (λ (j, below, claim).
      let jl : j < length won = omega arith in
      inr (j, below, rw (cell_is k low, cell_is j jl) claim.one))
      (traced k low)

  -- each won cell is reached
  pub all_reached : All (IsReachedFrom kind h roots) (cells_won won)
  all_reached =
      let starts = all_root_targets (from_space kind) h roots in let targets = targets_of (from_space kind) h in
      All-weaker (Contains (cells_won won)) (IsReachedFrom kind h roots) (reached_from_won starts targets (cells_won won) traced_cells) (cells_won won) (All-contains_itself (cells_won won))

  pub all_used : IsSpaceList h → HavePointers h → All (IsRootIn h) roots → All (IsUsed kind h) (cells_won won)
  all_used is pointers are = All-map (IsUsed kind h) (λ (w : Win). w.cell) won (All-from_get_or (λ (w : Win). IsUsed kind h w.cell) won (win_at [] 0) used)
    where
      stands_of : (k : ℕ) → k < length won → (p : Place) × HasCell h p × (flat_of h p ≡ (win_at won k).cell)
      stands_of k low = ⊎_elim (λ (r : IsRootClaim kind h roots (win_at won k)). (r.claim.place, r.claim.held, r.claim.at)) (λ (j, below, claim). (claim.place, claim.held, claim.at)) (traced k low)

      used : (k : ℕ) → k < length won → IsUsed kind h (win_at won k).cell
      used k low = ⊎_elim
          (λ (r : IsRootClaim kind h roots (win_at won k)).
          All-contains (IsUsed kind h) (root_targets_of (from_space kind) h r.root) (win_at won k).cell (used_root kind h is pointers r.root (All-contains (IsRootIn h) roots r.root are r.is)) r.claim.one)
          (λ (j, below, claim).
          let place = stands_of j (omega arith) in
          All-contains (IsUsed kind h) (targets_of (from_space kind) h (win_at won j).cell) (win_at won k).cell
          (subst (λ (ts : List ℕ). All (IsUsed kind h) ts) (targets_from (from_space kind) h is place.0 place.1 (win_at won j).cell place.2) (used_targets kind h is pointers place.0 place.1)) claim.one)
          (traced k low)

-- ---- generations

-- the pair of a cell that has a word
pub goes_to : (forward : List ℕ) (w : Win) → IsWonIn forward w → GoesTo forward (place_in w.word).space w.cell
goes_to forward w st = record { some = λ zero. st.some (sym st.word ∙ zero); there = ap (λ (n : ℕ). (place_in n).space) st.word }

-- in a full collection all go to Old
module _ (h : SpaceList) (roots : List Root) (won : List Win) (traced : AreTraced Full h roots won) where
  in_old : (n k : ℕ) → k < n → k < length won → (place_in (win_at won k).word).space ≡ 0
  in_old zero k low inside = absurd (omega arith)
  in_old (suc n) k low inside = ⊎_elim
      (λ (r : IsRootClaim Full h roots (win_at won k)). r.claim.to)
      (λ (j, below, claim).
      let before = in_old n j (omega arith) (omega arith) in
      claim.to ∙ space_straight (is_in_old (win_at won j)) claim.place.space (rw before refl))
      (traced k inside)

  pub all_in_old : (w : Win) → Contains won w → (place_in w.word).space ≡ 0
  all_in_old w held = subst (λ (v : Win). (place_in v.word).space ≡ 0) (get_or_default won held.0 (win_at [] 0) w held.1 ∙ held.2) (in_old (suc held.0) held.0 (omega arith) held.1)

module _ (h : SpaceList) (roots : List Root) (forward : List ℕ) (won : List Win) where
  module _ (is : IsSpaceList h) (words : AreWordsOf won forward) (two : (w : Win) → Contains won w → (place_in w.word).space < 2) (traced : AreTraced Nursery h roots won) where
    abbrev win : ℕ → Win
    win k = win_at won k

    held_win : (k : ℕ) → k < length won → Contains won (win_at won k)
    held_win k low = Contains-get_or won k (win_at [] 0) low

    goes_at : (k : ℕ) (space : ℕ) → k < length won → (place_in (win_at won k).word).space ≡ space → GoesTo forward space (win_at won k).cell
    goes_at k space low to =
        subst (λ (s : ℕ). GoesTo forward s (win_at won k).cell) to (goes_to forward (win_at won k) (All-contains (IsWonIn forward) won (win_at won k) words.stand (held_win k low)))

    root_to_aged : (root : Root) (w : Win) → Contains roots root → IsClaimOf h (is_straight Nursery root) (root_targets_of young_spaces h root) w → (place_in w.word).space ≡ 1 → IsRowTarget h roots w.cell
    root_to_aged (Row p) w held claim to = (p, held, claim.one)
    root_to_aged (Remembered p) w held claim to = absurd (let z = claim.to in omega arith)

    root_to_old : (root : Root) (w : Win) → Contains roots root → IsClaimOf h (is_straight Nursery root) (root_targets_of young_spaces h root) w → (place_in w.word).space ≡ 0 → IsRememberedTarget h roots w.cell ⊎ IsAgedCell h w.cell
    root_to_old (Remembered p) w held claim to = inl (p, held, claim.one)
    root_to_old (Row p) w held claim to = ⊎_elim
        (λ (aged : claim.place.space ≡ 1). inr (record { place = claim.place; held = claim.held; aged = aged; at = claim.at }))
        (λ (other : claim.place.space ≢ 1). absurd (let e = claim.to in let one = space_other false claim.place.space refl other in omega arith))
        (cases_eq claim.place.space 1)

    -- the place of a pair is in Old or isn't
    in_old_or : {P : Type 0} (w : Win) → (is_in_old w ≡ true → (place_in w.word).space ≡ 0 → P) → (is_in_old w ≡ false → (place_in w.word).space ≢ 0 → P) → P
    in_old_or w old other = ⊎_elim
        (λ (y : ((place_in w.word).space == 0 ≡ true) × ((place_in w.word).space ≡ 0)). old y.0 y.1)
        (λ (n : ((place_in w.word).space == 0 ≡ false) × ((place_in w.word).space ≢ 0)). other n.0 n.1)
        (eqb_tells (place_in w.word).space 0)

    walk_aged : (n k : ℕ) → k < n → k < length won → (place_in (win_at won k).word).space ≡ 1 → Walk (IsRowTarget h roots) (IsNextIn h forward 1) (win_at won k).cell
    walk_aged zero k low inside to = absurd (omega arith)
    walk_aged (suc n) k low inside to = ⊎_elim
        (λ (r : IsRootClaim Nursery h roots (win_at won k)). begins (root_to_aged r.root (win_at won k) r.is r.claim to))
        (λ (j, below, claim). let jl : j < length won = omega arith in in_old_or (win_at won j)
        (λ tells in_old. absurd (let e = claim.to in let z = space_straight (is_in_old (win_at won j)) claim.place.space tells in omega arith))
        (λ tells other.
        let aged : (place_in (win_at won j).word).space ≡ 1 = let low2 = two (win_at won j) (held_win j jl) in omega arith in
        goes (walk_aged n j (omega arith) jl aged) (record { goes = goes_at j 1 jl aged; target = claim.one })))
        (traced k inside)

    walk_old : (n k : ℕ) → k < n → k < length won → (place_in (win_at won k).word).space ≡ 0 → Walk (λ x. IsRememberedTarget h roots x ⊎ IsAgedCell h x) (IsNextIn h forward 0) (win_at won k).cell
    walk_old zero k low inside to = absurd (omega arith)
    walk_old (suc n) k low inside to = ⊎_elim
        (λ (r : IsRootClaim Nursery h roots (win_at won k)). begins (root_to_old r.root (win_at won k) r.is r.claim to))
        (λ (j, below, claim). let jl : j < length won = omega arith in in_old_or (win_at won j)
        (λ tells in_old. goes (walk_old n j (omega arith) jl in_old) (record { goes = goes_at j 0 jl in_old; target = claim.one }))
        (λ tells not_old. ⊎_elim
        (λ (aged : claim.place.space ≡ 1). begins (inr (record { place = claim.place; held = claim.held; aged = aged; at = claim.at })))
        (λ (other : claim.place.space ≢ 1). absurd (let e = claim.to in let one = space_other (is_in_old (win_at won j)) claim.place.space tells other in omega arith))
        (cases_eq claim.place.space 1)))
        (traced k inside)

    -- the pair of a forwarded cell, by its number
    found : (c : ℕ) → c < length forward → get_or forward c 0 ≢ 0 → (k : ℕ) × (k < length won) × ((win_at won k).cell ≡ c) × (get_or forward c 0 ≡ (win_at won k).word)
    found c low some =
        let pair = pair_of won forward words c low some in
        let at : win_at won pair.1.0 ≡ pair.0 = get_or_default won pair.1.0 (win_at [] 0) pair.0 pair.1.1 ∙ pair.1.2 in
        (pair.1.0, pair.1.1, ap (λ (w : Win). w.cell) at ∙ pair.2, pair.3 ∙ ap (λ (w : Win). w.word) (sym at))

    pub are_aged : length forward ≡ length (cells_of h) → AreSortedByAge h roots forward
    are_aged whole = record { aged = aged; to_aged = to_aged; to_old = to_old }
      where
        inside : (c : ℕ) (p : Place) → HasCell h p → flat_of h p ≡ c → c < length forward
        inside c p held at = let low = flat_inside h is.spaces p held in omega arith

        aged : (c : ℕ) → IsAgedCell h c → get_or forward c 0 ≢ 0 → GoesTo forward 0 c
        aged c a some =
            let f = found c (inside c a.place a.held a.at) some in
            let from : (p : Place) → HasCell h p → flat_of h p ≡ (win_at won f.0).cell → p.space ≡ 1 = λ (p : Place) (held : HasCell h p) (at : flat_of h p ≡ (win_at won f.0).cell).
            ap (λ (q : Place). q.space) (same_place h is.spaces p a.place held a.held (at ∙ f.2 ∙ sym a.at)) ∙ a.aged in
            let to : (place_in (win_at won f.0).word).space ≡ 0 = ⊎_elim
            (λ (r : IsRootClaim Nursery h roots (win_at won f.0)). r.claim.to ∙ space_aged (is_straight Nursery r.root) r.claim.place.space (from r.claim.place r.claim.held r.claim.at))
            (λ (j, below, claim). claim.to ∙ space_aged (is_in_old (win_at won j)) claim.place.space (from claim.place claim.held claim.at))
            (traced f.0 f.1) in
            subst (λ (n : ℕ). GoesTo forward 0 n) f.2 (goes_at f.0 0 f.1 to)

        to_aged : (c : ℕ) → IsNurseryCell h c → GoesTo forward 1 c → Walk (IsRowTarget h roots) (IsNextIn h forward 1) c
        to_aged c n g =
            let f = found c (inside c n.place n.held n.at) g.some in
            subst (λ (d : ℕ). Walk (IsRowTarget h roots) (IsNextIn h forward 1) d) f.2 (walk_aged (suc f.0) f.0 (omega arith) f.1 (sym (ap (λ (m : ℕ). (place_in m).space) f.3) ∙ g.there))

        to_old : (c : ℕ) → IsNurseryCell h c → GoesTo forward 0 c → Walk (λ x. IsRememberedTarget h roots x ⊎ IsAgedCell h x) (IsNextIn h forward 0) c
        to_old c n g =
            let f = found c (inside c n.place n.held n.at) g.some in
            subst (λ (d : ℕ). Walk (λ x. IsRememberedTarget h roots x ⊎ IsAgedCell h x) (IsNextIn h forward 0) d) f.2 (walk_old (suc f.0) f.0 (omega arith) f.1 (sym (ap (λ (m : ℕ). (place_in m).space) f.3) ∙ g.there))
