-- What a helper hands over: its copies are in its blocks, each block with its number, which it has once.
use Rattle.std.proofs.Common.{◌≡◌, ◌≢◌, ℕ, ◌+◌, ◌*◌, ◌/◌, ◌%◌, ◌^◌, ◌<◌, ◌≤◌, ◌==◌, ◌⊎◌, List, [], ◌∷◌, Bool, true, false, length, get_or, take, map, refl, sym, ap, subst, ◌∙◌, inl, inr, ⊎_elim, arith, nat_lt, Result, Ok, Err}
use Rattle.std.specs.List.{All, Contains, list_all}
use Rattle.std.specs.Result.{IfOk, OnOk}
use Rattle.std.proofs.lemmas.Bool.{cases_eq, cases_lt}
use Rattle.std.proofs.lemmas.Bool.Decides.{nat_tests}
use Rattle.std.proofs.lemmas.List.{get_or-map, get_or-replicate, get_or_default, get_or_past, length-map, take_all}
use Rattle.std.proofs.lemmas.List.Elements.{All-contains_itself, All-filter, All-get_or, Contains-append_right}
use Rattle.std.proofs.lemmas.List.Sums.{AllPass-from_list_all}
use Rattle.tg_word.specs.declared.Place.{Place}
use Rattle.tg_word.specs.Word.{IsPlace}
use Rattle.tg_block.specs.Cells.{IsBlock, cell_of, free_block, free_cell}
use Rattle.tg_space.specs.SpaceList.{BlockList}
use Rattle.tg_space.specs.SpaceTable.{SpaceTable}
use Rattle.tg_space.specs.Targets.{from_space, targets_of}
use Rattle.tg_space.specs.declared.kind.Kind.{Kind}
use Rattle.tg_space.specs.declared.root.Root.{Root}
use Rattle.tg_race.specs.declared.record.Record.{Record}
use Rattle.tg_race.specs.Conditions.{blocks_of}
use Rattle.tg_race.specs.Race.{has_number, owns}
use Rattle.tg_race.specs.Words.{space_of_age}
use Rattle.tg_evac.specs.Win.{Win}
use Rattle.tg_evac.specs.Claims.{win_at, won_in}
use Rattle.tg_evac.specs.Claimers.{copies_to, image_at}
use Rattle.tg_evac.specs.Copies.{HoldCells}
use Rattle.tg_evac.proofs.InOrder.{held_cell, held_count, held_rest}
use Rattle.tg_parallel.specs.Parts.{AreOnce, HasClaimedPast, HasCopies, HasMetAll, IsPart, Numbered, cells_met, numbers_of, win_of, wins_of}
use Rattle.tg_parallel.specs.Seats.{AreFilled, AreLaidOut, HasCopied, Sitting, block_at, own_place, pair_at, pairs_in}
use Rattle.tg_parallel.proofs.Filled.{has_index, rising_once, won_at}
use Rattle.tg_parallel.proofs.Lists.{once_differ}
use Rattle.tg_parallel.proofs.Seating.{wins_in}

-- ---- blocks with their numbers

-- a cell of the i-th block, where free blocks are after the last
pub laid_cell : (cells : List (List ℕ)) (blocks : BlockList) → HoldCells cells blocks → All IsBlock blocks → (i j : ℕ) → j < 64 → cell_of (get_or blocks i free_block) j ≡ get_or cells (64 * i + j) free_cell
laid_cell cells blocks hold are i j inside = ⊎_elim
    (λ (low : i < length blocks).
    ap (λ (b : List (List ℕ)). cell_of b j) (get_or_default blocks i free_block [] low) ∙ ⊎_elim
    (λ (below : 64 * i + j < length cells). held_cell cells blocks hold are i j low inside below ∙ get_or_default cells (64 * i + j) [] free_cell below)
    (λ (past : length cells ≤ 64 * i + j). held_rest cells blocks hold are i j low inside past ∙ sym (get_or_past cells (64 * i + j) free_cell past))
    (cases_lt (64 * i + j) (length cells)))
    (λ (past : length blocks ≤ i).
    let count = held_count cells blocks hold are in
    ap (λ (b : List (List ℕ)). cell_of b j) (get_or_past blocks i free_block past) ∙ get_or-replicate 64 j free_cell [] inside ∙ sym (get_or_past cells (64 * i + j) free_cell (omega arith)))
    (cases_lt i (length blocks))

pub are_laid_out : (cells : List (List ℕ)) (numbers : List ℕ) (blocks : BlockList) (laid : Numbered) → HoldCells cells blocks → All IsBlock blocks → numbers_of laid ≡ numbers →
    ((i : ℕ) → i < length numbers → block_at laid i ≡ get_or blocks i free_block) → AreLaidOut cells numbers laid
are_laid_out cells numbers blocks laid hold are same each = record {
  numbered = same;
  stand = λ i j low inside. ap (λ (b : List (List ℕ)). cell_of b j) (each i low) ∙ laid_cell cells blocks hold are i j inside;
}

-- the numbers of a helper's own blocks, which rise, are once
filled_once : (aged : Bool) (v : Record) (numbers : List ℕ) (used : ℕ) → AreFilled aged v numbers used → AreOnce (blocks_of aged v)
filled_once aged v numbers used filled = subst (λ (l : List ℕ). AreOnce l) filled.same
    (once_differ numbers (λ i j d lt low e. (
    let rises = filled.rising i j lt low in
    let left : get_or numbers i 0 ≡ get_or numbers i d = get_or_default numbers i 0 d (omega arith) in
    let right : get_or numbers j 0 ≡ get_or numbers j d = get_or_default numbers j 0 d low in
    omega arith)))

pub both_once : {v w : Record} {aged old : List ℕ} {m n : ℕ} → w ≡ v → AreFilled true v aged m → AreFilled false v old n → AreOnce w.aged_blocks × AreOnce w.old_blocks
both_once {v} {aged = aged} {old = old} {m = m} {n = n} same in_aged in_old = subst (λ (x : Record). AreOnce x.aged_blocks × AreOnce x.old_blocks) (sym same) (filled_once true v aged m in_aged, filled_once false v old n in_old)

-- ---- the copies of a space

module _ (aged : Bool) (v : Record) (numbers : List ℕ) (used : ℕ) (filled : AreFilled aged v numbers used) where
  pub owns_at : (q : ℕ × Place) → Contains v.won q → q.1.space ≡ space_of_age aged → owns v q.1 ≡ true
  owns_at q held s =
      let at = won_at aged v numbers used filled q held s in
      let room = filled.room in let low = at.1 in
      subst (λ (p : Place). owns v p ≡ true) (sym at.3) (by_space aged filled.same at.0 (omega arith))
    where
      by_space : (a : Bool) → numbers ≡ blocks_of a v → (k : ℕ) → k < 64 * length numbers → owns v (own_place a numbers k) ≡ true
      by_space true e k low = subst (λ (l : List ℕ). has_number (get_or numbers (k / 64) 0) l ≡ true) e (has_index numbers (k / 64) (omega arith))
      by_space false e k low = subst (λ (l : List ℕ). has_number (get_or numbers (k / 64) 0) l ≡ true) e (has_index numbers (k / 64) (omega arith))

  module _ (copy : ℕ → List ℕ) (blocks : Numbered) (cells : List (List ℕ)) (laid : AreLaidOut cells numbers blocks) (is : cells ≡ map (λ (q : ℕ × Place). copy q.0) (pairs_in (space_of_age aged) v.won)) where
    abbrev pairs : List (ℕ × Place)
    pairs = pairs_in (space_of_age aged) v.won

    long : length blocks ≡ length numbers
    long = sym (length-map blocks (λ (b : ℕ × List (List ℕ)). b.0)) ∙ ap length laid.numbered

    number_at : (i : ℕ) (d : ℕ × List (List ℕ)) → i < length blocks → (get_or blocks i d).0 ≡ get_or numbers i 0
    number_at i d low = sym (get_or-map (λ (b : ℕ × List (List ℕ)). b.0) blocks i d 0 low) ∙ ap (λ (l : List ℕ). get_or l i 0) laid.numbered

    cell_at : (i j : ℕ) (d : ℕ × List (List ℕ)) → i < length blocks → j < 64 → cell_of (get_or blocks i d).1 j ≡ get_or cells (64 * i + j) free_cell
    cell_at i j d low inside = ap (λ (b : ℕ × List (List ℕ)). cell_of b.1 j) (get_or_default blocks i d (0, []) low) ∙ laid.stand i j (let l = long in omega arith) inside

    copy_is : (k : ℕ) → k < used → get_or cells k free_cell ≡ copy (pair_at pairs k).0
    copy_is k low =
        let ends = filled.ends in
        ap (λ (l : List (List ℕ)). get_or l k free_cell) is ∙ get_or-map (λ (q : ℕ × Place). copy q.0) pairs k (pair_at [] 0) free_cell (omega arith)

    copied_at : (i : ℕ) (d : ℕ × List (List ℕ)) → i < length blocks → (q : ℕ × Place) → Contains v.won q → q.1.space ≡ space_of_age aged → q.1.block ≡ (get_or blocks i d).0 → cell_of (get_or blocks i d).1 q.1.cell ≡ copy q.0
    copied_at i d low q held s b =
        let at = won_at aged v numbers used filled q held s in
        let room = filled.room in let under = at.1 in let l = long in
        let block : get_or numbers (at.0 / 64) 0 ≡ get_or numbers i 0 = sym (ap (λ (p : Place). p.block) at.3) ∙ b ∙ number_at i d low in
        let same = rising_once numbers filled.rising (at.0 / 64) i (omega arith) (omega arith) block in
        let cell : q.1.cell ≡ at.0 % 64 = ap (λ (p : Place). p.cell) at.3 in
        let whole : 64 * i + q.1.cell ≡ at.0 = omega arith in
        cell_at i q.1.cell d low (omega arith) ∙ ap (λ (n : ℕ). get_or cells n free_cell) whole ∙ copy_is at.0 under ∙ ap (λ (x : ℕ × Place). copy x.0) at.2

    rest_at : (i : ℕ) (d : ℕ × List (List ℕ)) → i < length blocks → (j : ℕ) → j < 64 → ((q : ℕ × Place) → Contains v.won q → q.1.space ≡ space_of_age aged → q.1.block ≡ (get_or blocks i d).0 → q.1.cell ≢ j) → cell_of (get_or blocks i d).1 j ≡ free_cell
    rest_at i d low j inside apart =
        let ends = filled.ends in
        cell_at i j d low inside ∙ ⊎_elim
        (λ (under : 64 * i + j < used).
        let q : ℕ × Place = pair_at pairs (64 * i + j) in
        let held : Contains v.won q = All-get_or (Contains v.won) pairs (64 * i + j) (pair_at [] 0) (omega arith) (All-filter (λ (x : ℕ × Place). x.1.space == space_of_age aged) (Contains v.won) v.won (All-contains_itself v.won)) in
        let is_place = filled.order (64 * i + j) under in
        let block : (64 * i + j) / 64 ≡ i = omega arith in
        let cell : (64 * i + j) % 64 ≡ j = omega arith in
        absurd (apart q held (ap (λ (p : Place). p.space) is_place) (ap (λ (p : Place). p.block) is_place ∙ ap (λ (n : ℕ). get_or numbers n 0) block ∙ sym (number_at i d low)) (ap (λ (p : Place). p.cell) is_place ∙ cell)))
        (λ (past : used ≤ 64 * i + j). get_or_past cells (64 * i + j) free_cell (let e : length cells ≡ length pairs = ap length is ∙ length-map pairs (λ (q : ℕ × Place). copy q.0) in omega arith))
        (cases_lt (64 * i + j) used)

    pub have_copies : All (HasCopies (space_of_age aged) copy v.won) blocks
    have_copies i d low = record { copied = copied_at i d low; rest = rest_at i d low }

-- ---- the part

module _ (kind : Kind) (t : SpaceTable) (roots : List Root) (s : Sitting) (same_kind : s.kind ≡ kind) (places : All (λ q. IsPlace q.1 × (q.1.space < 2)) s.done.won)
    {n : ℕ} {aged old : List (List ℕ)} (copied : HasCopied kind t.spaces roots s.done.chunks s n aged old)
    (aged_numbers old_numbers : List ℕ) (aged_used old_used : ℕ) (aged_filled : AreFilled true s.done aged_numbers aged_used) (old_filled : AreFilled false s.done old_numbers old_used) where
  all_of_them : take n (wins_of s.done.won) ≡ wins_of s.done.won
  all_of_them = take_all n (wins_of s.done.won) (let e = copied.all in let l = length-map s.done.won win_of in omega arith)

  won_long : (space : ℕ) → length (won_in space (take n (wins_of s.done.won))) ≡ length (pairs_in space s.done.won)
  won_long space = ap (λ (ws : List Win). length (won_in space ws)) all_of_them ∙ ap length (wins_in space s.done.won places) ∙ length-map (pairs_in space s.done.won) win_of

  pub aged_room : length aged ≤ 2 ^ 26
  aged_room = let l = copied.copies.aged_long in let w = won_long 1 in let ends = aged_filled.ends in let few = aged_filled.few in omega arith

  pub old_room : length old ≤ 2 ^ 26
  old_room = let l = copied.copies.old_long in let w = won_long 0 in let ends = old_filled.ends in let few = old_filled.few in omega arith

  copies_are : (space : ℕ) (to : ℕ → Place) (cells : List (List ℕ)) → cells ≡ copies_to space s.kind t.spaces to (take n (wins_of s.done.won)) → cells ≡ map (λ (q : ℕ × Place). image_at kind t.spaces to q.0) (pairs_in space s.done.won)
  copies_are space to cells is =
      is ∙ ap (copies_to space s.kind t.spaces to) all_of_them ∙ ap (λ (k : Kind). copies_to space k t.spaces to (wins_of s.done.won)) same_kind
      ∙ ap (map (λ (w : Win). image_at kind t.spaces to w.cell)) (wins_in space s.done.won places) ∙ sym (map_twice (pairs_in space s.done.won))
    where
      map_twice : (l : List (ℕ × Place)) → map (λ (q : ℕ × Place). image_at kind t.spaces to q.0) l ≡ map (λ (w : Win). image_at kind t.spaces to w.cell) (wins_of l)
      map_twice [] = refl
      map_twice (q ∷ l) = ap (λ (r : List (List ℕ)). image_at kind t.spaces to q.0 ∷ r) (map_twice l)

  met_all : HasMetAll kind t.spaces roots s.done
  met_all = record {
    from_roots = copied.met;
    from_cells = λ k d low.
        let e = copied.all in
        let is : win_at (wins_of s.done.won) k ≡ win_of (get_or s.done.won k d) = get_or-map win_of s.done.won k d (win_at [] 0) low in
        subst (λ (kd : Kind). All (Contains (cells_met s.done)) (targets_of (from_space kd) t.spaces (get_or s.done.won k d).0)) same_kind
        (subst (λ (w : Win). All (Contains (cells_met s.done)) (targets_of (from_space s.kind) t.spaces w.cell)) is (copied.copies.met k (omega arith)));
  }

  owned_all : All (λ q. owns s.done q.1 ≡ true) s.done.won
  owned_all k d low =
      let q : ℕ × Place = get_or s.done.won k d in
      let held : Contains s.done.won q = All-get_or (Contains s.done.won) s.done.won k d low (All-contains_itself s.done.won) in
      let two = (places k d low).1 in
      ⊎_elim
      (λ (e : q.1.space ≡ 0). owns_at false s.done old_numbers old_used old_filled q held e)
      (λ (ne : q.1.space ≢ 0). owns_at true s.done aged_numbers aged_used aged_filled q held (let e : q.1.space ≡ 1 = omega arith in e))
      (cases_eq q.1.space 0)

  pub is_part : (aged_blocks old_blocks : Numbered) → AreLaidOut aged aged_numbers aged_blocks → AreLaidOut old old_numbers old_blocks →
      All (λ b. b < t.limits.space_blocks) aged_numbers → All (λ b. b < t.limits.space_blocks) old_numbers → IsPart kind t roots s.done aged_blocks old_blocks
  is_part aged_blocks old_blocks aged_laid old_laid aged_few old_few = record {
    met = met_all;
    owned = owned_all;
    aged_numbers = aged_laid.numbered ∙ aged_filled.same;
    old_numbers = old_laid.numbered ∙ old_filled.same;
    aged_few = subst (λ (l : List ℕ). All (λ b. b < t.limits.space_blocks) l) aged_filled.same aged_few;
    old_few = subst (λ (l : List ℕ). All (λ b. b < t.limits.space_blocks) l) old_filled.same old_few;
    images = λ _ _ to has_number. record {
      in_aged = have_copies true s.done aged_numbers aged_used aged_filled (image_at kind t.spaces to) aged_blocks aged aged_laid (copies_are 1 to aged (copied.copies.in_aged to has_number));
      in_old = have_copies false s.done old_numbers old_used old_filled (image_at kind t.spaces to) old_blocks old old_laid (copies_are 0 to old (copied.copies.in_old to has_number));
    };
  }

-- ---- refusals

-- where not all numbers are below the limit, one is past it
pub one_past : (limit : ℕ) (numbers : List ℕ) → list_all (λ b. nat_lt b limit) numbers ≡ false → (b : ℕ) × Contains numbers b × (limit ≤ b)
one_past limit [] h = absurd (let no : true ≡ false = h in cc)
one_past limit (b ∷ numbers) h = ⊎_elim
    (λ (low : b < limit).
    let t : nat_lt b limit ≡ true = grind (arith, nat_tests) in
    let rest : list_all (λ x. nat_lt x limit) numbers ≡ false = rw t at h in
    let found = one_past limit numbers rest in
    (found.0, Contains-append_right (b ∷ []) numbers found.0 found.1, found.2))
    (λ (past : limit ≤ b). (b, (0, omega arith, refl), past))
    (cases_lt b limit)

below : (limit b : ℕ) → nat_lt b limit ≡ true → b < limit
below limit b test = grind (arith, nat_tests)

-- each number is below the limit
pub all_below : (limit : ℕ) (numbers : List ℕ) → list_all (λ b. nat_lt b limit) numbers ≡ true → All (λ b. b < limit) numbers
all_below limit numbers all = λ k d inside. below limit _ (AllPass-from_list_all (λ b. nat_lt b limit) numbers all k d inside)

-- what two answers say of one value
pub parts_are : {A E : Type 0} (r : Result A E) {P Q R : A → Type 0} {B C : Type 0} → ((x : A) → P x → Q x → B → C → R x) → IfOk r P → IfOk r Q → OnOk r B → OnOk r C → IfOk r R
parts_are (Ok x) f p q b c = f x p q b c
parts_are (Err e) f p q b c = p

-- a number past the limit is one of a block that was claimed
pub past_limit : (limit : ℕ) (v : Record) (aged old : List ℕ) → aged ≡ v.aged_blocks → old ≡ v.old_blocks → (b : ℕ) × (Contains aged b ⊎ Contains old b) × (limit ≤ b) → HasClaimedPast limit v
past_limit limit v aged old in_aged in_old found =
    (found.0, ⊎_elim (λ (a : Contains aged found.0). inl (subst (λ (l : List ℕ). Contains l found.0) in_aged a)) (λ (o : Contains old found.0). inr (subst (λ (l : List ℕ). Contains l found.0) in_old o)) found.1, found.2)
