-- A seat: what it holds at first and after a claim, and what a walk sees of it.
use Rattle.std.proofs.Common.{◌≡◌, ◌≢◌, ℕ, suc, ◌-◌, ◌*◌, ◌^◌, ◌<◌, ◌≤◌, ◌==◌, ◌||◌, not, ◌++◌, List, [], ◌∷◌, Bool, true, false, length, get_or, map, refl, sym, ap, subst, ◌∙◌, eq-eqb, ⊎_elim, arith}
use Rattle.std.specs.List.{All, AllPairs, Contains, list_any}
use Rattle.std.specs.Prelude.{Result, IfErr, IfOk, OnOk, vec_capacity}
use Rattle.std.proofs.lemmas.Bool.{cases_eq, false≢true}
use Rattle.std.proofs.lemmas.List.{append-nil, get_or-map, length-map, length_push, map-append}
use Rattle.std.proofs.lemmas.List.Elements.{All-append, All-contains, All-map, All-nil, All-push, All-weaker, Contains-append_cases, Contains-append_left, Contains-append_right, Contains-get_or}
use Rattle.std.proofs.lemmas.List.Quantifiers.{all_pairs_push}
use Rattle.tg_word.specs.declared.Place.{Place}
use Rattle.tg_word.specs.Word.{IsPlace, place_in}
use Rattle.tg_space.specs.declared.kind.Kind.{Kind}
use Rattle.tg_race.specs.declared.record.Record.{Record}
use Rattle.tg_race.specs.Course.{has_met}
use Rattle.tg_race.specs.Race.{empty}
use Rattle.tg_race.specs.Seats.{Board, IsWordIn, Seated}
use Rattle.tg_race.specs.declared.race_table.CellWord.{CellWord}
use Rattle.tg_race.specs.Words.{space_of_age}
use Rattle.tg_evac.specs.Win.{Win}
use Rattle.tg_evac.specs.Claims.{IsWinFor, is_in, win_at, won_in}
use Rattle.tg_space.specs.declared.room_fault.RoomFault.{RoomFault}
use Rattle.tg_space.specs.declared.room_fault.RoomFault.TheVariants.{HeapFull}
use Rattle.tg_evac.specs.Claimers.{AddsWins, IsClaimLink}
use Rattle.tg_evac.specs.Walks.{ClaimsCell}
use Rattle.tg_parallel.specs.declared.own_blocks.OwnBlocks.{OwnBlocks}
use Rattle.tg_evac.specs.declared.both.Both.{Both}
use Rattle.tg_evac.specs.Lending.{with_one}
use Rattle.tg_parallel.specs.Parts.{HasClaimedPast, HasPlaceOf, HasPlaces, cells_met, win_of, wins_of}
use Rattle.tg_parallel.specs.Seats.{AreFilled, Finds, HasRoomFor, HasRoomForNumbers, IsSeatReady, IsSeat, KnowsNext, OtherStays, Sitting, StayFilled, pair_at, pairs_in, cells_used, walked_at}
use Rattle.tg_evac.proofs.Claiming.{distinct_map, few_numbers}
use Rattle.tg_evac.proofs.Copying.{map_found}
use Rattle.tg_parallel.proofs.Filled.{age_two}
use Rattle.tg_parallel.proofs.Lists.{all_left, any_has}
use Rattle.tg_parallel.proofs.Wins.{place_back}

-- ---- at first

pub filled_none : (aged : Bool) (numbers : List ℕ) → numbers ≡ [] → AreFilled aged (empty 1) numbers (cells_used aged (empty 1))
filled_none aged numbers none = rw none (by_space aged)
  where
    by_space : (a : Bool) → AreFilled a (empty 1) [] (cells_used a (empty 1))
    by_space true = record { same = refl; rising = λ i j lt low. absurd (omega arith); room = omega arith; close = omega arith; few = omega arith; ends = refl; order = λ k low. absurd (omega arith); many = λ i n low few le. absurd (omega arith) }
    by_space false = record { same = refl; rising = λ i j lt low. absurd (omega arith); room = omega arith; close = omega arith; few = omega arith; ends = refl; order = λ k low. absurd (omega arith); many = λ i n low few le. absurd (omega arith) }

-- no place is left, and no block is past the limit
pub knows_none : (limit : ℕ) (b : OwnBlocks) → b.numbers.items ≡ [] → b.next ≡ b.end → b.is_past ≡ false → KnowsNext limit (empty 1) b
knows_none limit b none next within = record {
  some = λ ne. absurd (ne next);
  none = λ e w. rw none refl;
  past = λ past. absurd (false≢true (sym within ∙ past));
}

-- ---- what was won

-- cells between two bounds that differ are no more than there are
few_between : (low high : ℕ) (won : List (ℕ × Place)) → AllPairs (λ q r. q.0 ≢ r.0) won → All (λ q. low ≤ q.0) won → All (λ q. q.0 < high) won → length won ≤ high - low
few_between low high won differ above below =
    let f = λ (q : ℕ × Place). q.0 in
    let long = length-map won f in
    let few = few_numbers low high (map f won) (distinct_map f won (pair_at [] 0) differ) (λ n held.
    let found = map_found f won n held in
    subst (λ (m : ℕ). (low ≤ m) × (m < high)) found.2 (All-contains (λ (x : ℕ × Place). low ≤ x.0) won found.0 above found.1, All-contains (λ (x : ℕ × Place). x.0 < high) won found.0 below found.1)) in
    omega arith

-- the pairs of a space are those of the collection
pub wins_in : (s : ℕ) (won : List (ℕ × Place)) → All (λ q. IsPlace q.1 × (q.1.space < 2)) won → won_in s (wins_of won) ≡ wins_of (pairs_in s won)
wins_in s [] all = refl
wins_in s (q ∷ won) all =
    let rest = wins_in s won (λ k d low. all (suc k) d (omega arith)) in
    let here : is_in s (win_of q) ≡ (q.1.space == s) = ap (λ (p : Place). p.space == s) (place_back q.1 (all 0 q (omega arith)).0) in
    go (q.1.space == s) refl here rest
  where
    go : (b : Bool) → (q.1.space == s) ≡ b → is_in s (win_of q) ≡ (q.1.space == s) → won_in s (wins_of won) ≡ wins_of (pairs_in s won) → won_in s (wins_of (q ∷ won)) ≡ wins_of (pairs_in s (q ∷ won))
    go true e here rest = rw (here ∙ e, e) (ap (λ (l : List Win). win_of q ∷ l) rest)
    go false e here rest = rw (here ∙ e, e) rest

module _ (limit : ℕ) (board : Board) (helper : Seated) (aged old : OwnBlocks) (seat : IsSeat limit board helper aged old) where
  abbrev won : List (ℕ × Place)
  won = helper.done.won

  -- no more cells were won than there are
  pub won_few : length won ≤ board.counts.cells
  won_few = let few = few_between (64 * board.counts.kept) board.counts.cells won seat.differ seat.behind seat.inside in omega arith

  -- nor more of either space than it has room for
  pub won_room : (space : ℕ) → space < 2 → length (won_in space (wins_of won)) ≤ 2 ^ 26
  won_room space two =
      let long : length (won_in space (wins_of won)) ≡ length (pairs_in space won) = ap length (wins_in space won seat.places) ∙ length-map (pairs_in space won) win_of in
      ⊎_elim
      (λ (e : space ≡ 0). (let here : length (pairs_in space won) ≡ cells_used false helper.done = ap (λ (s : ℕ). length (pairs_in s won)) e in let few = seat.in_old.few in omega arith))
      (λ (ne : space ≢ 0). (let e : space ≡ 1 = omega arith in let here : length (pairs_in space won) ≡ cells_used true helper.done = ap (λ (s : ℕ). length (pairs_in s won)) e in let few = seat.in_aged.few in omega arith))
      (cases_eq space 0)

  win_is : (k : ℕ) → k < length won → win_at (wins_of won) k ≡ win_of (pair_at won k)
  win_is k low = get_or-map win_of won k (pair_at [] 0) (win_at [] 0) low

  pub pair_inside : (k : ℕ) → k < length won → (win_at (wins_of won) k).cell < board.counts.cells
  pair_inside k low = subst (λ (w : Win). w.cell < board.counts.cells) (sym (win_is k low)) (seat.inside k (pair_at [] 0) low)

  pub pair_two : (k : ℕ) → k < length won → (place_in (win_at (wins_of won) k).word).space < 2
  pair_two k low =
      let at = seat.places k (pair_at [] 0) low in
      subst (λ (w : Win). (place_in w.word).space < 2) (sym (win_is k low)) (subst (λ (p : Place). p.space < 2) (sym (place_back (pair_at won k).1 at.0)) at.1)

-- ---- after a claim

pub which : (space : ℕ) → space < 2 → (a : Bool) × (space ≡ space_of_age a)
which space two = ⊎_elim
    (λ (e : space ≡ 0). (false, e))
    (λ (ne : space ≢ 0). (true, (let e : space ≡ 1 = omega arith in e)))
    (cases_eq space 0)

module _ (cell : ℕ) (aged : Bool) (v w : Record) (finds : Finds cell aged v w) where
  pub grows_more : (to : ℕ → Place) → HasPlaces w to → HasPlaces v to
  grows_more to has = record {
    won = all_left (HasPlaceOf to) v.won finds.won (subst (λ (l : List (ℕ × Place)). All (HasPlaceOf to) l) finds.is_won has.won);
    seen = all_left (HasPlaceOf to) v.seen finds.seen (subst (λ (l : List (ℕ × Place)). All (HasPlaceOf to) l) finds.is_seen has.seen);
  }

  still_has : (c : ℕ) → Contains (cells_met v) c → Contains (cells_met w) c
  still_has c held =
      let f = λ (q : ℕ × Place). q.0 in
      let one : map f w.won ≡ map f v.won ++ map f finds.won = ap (map f) finds.is_won ∙ map-append f v.won finds.won in
      let two : map f w.seen ≡ map f v.seen ++ map f finds.seen = ap (map f) finds.is_seen ∙ map-append f v.seen finds.seen in
      ⊎_elim
      (λ (here : Contains (map f v.won) c). Contains-append_left (map f w.won) (map f w.seen) c (subst (λ (l : List ℕ). Contains l c) (sym one) (Contains-append_left (map f v.won) (map f finds.won) c here)))
      (λ (here : Contains (map f v.seen) c). Contains-append_right (map f w.won) (map f w.seen) c (subst (λ (l : List ℕ). Contains l c) (sym two) (Contains-append_left (map f v.seen) (map f finds.seen) c here)))
      (Contains-append_cases (map f v.won) (map f v.seen) c held)

  pub adds_found : (kind : Kind) (limit : ℕ) (board : Board) (space : ℕ) → space ≡ space_of_age aged → AddsWins (IsWinFor cell space) (walked_at (record { kind = kind; limit = limit; board = board; done = v })) (walked_at (record { kind = kind; limit = limit; board = board; done = w }))
  adds_found kind limit board space right = record {
    added = wins_of finds.won;
    is = ap wins_of finds.is_won ∙ map-append win_of v.won finds.won;
    reasons = All-map (IsWinFor cell space) win_of finds.won
        (All-weaker (λ (q : ℕ × Place). (q.0 ≡ cell) × (q.1.space ≡ space_of_age aged) × IsPlace q.1) (λ (q : ℕ × Place). IsWinFor cell space (win_of q))
        (λ q r. record { number = r.0; to = ap (λ (p : Place). p.space) (place_back q.1 r.2) ∙ r.1 ∙ sym right }) finds.won finds.reasons);
    still = still_has;
    same_kind = refl;
    same_kept = refl;
    same_room = refl;
    as_many = refl;
    same_fixed = λ i. (board, finds.chunks i, finds.share i);
  }

-- a place that was given from blocks of the right age is a claim of the cell
pub claims_cell : (cell space : ℕ) (kind : Kind) (limit : ℕ) (board : Board) (v w : Record) (before : Sitting) (a : Bool) (result : Result ℕ RoomFault) → record { kind = kind; limit = limit; board = board; done = v } ≡ before → space ≡ space_of_age a → Finds cell a v w
    → OnOk result (Contains (cells_met w) cell) → IfOk result (λ word. (to : ℕ → Place) → HasPlaces w to → to cell ≡ place_in word) → IfOk result IsClaimLink → IfErr result (λ fault. fault ≡ HeapFull → HasClaimedPast limit w)
    → ClaimsCell walked_at (λ s. HasPlaces s.done) (λ s. HasClaimedPast s.limit s.done) cell space before (record { kind = kind; limit = limit; board = board; done = w }) result
claims_cell cell space kind limit board v w before a result same right finds met known link full =
    let after : Sitting = record { kind = kind; limit = limit; board = board; done = w } in
    record {
      added = subst (λ (x : Sitting). AddsWins (IsWinFor cell space) (walked_at x) (walked_at after)) same (adds_found cell a v w finds kind limit board space right);
      grows = λ to has. subst (λ (x : Sitting). HasPlaces x.done to) same (grows_more cell a v w finds to has);
      met = met;
      known = known;
      link = link;
      full = full;
    }

-- the won cells differ still
module _ (cell : ℕ) (v : Record) (unmet : has_met v cell ≡ false) where
  pub not_won : (q : ℕ × Place) → Contains v.won q → q.0 ≢ cell
  not_won q held e =
      let mine : list_any (λ (x : ℕ × Place). x.0 == cell) v.won ≡ true = any_has (λ (x : ℕ × Place). x.0 == cell) v.won q held (eq-eqb q.0 cell e) in
      false≢true (sym unmet ∙ ap (λ (b : Bool). b || list_any (λ (x : ℕ × Place). x.0 == cell) v.seen) mine)

  pub differ_more : (more : List (ℕ × Place)) → length more ≤ 1 → All (λ q. q.0 ≡ cell) more → AllPairs (λ q r. q.0 ≢ r.0) v.won → AllPairs (λ q r. q.0 ≢ r.0) (v.won ++ more)
  differ_more [] one all differ = subst (λ (l : List (ℕ × Place)). AllPairs (λ q r. q.0 ≢ r.0) l) (sym (append-nil v.won)) differ
  differ_more (p ∷ []) one all differ = all_pairs_push (λ (q r : ℕ × Place). q.0 ≢ r.0) v.won p differ (λ k d low e. not_won (get_or v.won k d) (Contains-get_or v.won k d low) (e ∙ all 0 p (omega arith)))
  differ_more (p ∷ q ∷ more) one all differ = absurd (omega arith)

-- there is a word for one more cell that isn't met
pub room_for : (limit : ℕ) (board : Board) (helper : Seated) (aged old : OwnBlocks) → IsSeat limit board helper aged old → (at : CellWord) → IsWordIn board at → has_met helper.done at.cell ≡ false → HasRoomFor board at.cell helper
room_for limit board helper aged old seat at word unmet =
    let v = helper.done in
    let kept = 64 * board.counts.kept in
    let q : ℕ × Place = (at.cell, record { space = 0; block = 0; cell = 0 }) in
    let small = seat.small in
    let inside = word.inside in
    let whole = seat.whole in
    let long = length_push v.won q in
    let few : length (v.won ++ q ∷ []) ≤ board.counts.cells - kept = few_between kept board.counts.cells (v.won ++ q ∷ [])
    (differ_more at.cell v unmet (q ∷ []) (omega arith) (All-push (λ (x : ℕ × Place). x.0 ≡ at.cell) [] q (All-nil (λ (x : ℕ × Place). x.0 ≡ at.cell)) refl) seat.differ)
    (All-push (λ (x : ℕ × Place). kept ≤ x.0) v.won q seat.behind word.moved)
    (All-push (λ (x : ℕ × Place). x.0 < board.counts.cells) v.won q seat.inside inside) in
    record { small = omega arith; room = omega arith }

-- what is known of the next place depends on the record through how many were given away alone
knows_still : (limit : ℕ) (v w : Record) (b : OwnBlocks) → cells_used b.aged w ≡ cells_used b.aged v → KnowsNext limit v b → KnowsNext limit w b
knows_still limit v w b same next = record {
  some = λ ne. subst (λ (used : ℕ). IsSeatReady used b) (sym same) (next.some ne);
  none = λ e within. same ∙ next.none e within;
  past = next.past;
}

module _ (limit : ℕ) (board : Board) (before after : Seated) (aged old : OwnBlocks) (seat : IsSeat limit board before aged old) (same : after.table ≡ before.table)
    (at : CellWord) (word : IsWordIn board at) (unmet : has_met before.done at.cell ≡ false) where
  abbrev cell : ℕ
  cell = at.cell

  module _ (a : Bool) (finds : Finds cell a before.done after.done) where
    differ_now : AllPairs (λ q r. q.0 ≢ r.0) after.done.won
    differ_now = subst (λ (l : List (ℕ × Place)). AllPairs (λ q r. q.0 ≢ r.0) l) (sym finds.is_won)
        (differ_more cell before.done unmet finds.won finds.one (All-weaker (λ (q : ℕ × Place). (q.0 ≡ cell) × (q.1.space ≡ space_of_age a) × IsPlace q.1) (λ (q : ℕ × Place). q.0 ≡ cell) (λ q r. r.0) finds.won finds.reasons) seat.differ)

    all_now : (P : ℕ × Place → Type 0) → All P before.done.won → ((q : ℕ × Place) → (q.0 ≡ cell) × (q.1.space ≡ space_of_age a) × IsPlace q.1 → P q) → All P after.done.won
    all_now P was new = subst (λ (l : List (ℕ × Place)). All P l) (sym finds.is_won) (All-append P before.done.won finds.won was (All-weaker (λ (q : ℕ × Place). (q.0 ≡ cell) × (q.1.space ≡ space_of_age a) × IsPlace q.1) P new finds.won finds.reasons))

    places_now : All (λ q. IsPlace q.1 × (q.1.space < 2)) after.done.won
    places_now = all_now (λ (q : ℕ × Place). IsPlace q.1 × (q.1.space < 2)) seat.places (λ q r. (r.2, (let e = r.1 in let t = age_two a in omega arith)))

    inside_now : All (λ q. q.0 < board.counts.cells) after.done.won
    inside_now = all_now (λ (q : ℕ × Place). q.0 < board.counts.cells) seat.inside (λ q r. (let e = r.0 in let low = word.inside in omega arith))

    behind_now : All (λ q. 64 * board.counts.kept ≤ q.0) after.done.won
    behind_now = all_now (λ (q : ℕ × Place). 64 * board.counts.kept ≤ q.0) seat.behind (λ q r. (let e = r.0 in let low = word.moved in omega arith))

    seat_now : (first second : OwnBlocks) → first.aged ≡ true → second.aged ≡ false → AreFilled true after.done first.numbers.items (cells_used true after.done) → AreFilled false after.done second.numbers.items (cells_used false after.done) → KnowsNext limit after.done first → KnowsNext limit after.done second → HasRoomForNumbers board.table.id.words first → HasRoomForNumbers board.table.id.words second → IsSeat limit board after first second
    seat_now first second is_aged is_old in_aged in_old aged_next old_next aged_room old_room =
        record { own = same ∙ seat.own; few = seat.few; small = seat.small; whole = seat.whole; differ = differ_now; inside = inside_now; behind = behind_now; places = places_now; is_aged = is_aged; is_old = is_old; in_aged = in_aged; in_old = in_old; aged_next = aged_next; old_next = old_next; aged_room = aged_room; old_room = old_room }

  -- the blocks of the other space are filled as they were
  other_filled : (a : Bool) (b : OwnBlocks) → b.aged ≡ not a → AreFilled (not a) before.done b.numbers.items (cells_used (not a) before.done) → KnowsNext limit before.done b → OtherStays a before.done after.done → AreFilled (not a) after.done b.numbers.items (cells_used (not a) after.done) × KnowsNext limit after.done b
  other_filled a b is filled next other =
      let now = other b.numbers.items (cells_used (not a) before.done) filled in
      (subst (λ (used : ℕ). AreFilled (not a) after.done b.numbers.items used) (sym now.ends) now, knows_still limit before.done after.done b (rw is now.ends) next)

  pub seat_aged : (now : OwnBlocks) → now.aged ≡ aged.aged → vec_capacity now.numbers ≡ vec_capacity aged.numbers → Finds cell aged.aged before.done after.done → AreFilled aged.aged after.done now.numbers.items (cells_used aged.aged after.done) → OtherStays aged.aged before.done after.done → KnowsNext limit after.done now → IsSeat limit board after now old
  seat_aged now space room finds filled other next =
      let rest = other_filled true old seat.is_old seat.in_old seat.old_next (subst (λ (a : Bool). OtherStays a before.done after.done) seat.is_aged other) in
      seat_now aged.aged finds now old (space ∙ seat.is_aged) seat.is_old (subst (λ (a : Bool). AreFilled a after.done now.numbers.items (cells_used a after.done)) seat.is_aged filled) rest.0 next rest.1 (let was = seat.aged_room in omega arith) seat.old_room

  pub seat_old : (now : OwnBlocks) → now.aged ≡ old.aged → vec_capacity now.numbers ≡ vec_capacity old.numbers → Finds cell old.aged before.done after.done → AreFilled old.aged after.done now.numbers.items (cells_used old.aged after.done) → OtherStays old.aged before.done after.done → KnowsNext limit after.done now → IsSeat limit board after aged now
  seat_old now space room finds filled other next =
      let rest = other_filled false aged seat.is_aged seat.in_aged seat.aged_next (subst (λ (a : Bool). OtherStays a before.done after.done) seat.is_old other) in
      seat_now old.aged finds aged now seat.is_aged (space ∙ seat.is_old) rest.0 (subst (λ (a : Bool). AreFilled a after.done now.numbers.items (cells_used a after.done)) seat.is_old filled) rest.1 next seat.aged_room (let was = seat.old_room in omega arith)

-- blocks of the space that is asked for are of the right age
pub right_age : (space : ℕ) → space < 2 → (was aged old : OwnBlocks) → aged.aged ≡ true → old.aged ≡ false → ((space == 0) ≡ true → was ≡ old) → ((space == 0) ≡ false → was ≡ aged) → space ≡ space_of_age was.aged
right_age space two was aged old is_aged is_old first second = ⊎_elim
    (λ (e : space ≡ 0). e ∙ ap space_of_age (sym (ap (λ (b : OwnBlocks). b.aged) (first (eq-eqb space 0 e)) ∙ is_old)))
    (λ (ne : space ≢ 0). let e : space ≡ 1 = omega arith in e ∙ ap space_of_age (sym (ap (λ (b : OwnBlocks). b.aged) (second (rw e refl)) ∙ is_aged)))
    (cases_eq space 0)

-- it is a seat still, whichever blocks a place was given from
pub seat_given : (limit : ℕ) (board : Board) (before after : Seated) (both : Both OwnBlocks) → IsSeat limit board before both.aged.now both.old.now → (at : CellWord) → IsWordIn board at → has_met before.done at.cell ≡ false
    → (a : Bool) (was now : OwnBlocks) → (a ≡ true → was ≡ both.old.now) → (a ≡ false → was ≡ both.aged.now) → StayFilled was before now after → Finds at.cell was.aged before.done after.done → KnowsNext limit after.done now
    → IsSeat limit board after (with_one both a now).aged.now (with_one both a now).old.now
seat_given limit board before after both seat at word unmet true was now first second stay finds next =
    let is = first refl in
    let kept = subst (λ (b : OwnBlocks). StayFilled b before now after) is stay in
    seat_old limit board before after both.aged.now both.old.now seat stay.seat at word unmet now kept.space kept.room (subst (λ (b : OwnBlocks). Finds at.cell b.aged before.done after.done) is finds) kept.filled kept.other next
seat_given limit board before after both seat at word unmet false was now first second stay finds next =
    let is = second refl in
    let kept = subst (λ (b : OwnBlocks). StayFilled b before now after) is stay in
    seat_aged limit board before after both.aged.now both.old.now seat stay.seat at word unmet now kept.space kept.room (subst (λ (b : OwnBlocks). Finds at.cell b.aged before.done after.done) is finds) kept.filled kept.other next

-- what is asked of a seat is known of what it is seen as
pub asked : (at : CellWord) (seen now : Sitting) → seen ≡ now → IsWordIn now.board at → has_met now.done at.cell ≡ false → IsWordIn seen.board at × (has_met seen.done at.cell ≡ false)
asked at seen now is word unmet = (subst (λ (x : Sitting). IsWordIn x.board at) (sym is) word, subst (λ (x : Sitting). has_met x.done at.cell ≡ false) (sym is) unmet)
