-- Won pairs and the words: each won pair is in the table, and each place in the table was won.
use Rattle.std.proofs.Common.{◌≡◌, ◌≢◌, ◌↔◌, ℕ, zero, suc, ◌+◌, ◌*◌, ◌<◌, ◌≤◌, ◌==◌, ◌&&◌, List, [], ◌∷◌, length, get_or, slice_index, Bool, true, false, if◌then◌else◌, IsTrue, eqb, eqb-true, eq-eqb, ne_eqb, sym, refl, ap, subst, ◌∙◌, ⊎_elim, arith}
use Rattle.std.proofs.lemmas.Bool.{cond-true, cond-false, and_parts, or_cases, eqb-false, false_from_ne_true, cases_lt}
use Rattle.std.specs.List.{All, list_any}
use Rattle.tg_word.specs.declared.Place.{Place}
use Rattle.tg_word.specs.Word.{IsPlace}
use Rattle.tg_race.specs.declared.record.Counts.{Counts}
use Rattle.tg_race.specs.declared.record.Record.{Record}
use Rattle.tg_race.specs.Weights.{weigh, weigh_below, one_at}
use Rattle.tg_race.specs.Words.{place_word, place_of, same_place, same_pair, has_pair, weigh_words, IsPair, AGED, OLD}
use Rattle.tg_race.specs.Race.{Race, Rule, EachRecord, IsDrawn, has_number, with_room}
use Rattle.tg_race.specs.Board.{IsClosedTable}
use Rattle.tg_race.specs.Course.{has_met}
use mathlib.Core.Option.{some}
use lib.ListN.{get_elem?}
use Rattle.tg_race.proofs.PlaceWords.{place_of-word_of, word_of-some}
use Rattle.tg_race.proofs.Sums.{weigh_one_le, weigh_ones, one_below, any_all, any_weighs, weighs_any}
use Rattle.tg_race.proofs.Steps.{same_place_is, aged_few, blocks_filled, in_space, old_few}
use Rattle.tg_race.proofs.Drawn.{drawn_above}

-- the weight under which a list of pairs weighs as often as it has the pair
abbrev pub pair_at : ℕ → Place → ℕ × Place → ℕ
pair_at c p q = if same_pair c p q then 1 else 0

pub same_place_self : (p : Place) → same_place p p ≡ true
same_place_self p =
    λ i. eq-eqb p.space p.space refl i && (eq-eqb p.block p.block refl i && eq-eqb p.cell p.cell refl i)

-- a cell whose word is not 0 and whose pair passes the test; i is the cell of the first word
pub record Passes (f : ℕ × Place → Bool) (i : ℕ) (ws : List ℕ) : Type 0 where
  pub at : ℕ
  pub cell : ℕ
  pub is : cell ≡ i + at
  pub inside : at < length ws
  pub taken : get_or ws at 0 ≢ 0
  pub passes : f (cell, place_of (get_or ws at 0)) ≡ true

passes_later : (f : ℕ × Place → Bool) (i w : ℕ) (ws : List ℕ) → Passes f (suc i) ws → Passes f i (w ∷ ws)
passes_later f i w ws p = record {
  at = suc p.at;
  cell = p.cell;
  is = let e = p.is in omega arith;
  inside = let e = p.inside in omega arith;
  taken = p.taken;
  passes = p.passes;
}

-- where the pairs of the words that pass a test weigh anything, there is one
pub weighed_passes : (f : ℕ × Place → Bool) (i : ℕ) (ws : List ℕ) → 0 < weigh_words (λ q. if f q then 1 else 0) i ws → Passes f i ws
weighed_passes f i [] some_ = absurd (omega arith)
weighed_passes f i (w ∷ ws) some_ = go (w == 0) refl (f (i, place_of w)) refl some_ (weighed_passes f (suc i) ws)
  where
    rest : ℕ
    rest = weigh_words (λ q. if f q then 1 else 0) (suc i) ws

    go : (b : Bool) → (w == 0) ≡ b → (d : Bool) → f (i, place_of w) ≡ d → 0 < (if b then 0 else if d then 1 else 0) + rest → (0 < rest → Passes f (suc i) ws) → Passes f i (w ∷ ws)
    go false z true e h more = record { at = 0; cell = i; is = omega arith; inside = omega arith; taken = eqb-false w 0 z; passes = e }
    go other z d e h more = passes_later f i w ws (more (omega arith))

-- a place in the table weighs
pub taken_pair : (n i c : ℕ) (p : Place) (ws : List ℕ) → n ≡ i + c → get_or ws c 0 ≡ place_word p → IsPlace p → 0 < weigh_words (pair_at n p) i ws
taken_pair n i c p [] is here inside = absurd (word_of-some p (sym here))
taken_pair n i zero p (w ∷ ws) is here inside =
    let some_ : w ≢ 0 = λ none. word_of-some p (sym here ∙ none) in
    let back : place_of w ≡ p = ap place_of here ∙ place_of-word_of p inside in
    let test : same_pair n p (i, place_of w) ≡ true = λ j. eq-eqb i n (let e : i ≡ n = omega arith in e) j && (ap (λ (x : Place). same_place x p) back ∙ same_place_self p) j in
    omega (arith, cond-false (eqb w 0) 0 (pair_at n p (i, place_of w)) (ne_eqb w 0 some_), cond-true {A = ℕ} (same_pair n p (i, place_of w)) 1 0 test)
taken_pair n i (suc c) p (w ∷ ws) is here inside = omega (arith, taken_pair n (suc i) c p ws (omega arith) here inside)

-- a pair of the list is in the words, where all of it do
pub seen_at : (words : List ℕ) (l : List (ℕ × Place)) (c : ℕ) (p : Place) → All (IsPair words) l → IsTrue (has_pair c p l) → slice_index words c ≡ place_word p
seen_at words l c p all h =
    let q = any_all (IsPair words) (same_pair c p) l all h in
    let test = and_parts (q.0.0 == c) (same_place q.0.1 p) q.1 in
    ap (λ (n : ℕ). get_or words n 0) (sym (eqb-true q.0.0 c test.0)) ∙ (q.2 ∙ ap place_word (same_place_is q.0.1 p test.1))

-- a pair that a record has won is in the table, with a place in range
won_pair : (k : Counts) (r : Race) → Rule k r → EachRecord (λ v. (cell : ℕ) (p : Place) → IsTrue (has_pair cell p v.won) → (slice_index r.words cell ≡ place_word p) × IsPlace p) r.records
won_pair k r rule id v at cell p won =
    let mine = any_weighs (same_pair cell p) v.won won in
    let one = weigh_one_le (λ u. weigh (pair_at cell p) u.won) r.records id v at in
    let all = rule.wins_once.won (pair_at cell p) in
    let found = weighed_passes (same_pair cell p) 0 r.words (omega arith) in
    let w : ℕ = get_or r.words found.at 0 in
    let test = and_parts (found.cell == cell) (same_place (place_of w) p) found.passes in
    let is : found.at ≡ cell = (let here = eqb-true found.cell cell test.0 in let e = found.is in omega arith) in
    let forward = rule.wins_once.forward found.at 0 found.inside found.taken in (
      ap (λ (n : ℕ). get_or r.words n 0) (sym is) ∙ (sym forward.1 ∙ ap place_word (same_place_is (place_of w) p test.1)),
      subst (λ (q : Place). IsPlace q) (same_place_is (place_of w) p test.1) forward.0,
    )

pub won_stands : (k : Counts) (r : Race) → Rule k r → EachRecord (λ v. (cell : ℕ) (p : Place) → IsTrue (has_pair cell p v.won) → slice_index r.words cell ≡ place_word p) r.records
won_stands k r rule id v at cell p won = (won_pair k r rule id v at cell p won).0

pub won_place : (k : Counts) (r : Race) → Rule k r → EachRecord (λ v. (cell : ℕ) (p : Place) → IsTrue (has_pair cell p v.won) → IsPlace p) r.records
won_place k r rule id v at cell p won = (won_pair k r rule id v at cell p won).1

-- a seen cell has a word
seen_taken : (words : List ℕ) (c : ℕ) (l : List (ℕ × Place)) → All (IsPair words) l → list_any (λ q. q.0 == c) l ≡ true → get_or words c 0 ≢ 0
seen_taken words c l all h none =
    let q = any_all (IsPair words) (λ (x : ℕ × Place). x.0 == c) l all h in
    word_of-some q.0.1 (sym q.2 ∙ (ap (λ (n : ℕ). get_or words n 0) (eqb-true q.0.0 c q.1) ∙ none))

-- the word of a cell that a record has met isn't 0
pub met_taken : (k : Counts) (r : Race) → Rule k r → (id : ℕ) (v : Record) → get_elem? r.records id ≡ some v → (c : ℕ) → has_met v c ≡ true → get_or r.words c 0 ≢ 0
met_taken k r rule id v at c met none = ⊎_elim
    (λ e.
    let mine = any_weighs (λ (q : ℕ × Place). q.0 == c) v.won e in
    let one = weigh_one_le (λ (u : Record). weigh (λ (q : ℕ × Place). if q.0 == c then 1 else 0) u.won) r.records id v at in
    let all = rule.wins_once.won (λ (q : ℕ × Place). if q.0 == c then 1 else 0) in
    let found = weighed_passes (λ (q : ℕ × Place). q.0 == c) 0 r.words (omega arith) in
    let is : found.at ≡ c = (let here = eqb-true found.cell c found.passes in let e = found.is in omega arith) in
    found.taken (ap (λ (n : ℕ). get_or r.words n 0) is ∙ none))
    (λ h. seen_taken r.words c v.seen (rule.seen_stands id v at) h none)
    (or_cases (list_any (λ (q : ℕ × Place). q.0 == c) v.won) (list_any (λ (q : ℕ × Place). q.0 == c) v.seen) met)

pub unmet : (k : Counts) (r : Race) → Rule k r → (id : ℕ) (v : Record) → get_elem? r.records id ≡ some v → (c : ℕ) → get_or r.words c 0 ≡ 0 → has_met v c ≡ false
unmet k r rule id v at c none = false_from_ne_true (has_met v c) (λ e. met_taken k r rule id v at c e none)

-- the places in a closed table are those of the pairs that were won
pub closed_pairs : (k : Counts) (words : List ℕ) (done : Record) → IsClosedTable k words done → (cell : ℕ) (p : Place) → IsPlace p → (slice_index words cell ≡ place_word p) ↔ IsTrue (has_pair cell p done.won)
closed_pairs k words done closed cell p inside =
    let all = closed.rule.wins_once.won (pair_at cell p) in
    ((λ here. weighs_any (same_pair cell p) done.won (omega (arith, taken_pair cell 0 cell p words (omega arith) here inside))), won_stands k _ closed.rule 0 done refl cell p)

-- a number that the one record has drawn is below the counter
pub closed_below : (start counter b : ℕ) (of : Record → List ℕ) (done : Record) → IsDrawn start counter of (done ∷ []) → list_any (λ x. x == b) (of done) ≡ true → b < counter
closed_below start counter b of done drawn mine =
    let some_ = any_weighs (λ (x : ℕ). x == b) (of done) mine in
    ⊎_elim (λ lt. lt) (λ (le : counter ≤ b). absurd (let none = drawn_above start counter of (done ∷ []) drawn b le in omega arith)) (cases_lt b counter)

-- the blocks that were claimed in a closed table are few
pub closed_aged_few : (k : Counts) (words : List ℕ) (done : Record) → IsClosedTable k words done → (b : ℕ) → IsTrue (has_number b done.aged_blocks) → 64 * (b + 1) ≤ 64 * k.helpers + length done.won
closed_aged_few k words done closed b mine = let below = closed_below 0 closed.next_aged b (λ v. v.aged_blocks) done closed.rule.blocks_once.0 mine in omega (arith, aged_few k _ closed.rule)

pub closed_old_few : (k : Counts) (words : List ℕ) (done : Record) → IsClosedTable k words done → (b : ℕ) → IsTrue (has_number b done.old_blocks) → 64 * (b + 1) ≤ 64 * (k.kept + k.helpers) + length done.won
closed_old_few k words done closed b mine = let below = closed_below k.kept closed.next_old b (λ v. v.old_blocks) done closed.rule.blocks_once.1 mine in omega (arith, old_few k _ closed.rule)

-- they are full of the copies in their space, but for one a helper
module _ (k : Counts) (words : List ℕ) (done : Record) (closed : IsClosedTable k words done) where
  filled : (space start counter : ℕ) (bs : List ℕ) → ((h : ℕ → ℕ) → weigh_below h start + weigh h bs ≡ weigh_below h counter) → with_room space done.won bs ≤ done.share → 64 * length bs ≤ 64 * k.helpers + in_space space done.won
  filled space start counter bs drawn few_open =
      let once : (b : ℕ) → weigh (one_at b) bs ≤ 1 = λ b. (let all = drawn (one_at b) in omega (arith, one_below b counter)) in
      let share = closed.rule.within_share.1 in
      omega (arith, blocks_filled space bs done.won once, weigh_ones bs)

  pub closed_aged_filled : 64 * length done.aged_blocks ≤ 64 * k.helpers + in_space AGED done.won
  closed_aged_filled = filled AGED 0 closed.next_aged done.aged_blocks (λ h. let all = closed.rule.blocks_once.0 h in omega arith) (closed.rule.within_share.0 0 done refl).aged_room

  pub closed_old_filled : 64 * length done.old_blocks ≤ 64 * k.helpers + in_space OLD done.won
  closed_old_filled = filled OLD k.kept closed.next_old done.old_blocks (λ h. let all = closed.rule.blocks_once.1 h in omega arith) (closed.rule.within_share.0 0 done refl).old_room
