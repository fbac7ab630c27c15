-- Each step on the table keeps the rule.
use Rattle.std.proofs.Common.{true, false, ◌≡◌, ◌≢◌, ℕ, zero, suc, ◌+◌, ◌-◌, ◌%◌, ◌^◌, ◌<◌, ◌==◌, List, [], ◌∷◌, ◌++◌, length, map, replicate, get_or, drop, set, slice_index, eqb, eq-eqb, ne_eqb, sym, refl, ap, ◌∙◌, subst, ⊎_elim, mod-eq_of_lt, arith}
use Rattle.std.proofs.lemmas.Bool.{cond-true, cond-false, cases_eq}
use mathlib.Core.Option.{some, some-injective, some-ne-none, none}
use lib.ListN.{get_elem?}
use prog.Atomic.{either}
use Rattle.atomic_table.specs.Table.{State, Me, step, Act, keeps, Allows, Splits, Joins, stepped, Valid, carried_after, opening, Final, Seen}
use Rattle.std.proofs.lemmas.List.{get_or-append-add, length-replicate, map-append, map-set, replicate-append-replicate, set-append_right, set-get_or}
use Rattle.std.proofs.lemmas.List.Elements.{All-append, All-cons, All-head, All-nil, All-set, All-tail}
use Rattle.atomic_table.proofs.Lists.{at_map, exchanged, set_again}
use Rattle.tg_race.specs.declared.record.Counts.{Counts}
use Rattle.tg_race.specs.declared.plays.View.{View}
use Rattle.tg_race.specs.declared.record.Record.{Record}
use Rattle.tg_word.specs.declared.Place.{Place}
use Rattle.tg_word.specs.Word.{IsPlace}
use Rattle.tg_race.specs.Words.{place_word, place_of, IsForward}
use Rattle.tg_race.proofs.PlaceWords.{place_of-word_of}
use Rattle.tg_race.specs.Weights.{weigh}
use Rattle.std.specs.List.{All}
use Rattle.std.proofs.Common.{inl, inr}
use Rattle.tg_race.proofs.Drawn.{drawn_under}
use Rattle.tg_race.proofs.Standing.{won_stands, seen_at, unmet}
use Rattle.tg_race.specs.Words.{place_at}
use Rattle.tg_race.specs.Race.{Race, Rule, HasMet, empty, past, with_chunk, with_seen, with_won, with_claimed_block, both, less_one}
use Rattle.tg_race.specs.Board.{IsBoardOfRace, AreSmall, IsClosedTable, IsRecorded, KnowsSkipped, number_of_cell, does, skipped_of, numbers_of_race, drew_chunk, drew_aged, drew_old, looked, tried}
use Rattle.tg_race.proofs.Parts.{open_aged, open_old, claims_of, rule_of, parts_of}
use Rattle.tg_race.proofs.Steps.{claim_keeps, claim_aged_keeps, claim_old_keeps, win_keeps, look_keeps, split_keeps, join_keeps, starts, alone_keeps, few_chunks, few_aged, few_old}

-- the view of a seat, in the race that represents the table
in_race : (k : Counts) (s : State ℕ View) (h : IsBoardOfRace k s) (id : ℕ) (u : View) → get_elem? s.views id ≡ some u → get_elem? h.race.records id ≡ some u.done
in_race k s h id u at = subst (λ (l : List Record). get_elem? l id ≡ some u.done) h.records (at_map (λ (x : View). x.done) s.views id u at)

-- the seat with another record
with_record : (k : Counts) (s : State ℕ View) (h : IsBoardOfRace k s) (id : ℕ) (u : View) (w : Record) → map (λ (x : View). x.done) (set s.views id (does u w)) ≡ set h.race.records id w
with_record k s h id u w = map-set (λ (x : View). x.done) s.views id (does u w) ∙ ap (λ (l : List Record). set l id w) h.records

at_all : {A : Type 0} (P : A → Type 0) (l : List A) (i : ℕ) (a : A) → All P l → get_elem? l i ≡ some a → P a
at_all P [] i a all at = absurd (some-ne-none a (sym at))
at_all P (x ∷ l) zero a all at = subst P (some-injective x a at) (All-head P x l all)
at_all P (x ∷ l) (suc i) a all at = at_all P l i a (All-tail P x l all) at

-- a seat that isn't spent knows how many cells have no word
is_skipped : (k : Counts) (s : State ℕ View) (h : IsBoardOfRace k s) (id : ℕ) (u : View) → 0 < u.done.share → get_elem? s.views id ≡ some u → u.skipped ≡ skipped_of k
is_skipped k s h id u alive at = at_all (KnowsSkipped k) s.views id u h.skipped at alive

still_skipped : (k : Counts) (s : State ℕ View) (h : IsBoardOfRace k s) (id : ℕ) (u : View) (w : Record) → u.skipped ≡ skipped_of k → All (KnowsSkipped k) (set s.views id (does u w))
still_skipped k s h id u w is = All-set (KnowsSkipped k) s.views id (does u w) (λ _. is) h.skipped

-- A step at the counter i, whose number in a race is `next`: the record `put` takes the number, and the race after it keeps the
-- rule. All numbers that the record had of it, `of`, are below.
draws : (k : Counts) (slots id i : ℕ) (m : Me ℕ View) (put : ℕ → Record) (of : List ℕ) (next : Race → ℕ) (after : Race → Race) → 0 < m.0.done.share
    → ((r : Race) (moved : List ℕ) → (get_or (numbers_of_race r moved) i 0 ≡ next r) × (set (numbers_of_race r moved) i (next r + 1) ≡ numbers_of_race (after r) moved))
    → ((r : Race) → ((after r).words ≡ r.words) × ((after r).records ≡ set r.records id (put (next r))))
    → ((r : Race) → Rule k r → AreSmall k → get_elem? r.records id ≡ some m.0.done → (next r + 1 < 2 ^ 64) × Rule k (after r) × All (λ b. b < next r) of)
    → Allows (IsBoardOfRace k) slots id m i (λ n. (n + 1) % 2 ^ 64) (λ n m'. (m' ≡ (does m.0 (put n), m.1)) × All (λ b. b < n) of)
draws k slots id i m put of next after alive numbers race step s h len at fits =
    let r = h.race in
    let n : ℕ = slice_index s.words i in
    let counts = numbers r h.moved in
    let facts = step r h.rule h.small (in_race k s h id m.0 at) in
    let is : n ≡ next r = ap (λ (ws : List ℕ). get_or ws i 0) h.words ∙ counts.0 in
    let more : (n + 1) % 2 ^ 64 ≡ next r + 1 = mod-eq_of_lt (let low : n + 1 < 2 ^ 64 = omega (arith, facts.0) in low) ∙ ap (λ (x : ℕ). x + 1) is in (
      does m.0 (put n),
      keeps,
      tt,
      record {
        moved = h.moved;
        whole = (race r).0 ∙ h.whole;
        race = after r;
        words = ap (λ (x : ℕ). set s.words i x) more ∙ (ap (λ (ws : List ℕ). set ws i (next r + 1)) h.words ∙ counts.1);
        records = ap (λ (x : ℕ). map (λ (u : View). u.done) (set s.views id (does m.0 (put x)))) is ∙ (with_record k s h id m.0 (put (next r)) ∙ sym (race r).1);
        skipped = still_skipped k s h id m.0 _ (is_skipped k s h id m.0 alive at);
        rule = facts.1;
        small = h.small;
      },
      (refl, subst (λ (x : ℕ). All (λ b. b < x) of) (sym is) facts.2),
    )

pub draws_chunk : (k : Counts) (slots id : ℕ) (m : Me ℕ View) → past k m.0.done ≡ 0 → 0 < m.0.done.share
    → Allows (IsBoardOfRace k) slots id m 0 (λ n. (n + 1) % 2 ^ 64) (drew_chunk (step slots 0 1 0 none) m)
draws_chunk k slots id m none_past alive =
    draws k slots id 0 m (λ n. with_chunk m.0.done n) m.0.done.chunks (λ r. r.next_chunk) (λ r. record r { next_chunk = r.next_chunk + 1; records = set r.records id (with_chunk m.0.done r.next_chunk) }) alive (λ r moved. (refl, refl)) (λ r. (refl, refl))
    (λ r rule small at. ((let few = few_chunks k r rule in omega arith), rule_of _ _ (claim_keeps k r id m.0.done (parts_of k r rule) at none_past alive), drawn_under 0 r.next_chunk (λ u. u.chunks) r.records id m.0.done rule.chunks_once at))

pub draws_aged : (k : Counts) (slots id : ℕ) (m : Me ℕ View) → open_aged m.0.done ≡ 0 → 0 < m.0.done.share
    → Allows (IsBoardOfRace k) slots id m 1 (λ n. (n + 1) % 2 ^ 64) (drew_aged (step slots 1 1 0 none) m)
draws_aged k slots id m none_open alive =
    draws k slots id 1 m (λ n. with_claimed_block true m.0.done n) m.0.done.aged_blocks (λ r. r.next_aged) (λ r. record r { next_aged = r.next_aged + 1; records = set r.records id (with_claimed_block true m.0.done r.next_aged) }) alive (λ r moved. (refl, refl)) (λ r. (refl, refl))
    (λ r rule small at. ((let few = few_aged k r rule in omega arith), rule_of _ _ (claim_aged_keeps k r id m.0.done (parts_of k r rule) at none_open alive), drawn_under 0 r.next_aged (λ u. u.aged_blocks) r.records id m.0.done rule.blocks_once.0 at))

pub draws_old : (k : Counts) (slots id : ℕ) (m : Me ℕ View) → open_old m.0.done ≡ 0 → 0 < m.0.done.share
    → Allows (IsBoardOfRace k) slots id m 2 (λ n. (n + 1) % 2 ^ 64) (drew_old (step slots 2 1 0 none) m)
draws_old k slots id m none_open alive =
    draws k slots id 2 m (λ n. with_claimed_block false m.0.done n) m.0.done.old_blocks (λ r. r.next_old) (λ r. record r { next_old = r.next_old + 1; records = set r.records id (with_claimed_block false m.0.done r.next_old) }) alive (λ r moved. (refl, refl)) (λ r. (refl, refl))
    (λ r rule small at. ((let few = few_old k r rule in omega arith), rule_of _ _ (claim_old_keeps k r id m.0.done (parts_of k r rule) at none_open alive), drawn_under k.kept r.next_old (λ u. u.old_blocks) r.records id m.0.done rule.blocks_once.1 at))

module _ (k : Counts) (slots id : ℕ) (m : Me ℕ View) (alive : 0 < m.0.done.share) (s : State ℕ View) (h : IsBoardOfRace k s) (at : get_elem? s.views id ≡ some m.0) where
  -- the cell whose word stands so far after the counters
  abbrev cell : ℕ → ℕ
  cell d = skipped_of k + d

  -- the table after a step at that word, which makes it x, and the record w
  abbrev after : ℕ → ℕ → Record → State ℕ View
  after i x w = stepped s i x id m.1 (does m.0 w) keeps

  three : (d : ℕ) → d + 3 ≡ suc (suc (suc d))
  three d = omega arith

  knows : m.0.skipped ≡ skipped_of k
  knows = is_skipped k s h id m.0 alive at

  abbrev of_kept : List ℕ
  of_kept = replicate (skipped_of k) 0

  zeros : length of_kept ≡ skipped_of k
  zeros = length-replicate (skipped_of k) 0

  word_is : (d : ℕ) → slice_index s.words (d + 3) ≡ get_or h.race.words (cell d) 0
  word_is d =
      ap (λ (ws : List ℕ). get_or ws (d + 3) 0) h.words
      ∙ (ap (λ (i : ℕ). get_or (numbers_of_race h.race h.moved) i 0) (three d)
      ∙ (sym (get_or-append-add (replicate (skipped_of k) 0) h.moved d 0)
      ∙ (ap (λ (n : ℕ). get_or (replicate (skipped_of k) 0 ++ h.moved) (n + d) 0) zeros
      ∙ sym (ap (λ (ws : List ℕ). get_or ws (cell d) 0) h.whole))))

  -- the word of one cell is another one
  one_word : (d x : ℕ) → set h.race.words (cell d) x ≡ replicate (skipped_of k) 0 ++ set h.moved d x
  one_word d x =
      ap (λ (ws : List ℕ). set ws (cell d) x) h.whole
      ∙ (set-append_right (replicate (skipped_of k) 0) h.moved (skipped_of k) (cell d) x zeros (omega arith)
      ∙ ap (λ (i : ℕ). replicate (skipped_of k) 0 ++ set h.moved i x) (let e : skipped_of k + d - skipped_of k ≡ d = omega arith in e))

  forward_at : (d : ℕ) → cell d < k.cells → slice_index s.words (d + 3) ≢ 0 → IsForward (slice_index s.words (d + 3))
  forward_at d inside some_ =
      let near : cell d < length h.race.words = omega (arith, h.rule.size) in
      subst (λ (w : ℕ). w ≢ 0 → IsForward w) (sym (word_is d)) (h.rule.wins_once.forward (cell d) 0 near) some_

  -- nothing changes but the record, which has seen a pair
  sees : (d : ℕ) → cell d < k.cells → slice_index s.words (d + 3) ≢ 0 → IsBoardOfRace k (after (d + 3) (slice_index s.words (d + 3)) (with_seen m.0.done (cell d, place_of (slice_index s.words (d + 3)))))
  sees d inside some_ = let x : ℕ = slice_index s.words (d + 3) in let w = with_seen m.0.done (cell d, place_of x) in record {
    race = record h.race { records = set h.race.records id w };
    moved = h.moved;
    whole = h.whole;
    words = set-get_or s.words (d + 3) 0 ∙ h.words;
    records = with_record k s h id m.0 w;
    skipped = still_skipped k s h id m.0 w knows;
    rule = rule_of _ _ (look_keeps k h.race id m.0.done (cell d) (place_of x) (parts_of k h.race h.rule) (in_race k s h id m.0 at) alive (sym (word_is d) ∙ sym (forward_at d inside some_).1));
    small = h.small;
  }

  stays : (d : ℕ) → IsBoardOfRace k (after (d + 3) (slice_index s.words (d + 3)) m.0.done)
  stays d = record {
    race = h.race;
    moved = h.moved;
    whole = h.whole;
    words = set-get_or s.words (d + 3) 0 ∙ h.words;
    records = ap (λ (l : List View). map (λ (u : View). u.done) l) (set_again s.views id m.0 at) ∙ h.records;
    skipped = still_skipped k s h id m.0 m.0.done knows;
    rule = h.rule;
    small = h.small;
  }

  wins : (d : ℕ) (p : Place) → cell d < k.cells → slice_index s.words (d + 3) ≡ 0 → IsPlace p → 0 < claims_of p m.0.done → weigh (place_at p) m.0.done.won ≡ 0
      → IsBoardOfRace k (after (d + 3) (place_word p) (with_won m.0.done (cell d, p)))
  wins d p inside free in' own fresh = let w = with_won m.0.done (cell d, p) in record {
    race = record h.race { words = set h.race.words (cell d) (place_word p); records = set h.race.records id w };
    moved = set h.moved d (place_word p);
    whole = one_word d (place_word p);
    words = ap (λ (ws : List ℕ). set ws (d + 3) (place_word p)) h.words ∙ ap (λ (i : ℕ). set (numbers_of_race h.race h.moved) i (place_word p)) (three d);
    records = with_record k s h id m.0 w;
    skipped = still_skipped k s h id m.0 w knows;
    rule = rule_of _ _ (win_keeps k h.race id m.0.done (cell d) p (parts_of k h.race h.rule) (in_race k s h id m.0 at) alive inside (sym (word_is d) ∙ free) in' own fresh);
    small = h.small;
  }

  -- the seat goes on where the word becomes x
  abbrev GoesOn : ℕ → ℕ → (Me ℕ View → Type 0) → Type 0
  GoesOn i x tells = (w : View) × (a : Act ℕ) × Valid s.homes m.1 a × IsBoardOfRace k (stepped s i x id m.1 w a) × tells (w, carried_after m.1 a)

  back : (d : ℕ) → number_of_cell m.0 (d + 3) ≡ cell d
  back d = omega (arith, knows)

  -- the word of a cell is that of the place with which the record has met it, and isn't 0 if it has
  known : (d : ℕ) → IsRecorded m.0.done (number_of_cell m.0 (d + 3)) (slice_index s.words (d + 3))
  known d = subst (λ (i : ℕ). IsRecorded m.0.done i (slice_index s.words (d + 3))) (sym (back d)) (here, λ none. unmet k h.race h.rule id m.0.done (in_race k s h id m.0 at) (cell d) (sym (word_is d) ∙ none))
    where
      here : (p : Place) → HasMet m.0.done (cell d) p → slice_index s.words (d + 3) ≡ place_word p
      here p (inl won) = word_is d ∙ won_stands k h.race h.rule id m.0.done (in_race k s h id m.0 at) (cell d) p won
      here p (inr seen) = word_is d ∙ seen_at h.race.words m.0.done.seen (cell d) p (h.rule.seen_stands id m.0.done (in_race k s h id m.0 at)) seen

  looks_free : (d : ℕ) → slice_index s.words (d + 3) ≡ 0 → GoesOn (d + 3) (slice_index s.words (d + 3)) (looked (step slots (d + 3) 0 0 none) m (slice_index s.words (d + 3)))
  looks_free d e = let n : ℕ = slice_index s.words (d + 3) in
      (does m.0 m.0.done, keeps, tt, stays d, ((λ ne. absurd (ne e)), ap (λ (v : Record). (does m.0 v, m.1)) (sym (cond-true (eqb n 0) m.0.done (with_seen m.0.done (number_of_cell m.0 (d + 3), place_of n)) (eq-eqb n 0 e))), known d))

  looks_taken : (d : ℕ) → cell d < k.cells → slice_index s.words (d + 3) ≢ 0 → GoesOn (d + 3) (slice_index s.words (d + 3)) (looked (step slots (d + 3) 0 0 none) m (slice_index s.words (d + 3)))
  looks_taken d inside ne = let n : ℕ = slice_index s.words (d + 3) in (
    does m.0 (with_seen m.0.done (cell d, place_of n)),
    keeps,
    tt,
    sees d inside ne,
    (
      forward_at d inside,
      ap (λ (v : Record). (does m.0 v, m.1)) (sym (cond-false (eqb n 0) m.0.done (with_seen m.0.done (number_of_cell m.0 (d + 3), place_of n)) (ne_eqb n 0 ne) ∙ ap (λ (i : ℕ). with_seen m.0.done (i, place_of n)) (back d))),
      known d,
    ),
  )

  tries_free : (d : ℕ) (p : Place) → cell d < k.cells → IsPlace p → 0 < claims_of p m.0.done → weigh (place_at p) m.0.done.won ≡ 0 → slice_index s.words (d + 3) ≡ 0
      → GoesOn (d + 3) (place_word p) (tried (step slots (d + 3) 0 (place_word p) none) m (slice_index s.words (d + 3)))
  tries_free d p inside in' own fresh e = let n : ℕ = slice_index s.words (d + 3) in (
    does m.0 (with_won m.0.done (cell d, p)),
    keeps,
    tt,
    wins d p inside e in' own fresh,
    (
      (λ ne. absurd (ne e)),
      ap (λ (v : Record). (does m.0 v, m.1)) (sym (cond-true (eqb n 0) (with_won m.0.done (number_of_cell m.0 (d + 3), place_of (place_word p))) (with_seen m.0.done (number_of_cell m.0 (d + 3), place_of n)) (eq-eqb n 0 e)
          ∙ (ap (λ (i : ℕ). with_won m.0.done (i, place_of (place_word p))) (back d) ∙ ap (λ (q : Place). with_won m.0.done (cell d, q)) (place_of-word_of p in')))),
    ),
  )

  tries_taken : (d : ℕ) (p : Place) → cell d < k.cells → slice_index s.words (d + 3) ≢ 0 → GoesOn (d + 3) (slice_index s.words (d + 3)) (tried (step slots (d + 3) 0 (place_word p) none) m (slice_index s.words (d + 3)))
  tries_taken d p inside ne = let n : ℕ = slice_index s.words (d + 3) in (
    does m.0 (with_seen m.0.done (cell d, place_of n)),
    keeps,
    tt,
    sees d inside ne,
    (
      forward_at d inside,
      ap (λ (v : Record). (does m.0 v, m.1)) (sym (cond-false (eqb n 0) (with_won m.0.done (number_of_cell m.0 (d + 3), place_of (place_word p))) (with_seen m.0.done (number_of_cell m.0 (d + 3), place_of n)) (ne_eqb n 0 ne) ∙ ap (λ (i : ℕ). with_seen m.0.done (i, place_of n)) (back d))),
    ),
  )

-- a step at the word so far after the counters, which is that of the cell so far after those that are skipped
pub looks : (k : Counts) (slots id d : ℕ) (m : Me ℕ View) → 0 < m.0.done.share → skipped_of k + d < k.cells
    → Allows (IsBoardOfRace k) slots id m (d + 3) (λ n. n) (looked (step slots (d + 3) 0 0 none) m)
looks k slots id d m alive inside s h len at fits = ⊎_elim (looks_free k slots id m alive s h at d) (looks_taken k slots id m alive s h at d inside) (cases_eq (slice_index s.words (d + 3)) 0)

tries : (k : Counts) (slots id d : ℕ) (p : Place) (m : Me ℕ View) → 0 < m.0.done.share → skipped_of k + d < k.cells → IsPlace p → 0 < claims_of p m.0.done → weigh (place_at p) m.0.done.won ≡ 0
    → Allows (IsBoardOfRace k) slots id m (d + 3) (λ n. either (n == 0) (place_word p) n) (tried (step slots (d + 3) 0 (place_word p) none) m)
tries k slots id d p m alive inside in' own fresh s h len at fits =
    exchanged (slice_index s.words (d + 3)) 0 (place_word p) (λ x. GoesOn k slots id m alive s h at (d + 3) x (tried (step slots (d + 3) 0 (place_word p) none) m (slice_index s.words (d + 3))))
    (tries_free k slots id m alive s h at d p inside in' own fresh) (tries_taken k slots id m alive s h at d p inside)

-- the same for the word of a place
pub tries_word : (k : Counts) (slots id d word : ℕ) (m : Me ℕ View) → 0 < m.0.done.share → skipped_of k + d < k.cells → IsForward word → 0 < claims_of (place_of word) m.0.done → weigh (place_at (place_of word)) m.0.done.won ≡ 0
    → Allows (IsBoardOfRace k) slots id m (d + 3) (λ n. either (n == 0) word n) (tried (step slots (d + 3) 0 word none) m)
tries_word k slots id d word m alive inside forward own fresh =
    subst (λ (w : ℕ). Allows (IsBoardOfRace k) slots id m (d + 3) (λ n. either (n == 0) w n) (tried (step slots (d + 3) 0 w none) m)) forward.1
    (tries k slots id d (place_of word) m alive inside forward.0 own fresh)

pub cuts : (k : Counts) (id : ℕ) (u : View) → 1 < u.done.share → u.done ≡ empty u.done.share → Splits (IsBoardOfRace k) id u (does u (less_one u.done)) (does u (empty 1))
cuts k id u many is s h at =
    let v : Record = u.done in
    let n : ℕ = v.share - 1 in
    let more : v ≡ empty (n + 1) = is ∙ ap empty (let e : v.share ≡ n + 1 = omega arith in e) in
    let less : less_one v ≡ empty n = ap less_one more ∙ ap empty (let e : n + 1 - 1 ≡ n = omega arith in e) in
    let knows : u.skipped ≡ skipped_of k = is_skipped k s h id u (omega arith) at in record {
      race = record h.race { records = set h.race.records id (empty n) ++ empty 1 ∷ [] };
      moved = h.moved;
      whole = h.whole;
      words = h.words;
      records = map-append (λ (x : View). x.done) (set s.views id (does u (less_one v))) (does u (empty 1) ∷ [])
          ∙ (ap (λ (l : List Record). l ++ empty 1 ∷ []) (with_record k s h id u (less_one v)) ∙ ap (λ (w : Record). set h.race.records id w ++ empty 1 ∷ []) less);
      skipped = All-append (KnowsSkipped k) (set s.views id (does u (less_one v))) (does u (empty 1) ∷ []) (still_skipped k s h id u (less_one v) knows)
          (All-cons (KnowsSkipped k) (does u (empty 1)) [] (λ _. knows) (All-nil (KnowsSkipped k)));
      rule = rule_of _ _ (split_keeps k h.race id n (parts_of k h.race h.rule) (in_race k s h id u at ∙ ap (λ (w : Record). some w) more) (omega arith));
      small = h.small;
    }

pub glues : (k : Counts) (id : ℕ) (u : View) (other : ℕ) (w : View) → 0 < u.done.share → Joins (IsBoardOfRace k) id u other w (does u (both u.done w.done)) (record { skipped = 0; done = empty 0 })
glues k id u other w alive s h at apart at' =
    let one : List View = set s.views id (does u (both u.done w.done)) in
    let spent : View = record { skipped = 0; done = empty 0 } in
    let now : map (λ (x : View). x.done) one ≡ set h.race.records id (both u.done w.done) = with_record k s h id u (both u.done w.done) in record {
      race = record h.race { records = set (set h.race.records id (both u.done w.done)) other (empty 0) };
      moved = h.moved;
      whole = h.whole;
      words = h.words;
      records = map-set (λ (x : View). x.done) one other spent ∙ ap (λ (l : List Record). set l other (empty 0)) now;
      skipped = All-set (KnowsSkipped k) one other spent (λ (alive : 0 < 0). absurd (omega arith)) (still_skipped k s h id u (both u.done w.done) (is_skipped k s h id u alive at));
      rule = rule_of _ _ (join_keeps k h.race id u.done other w.done (parts_of k h.race h.rule) (in_race k s h id u at) apart (subst (λ (l : List Record). get_elem? l other ≡ some w.done) now (at_map (λ (x : View). x.done) one other w at')));
      small = h.small;
    }

pub opens : (k : Counts) (n : ℕ) → AreSmall k → n + skipped_of k ≡ k.cells → IsBoardOfRace k (opening (set (replicate (n + 3) 0) 2 k.kept) [] (record { skipped = skipped_of k; done = empty k.helpers }))
opens k n small all = record {
  race = record { next_chunk = 0; next_aged = 0; next_old = k.kept; words = replicate k.cells 0; records = empty k.helpers ∷ [] };
  moved = replicate n 0;
  whole = ap (λ (c : ℕ). replicate c 0) (let e : k.cells ≡ skipped_of k + n = omega (arith, all) in e) ∙ sym (replicate-append-replicate (skipped_of k) n 0);
  words = ap (λ (c : ℕ). set (replicate c 0) 2 k.kept) (let e : n + 3 ≡ suc (suc (suc n)) = omega arith in e);
  records = refl;
  skipped = All-cons (KnowsSkipped k) (record { skipped = skipped_of k; done = empty k.helpers }) [] (λ _. refl) (All-nil (KnowsSkipped k));
  rule = rule_of _ _ (starts k);
  small = small;
}

pub closes : (k : Counts) (id : ℕ) (u : View) (ws xs : List ℕ) → Final (Seen (IsBoardOfRace k) id u) ws xs → u.done.share ≡ k.helpers → IsClosedTable k (replicate (skipped_of k) 0 ++ drop 3 ws) u.done
closes k id u ws xs final all =
    let s = final.0 in
    let h = final.1.0 in
    let rest : h.moved ≡ drop 3 ws = sym (ap (λ (l : List ℕ). drop 3 l) h.words) ∙ ap (λ (l : List ℕ). drop 3 l) final.2 in
    let is : h.race.words ≡ replicate (skipped_of k) 0 ++ drop 3 ws = h.whole ∙ ap (λ (l : List ℕ). replicate (skipped_of k) 0 ++ l) rest in
    let rule = rule_of _ _ (alone_keeps k h.race id u.done (parts_of k h.race h.rule) (in_race k s h id u final.1.1) all) in record {
      next_chunk = h.race.next_chunk;
      next_aged = h.race.next_aged;
      next_old = h.race.next_old;
      rule = subst (λ (l : List ℕ). Rule k (record { next_chunk = h.race.next_chunk; next_aged = h.race.next_aged; next_old = h.race.next_old; words = l; records = u.done ∷ [] })) is rule;
    }
