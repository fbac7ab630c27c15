-- Where one record is left and it is complete, the cells with a place are those that targets lead to from the roots.
use Rattle.std.proofs.Common.{◌≡◌, ◌≢◌, ◌⊎◌, ℕ, zero, suc, ◌+◌, ◌-◌, ◌*◌, ◌<◌, ◌≤◌, ◌==◌, ◌↔◌, List, [], ◌∷◌, length, get_or, take, drop, slice_index, slice_index_or, Bool, true, false, if◌then◌else◌, eqb, eqb-true, eq-eqb, ne_eqb, nat_lt, sym, refl, ap, ◌∙◌, subst, inl, inr, ⊎_elim, arith}
use Rattle.std.specs.List.{list_any}
use Rattle.std.proofs.lemmas.Bool.{cond-true, cond-false, or_cases, or_left, or_right, ltb-false, false≢true}
use Rattle.std.proofs.lemmas.List.{length-take-le, take-take, take_all}
use mathlib.Core.Option.{some}
use lib.ListN.{get_elem?}
use Rattle.tg_word.specs.declared.Place.{Place}
use Rattle.tg_race.specs.Words.{place_of}
use Rattle.tg_race.specs.declared.record.Counts.{Counts}
use Rattle.tg_race.specs.declared.record.Record.{Record}
use Rattle.tg_race.specs.Weights.{weigh, one_at}
use Rattle.tg_race.specs.Words.{weigh_words}
use Rattle.tg_race.specs.Race.{Race, Rule, chunk_of, chunks_of, has_number}
use Rattle.tg_race.specs.Board.{IsClosedTable}
use Rattle.tg_race.specs.Course.{Net, Course, counts_of, chunk_has, pair_has, is_target, forwarding_word, IsEarned, HasEarnedWins, KeepsRule, IsCompleteRecord, IsReachedCell, root, next}
use Rattle.tg_race.proofs.Sums.{weighs_any, one_here}
use Rattle.tg_race.proofs.Standing.{closed_below, met_taken}
use Rattle.tg_race.proofs.Parts.{is_past, parts_of, rule_of}
use Rattle.tg_race.proofs.Steps.{alone_keeps}
use Rattle.tg_race.proofs.Courses.{Within}

-- the weight under which a list of pairs weighs as often as it has the cell
abbrev cell_at : ℕ → ℕ × Place → ℕ
cell_at n q = if q.0 == n then 1 else 0

module _ {A : Type 0} where
  any_some : (f : A → Bool) (l : List A) → list_any f l ≡ true → (x : A) × (f x ≡ true)
  any_some f [] h = absurd (false≢true h)
  any_some f (x ∷ l) h = ⊎_elim (λ e. (x, e)) (λ e. any_some f l e) (or_cases (f x) (list_any f l) h)

  any_where : (f g : A → Bool) → ((x : A) → f x ≡ true → g x ≡ true) → (l : List A) → list_any f l ≡ true → list_any g l ≡ true
  any_where f g t [] h = h
  any_where f g t (x ∷ l) h = ⊎_elim (λ e. or_left (g x) (list_any g l) (t x e)) (λ e. or_right (g x) (list_any g l) (any_where f g t l e)) (or_cases (f x) (list_any f l) h)

  within_drop : (n : ℕ) (l : List A) → Within (drop n l) l
  within_drop (suc n) (x ∷ l) p h = or_right (p x) (list_any p l) (within_drop n l p h)
  within_drop other l p h = h

  within_take : (n : ℕ) (l : List A) → Within (take n l) l
  within_take zero l p h = absurd (false≢true h)
  within_take (suc n) [] p h = h
  within_take (suc n) (x ∷ l) p h = ⊎_elim (λ e. or_left (p x) (list_any p l) e) (λ e. or_right (p x) (list_any p l) (within_take n l p e)) (or_cases (p x) (list_any p (take n l)) h)

  -- a part of a list is in it from the front or from the end on
  split : (p : A → Bool) (n : ℕ) (l : List A) → list_any p l ≡ true → (list_any p (take n l) ≡ true) ⊎ (list_any p (drop n l) ≡ true)
  split p zero l h = inr h
  split p (suc n) [] h = inl h
  split p (suc n) (x ∷ l) h =
      ⊎_elim (λ e. inl (or_left (p x) (list_any p (take n l)) e))
      (λ e. ⊎_elim (λ a. inl (or_right (p x) (list_any p (take n l)) a)) (λ b. inr b) (split p n l e))
      (or_cases (p x) (list_any p l) h)

  -- the chunks of what is before the first chunk are those after it
  chunk_behind : (l : List A) (c : ℕ) → 8 ≤ length l → chunk_of (take (length l - 8) l) c ≡ chunk_of l (c + 1)
  chunk_behind l c long =
      let len : length (take (length l - 8) l) ≡ length l - 8 = length-take-le (length l - 8) l (omega arith) in
      let start : length l - 8 - 8 * (c + 1) ≡ length l - 8 * (c + 1 + 1) = omega arith in
      let stop : length l - 8 - 8 * c ≡ length l - 8 * (c + 1) = omega arith in
      ap (λ (n : ℕ). drop (n - 8 * (c + 1)) (take (n - 8 * c) (take (length l - 8) l))) len
      ∙ (ap (drop (length l - 8 - 8 * (c + 1))) (take-take (length l - 8 - 8 * c) (length l - 8) l (omega arith))
      ∙ (ap (λ (n : ℕ). drop n (take (length l - 8 - 8 * c) l)) start ∙ ap (λ (n : ℕ). drop (length l - 8 * (c + 1 + 1)) (take n l)) stop))

  -- an item of a list is in one of its chunks
  in_chunk : (p : A → Bool) (fuel : ℕ) (l : List A) → length l ≤ fuel → list_any p l ≡ true → (c : ℕ) × (8 * c < length l) × (list_any p (chunk_of l c) ≡ true)
  in_chunk p fuel [] few h = absurd (false≢true h)
  in_chunk p zero (x ∷ l) few h = absurd (omega arith)
  in_chunk p (suc fuel) (x ∷ l) few h = ⊎_elim (λ e. later e (in_chunk p fuel (take (length (x ∷ l) - 8) (x ∷ l)))) first (split p (length (x ∷ l) - 8) (x ∷ l) h)
    where
      first : list_any p (drop (length (x ∷ l) - 8) (x ∷ l)) ≡ true → (c : ℕ) × (8 * c < length (x ∷ l)) × (list_any p (chunk_of (x ∷ l) c) ≡ true)
      first e =
          let whole : take (length (x ∷ l) - 8 * 0) (x ∷ l) ≡ x ∷ l = take_all (length (x ∷ l) - 8 * 0) (x ∷ l) (omega arith) in
          (0, omega arith, subst (λ (m : List A). list_any p (drop (length (x ∷ l) - 8) m) ≡ true) (sym whole) e)

      later : list_any p (take (length (x ∷ l) - 8) (x ∷ l)) ≡ true
          → (length (take (length (x ∷ l) - 8) (x ∷ l)) ≤ fuel → list_any p (take (length (x ∷ l) - 8) (x ∷ l)) ≡ true → (c : ℕ) × (8 * c < length (take (length (x ∷ l) - 8) (x ∷ l))) × (list_any p (chunk_of (take (length (x ∷ l) - 8) (x ∷ l)) c) ≡ true))
          → (c : ℕ) × (8 * c < length (x ∷ l)) × (list_any p (chunk_of (x ∷ l) c) ≡ true)
      later e rest =
          let len : length (take (length (x ∷ l) - 8) (x ∷ l)) ≡ length (x ∷ l) - 8 = length-take-le (length (x ∷ l) - 8) (x ∷ l) (omega arith) in
          let r = rest (omega arith) e in
          let c : ℕ = r.0 in
          (c + 1, omega (arith, r.1), subst (λ (m : List A). list_any p m ≡ true) (chunk_behind (x ∷ l) c (omega (arith, r.1))) r.2)

-- a word of a cell, as a weight

taken_weighs : (n i c : ℕ) (ws : List ℕ) → n ≡ i + c → get_or ws c 0 ≢ 0 → 0 < weigh_words (cell_at n) i ws
taken_weighs n i c [] is some_ = absurd (some_ refl)
taken_weighs n i zero (w ∷ ws) is some_ =
    omega (arith, cond-false {A = ℕ} (eqb w 0) 0 (cell_at n (i, place_of w)) (ne_eqb w 0 some_), cond-true {A = ℕ} (eqb i n) 1 0 (eq-eqb i n (omega arith)))
taken_weighs n i (suc c) (w ∷ ws) is some_ = omega (arith, taken_weighs n (suc i) c ws (omega arith) some_)

abbrev AllReached : Net → List (ℕ × Place) → Type 0
AllReached net l = (x : ℕ) → list_any (λ q. q.0 == x) l ≡ true → IsReachedCell net x

-- a pair that passes a test, and its cell among those of the list
any_pair : (f : ℕ × Place → Bool) (l : List (ℕ × Place)) → list_any f l ≡ true → (q : ℕ × Place) × (f q ≡ true) × (list_any (λ p. p.0 == q.0) l ≡ true)
any_pair f [] h = absurd (false≢true h)
any_pair f (x ∷ l) h =
    ⊎_elim (λ e. (x, e, or_left (x.0 == x.0) (list_any (λ p. p.0 == x.0) l) (eq-eqb x.0 x.0 refl)))
    (λ e. let r = any_pair f l e in (r.0, r.1, or_right (x.0 == r.0.0) (list_any (λ p. p.0 == r.0.0) l) r.2))
    (or_cases (f x) (list_any f l) h)

target_reached : (net : Net) (cs : List ℕ) (won : List (ℕ × Place)) (cell : ℕ) → AllReached net won → is_target net cs won cell ≡ true → IsReachedCell net cell
target_reached net cs won cell all h =
    ⊎_elim (λ a. let c = any_some (chunk_has net cell) cs a in
    let last : ℕ = length net.roots - 8 * c.0 in
    root cell (within_take last net.roots (has_number cell) (within_drop (length net.roots - 8 * (c.0 + 1)) (take last net.roots) (has_number cell) c.1)))
    (λ b. let q = any_pair (pair_has net cell) won b in next q.0.0 cell (all q.0.0 q.2) q.1)
    (or_cases (list_any (chunk_has net cell) cs) (list_any (pair_has net cell) won) h)

earned_reached : (net : Net) (cs : List ℕ) (before qs : List (ℕ × Place)) → AllReached net before → IsEarned net cs before qs → AllReached net qs
earned_reached net cs before [] all h x e = absurd (false≢true e)
earned_reached net cs before (q ∷ qs) all h x e =
    let new : IsReachedCell net q.0 = target_reached net cs before q.0 all h.0 in
    let all' : AllReached net (q ∷ before) = λ y f. ⊎_elim (λ a. subst (IsReachedCell net) (eqb-true q.0 y a) new) (λ b. all y b) (or_cases (q.0 == y) (list_any (λ p. p.0 == y) before) f) in
    ⊎_elim (λ a. subst (IsReachedCell net) (eqb-true q.0 x a) new) (λ b. earned_reached net cs (q ∷ before) qs all' h.1 x b) (or_cases (q.0 == x) (list_any (λ p. p.0 == x) qs) e)

-- a chunk past the last is among the list's
past_some : (k : Counts) (l : List ℕ) → 0 < weigh (is_past k) l → (x : ℕ) × (chunks_of k ≤ x) × (list_any (λ y. y == x) l ≡ true)
past_some k [] h = absurd (omega arith)
past_some k (x ∷ l) h = go (nat_lt x (chunks_of k)) refl h (past_some k l)
  where
    go : (b : Bool) → nat_lt x (chunks_of k) ≡ b → 0 < (if b then 0 else 1) + weigh (is_past k) l → (0 < weigh (is_past k) l → (y : ℕ) × (chunks_of k ≤ y) × (list_any (λ z. z == y) l ≡ true))
        → (y : ℕ) × (chunks_of k ≤ y) × (list_any (λ z. z == y) (x ∷ l) ≡ true)
    go true e h rest = let r = rest (omega arith) in (r.0, r.1, or_right (x == r.0) (list_any (λ z. z == r.0) l) r.2)
    go false e h rest = (x, ltb-false x (chunks_of k) e, or_left (x == x) (list_any (λ z. z == x) l) (eq-eqb x x refl))

-- what passes at one number passes at a list that has it
any_is : (f : ℕ → Bool) (x : ℕ) → f x ≡ true → (l : List ℕ) → list_any (λ y. y == x) l ≡ true → list_any f l ≡ true
any_is f x h = any_where (λ (y : ℕ). y == x) f (λ y e. subst (λ (z : ℕ). f z ≡ true) (sym (eqb-true y x e)) h)

module _ (net : Net) (r : Race) (v : Record) (rule : Rule (counts_of net) (record r { records = v ∷ [] })) (earned : IsEarned net v.chunks [] v.won) (complete : IsCompleteRecord net v) where
  taken_won : (cell : ℕ) → forwarding_word r cell ≢ 0 → list_any (λ q. q.0 == cell) v.won ≡ true
  taken_won cell some_ =
      let b = rule.wins_once.won (cell_at cell) in
      let t = taken_weighs cell 0 cell r.words (omega arith) some_ in
      weighs_any (λ (q : ℕ × Place). q.0 == cell) v.won (omega arith)

  targets_taken : (cell : ℕ) → is_target net v.chunks v.won cell ≡ true → forwarding_word r cell ≢ 0
  targets_taken cell h = met_taken (counts_of net) (record r { records = v ∷ [] }) rule 0 v refl cell (complete.met cell h)

  -- the record has each chunk of roots
  has_chunk : (c : ℕ) → 8 * c < length net.roots → list_any (λ x. x == c) v.chunks ≡ true
  has_chunk c in' =
      let p = past_some (counts_of net) v.chunks complete.last in
      let above = p.1 in
      let up = closed_below 0 r.next_chunk p.0 (λ u. u.chunks) v rule.chunks_once p.2 in
      let mine = rule.chunks_once (one_at c) in
      let here = one_here c r.next_chunk (omega arith) in
      weighs_any (λ (y : ℕ). y == c) v.chunks (omega arith)

  reached_taken : (cell : ℕ) → IsReachedCell net cell → forwarding_word r cell ≢ 0
  reached_taken cell (root _ h) =
      let p = in_chunk (has_number cell) (length net.roots) net.roots (omega arith) h in
      let mine = any_is (chunk_has net cell) p.0 p.2 v.chunks (has_chunk p.0 p.1) in
      targets_taken cell (or_left (list_any (chunk_has net cell) v.chunks) (list_any (pair_has net cell) v.won) mine)
  reached_taken to (next cell _ from h) =
      let won = taken_won cell (reached_taken cell from) in
      let mine = any_where (λ (q : ℕ × Place). q.0 == cell) (pair_has net to) (λ q e. subst (λ (i : ℕ). has_number to (slice_index_or net.targets i []) ≡ true) (sym (eqb-true q.0 cell e)) h) v.won won in
      targets_taken to (or_right (list_any (chunk_has net to) v.chunks) (list_any (pair_has net to) v.won) mine)

  taken_reached : (cell : ℕ) → forwarding_word r cell ≢ 0 → IsReachedCell net cell
  taken_reached cell some_ = earned_reached net v.chunks [] v.won (λ x e. absurd (false≢true e)) earned cell (taken_won cell some_)

-- the cells with a place are the closure of the roots
pub closure : (c : Course) (id : ℕ) (v : Record) → KeepsRule c → get_elem? c.race.records id ≡ some v → v.share ≡ c.net.helpers → IsCompleteRecord c.net v
    → (cell : ℕ) → (forwarding_word c.race cell ≢ 0) ↔ IsReachedCell c.net cell
closure c id v kept at all complete cell =
    let rule = rule_of _ _ (alone_keeps (counts_of c.net) c.race id v (parts_of (counts_of c.net) c.race kept.rule) at all) in
    (taken_reached c.net c.race v rule (kept.wins_earned id v at) complete cell, reached_taken c.net c.race v rule (kept.wins_earned id v at) complete cell)

-- a closed table represents a course with the one record
pub closed_course : (net : Net) (words : List ℕ) (done : Record) → IsClosedTable (counts_of net) words done → HasEarnedWins net done → IsCompleteRecord net done
    → (cell : ℕ) → (slice_index words cell ≢ 0) ↔ IsReachedCell net cell
closed_course net words done closed earned complete cell =
    let r : Race = record { next_chunk = closed.next_chunk; next_aged = closed.next_aged; next_old = closed.next_old; words = words; records = done ∷ [] } in
    (taken_reached net r done closed.rule earned complete cell, reached_taken net r done closed.rule earned complete cell)
