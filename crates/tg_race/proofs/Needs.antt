-- The conditions of the events, as the steps use them.
use Rattle.std.proofs.Common.{◌≡◌, ℕ, ◌+◌, ◌-◌, ◌*◌, ◌<◌, ◌≤◌, ◌==◌, List, [], ◌∷◌, length, true, false, not, eqb-true, nat_lt, sym, refl, ap, subst, ◌∙◌, arith}
use Rattle.std.specs.List.{list_all}
use Rattle.std.proofs.lemmas.Bool.{cond-true, cond-false, and_parts, ltb-true, not-true}
use Rattle.tg_word.specs.declared.Place.{Place}
use Rattle.tg_race.specs.declared.record.Counts.{Counts}
use Rattle.tg_race.specs.declared.record.Record.{Record}
use Rattle.tg_race.specs.Weights.{weigh}
use Rattle.tg_race.specs.Words.{same_place, place_at, OLD, AGED}
use Rattle.tg_race.specs.Race.{empty, is_chunk, past, used_in, owns}
use Rattle.tg_race.specs.declared.race_table.CellWord.{CellWord}
use Rattle.tg_race.specs.Seats.{Board, IsWordIn, Seated, TableOf}
use Rattle.tg_race.specs.Conditions.{can_claim_roots, can_claim_block, uses, can_use, is_new, can_part}
use Rattle.tg_race.proofs.Sums.{none_weighs}
use Rattle.tg_race.proofs.Parts.{is_past, is_open, open_aged, open_old, claims_of, owns_claims}

-- a seat that is at a table is at that with the same id
pub at_table : (x me : Seated) (y board : Board) → x ≡ me → me.table ≡ board.table → y ≡ board → x.table.id ≡ y.table.id
at_table x me y board seat own table = ap (λ (s : Seated). s.table.id) seat ∙ (ap (λ (t : TableOf). t.id) own ∙ sym (ap (λ (b : Board). b.table.id) table))

-- the word of a cell is as far after the counters as the cell after those that have none
pub record StandsAt (k : Counts) (number d : ℕ) : Type 0 where
  pub is : number ≡ d + 3
  pub inside : 64 * k.kept + d < k.cells

pub stands_at : (k : Counts) (y board : Board) (cell number : ℕ) → y ≡ board → k ≡ y.counts → number + 64 * board.counts.kept ≡ cell + 3 → 64 * board.counts.kept ≤ cell → cell < board.counts.cells → StandsAt k number (cell - 64 * board.counts.kept)
stands_at k y board cell number table key is moved inside =
    let same : k ≡ board.counts = key ∙ ap (λ (b : Board). b.counts) table in
    rw same (record { is = omega arith; inside = omega arith })

-- a cell's word is one of the table
pub word_within : {y board : Board} {at : CellWord} → y ≡ board → y.table.id.words + 64 * y.counts.kept ≡ y.counts.cells + 3 → IsWordIn board at → at.number < y.table.id.words
word_within table whole word =
    let there = subst (λ (b : Board). b.table.id.words + 64 * b.counts.kept ≡ b.counts.cells + 3) table whole in
    let is = word.is in let inside = word.inside in
    rw table (omega (arith, there))

past_none : (k : Counts) (l : List ℕ) → list_all (is_chunk k) l ≡ true → weigh (is_past k) l ≡ 0
past_none k [] h = refl
past_none k (x ∷ l) h = let a = and_parts (is_chunk k x) (list_all (is_chunk k) l) h in
    omega (arith, cond-true {A = ℕ} (is_chunk k x) 0 1 a.0, past_none k l a.1)

pub none_past : (k : Counts) (v : Record) → can_claim_roots k v ≡ true → past k v ≡ 0
none_past k v h = past_none k v.chunks h

open_none : (space : ℕ) (won : List (ℕ × Place)) (l : List ℕ) → list_all (λ b. not (nat_lt (used_in space b won) 64)) l ≡ true → weigh (is_open space won) l ≡ 0
open_none space won [] h = refl
open_none space won (x ∷ l) h = let a = and_parts (not (nat_lt (used_in space x won) 64)) (list_all (λ b. not (nat_lt (used_in space b won) 64)) l) h in
    omega (arith, cond-false {A = ℕ} (nat_lt (used_in space x won) 64) 1 0 (not-true (nat_lt (used_in space x won) 64) a.0), open_none space won l a.1)

pub none_open_aged : (v : Record) → can_claim_block true v ≡ true → open_aged v ≡ 0
none_open_aged v h = open_none AGED v.won v.aged_blocks h

pub none_open_old : (v : Record) → can_claim_block false v ≡ true → open_old v ≡ 0
none_open_old v h = open_none OLD v.won v.old_blocks h

pub usable : (v : Record) (p : Place) → can_use v p ≡ true → (0 < claims_of p v) × (weigh (place_at p) v.won ≡ 0)
usable v p h =
    let a = and_parts (owns v p) (not (uses v p)) h in
    (owns_claims v p a.0, none_weighs (λ (q : ℕ × Place). same_place q.1 p) v.won (not-true (uses v p) a.1))

length_none : {A : Type 0} (l : List A) → (length l == 0) ≡ true → l ≡ []
length_none [] h = refl
length_none (x ∷ l) h = absurd (let e = eqb-true (length (x ∷ l)) 0 h in omega arith)

-- a record that has done nothing is empty
new_empty : (v : Record) → is_new v ≡ true → v ≡ empty v.share
new_empty v h =
    let a = and_parts _ _ h in let b = and_parts _ _ a.0 in let d = and_parts _ _ b.0 in let e = and_parts _ _ d.0 in
    let chunks = length_none v.chunks e.0 in let won = length_none v.won e.1 in let seen = length_none v.seen d.1 in let aged = length_none v.aged_blocks b.1 in let old = length_none v.old_blocks a.1 in
    λ i. record { chunks = chunks i; won = won i; seen = seen i; aged_blocks = aged i; old_blocks = old i; share = v.share }

pub parted : (v : Record) → can_part v ≡ true → (1 < v.share) × (v ≡ empty v.share)
parted v h = let a = and_parts (is_new v) (nat_lt 1 v.share) h in (ltb-true 1 v.share a.1, new_empty v a.0)
