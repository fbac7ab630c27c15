-- Each event keeps the rule.
use Rattle.std.proofs.Common.{◌≡◌, ◌≢◌, ℕ, zero, suc, ◌+◌, ◌*◌, ◌<◌, ◌≤◌, ◌==◌, ◌&&◌, List, [], ◌∷◌, ◌++◌, length, get_or, set, Bool, true, false, if◌then◌else◌, eqb-true, nat_lt, sym, refl, ap, ◌∙◌, subst, ⊎_elim, le_of_eq, le_trans, All, replicate, length-set, get_or-set_other, arith}
use Rattle.std.proofs.lemmas.Bool.{cond-true, cond_both, ltb-true, ltb-false, lt-ltb, and_parts}
use Rattle.std.proofs.lemmas.List.{length-replicate}
use Rattle.std.proofs.lemmas.List.Elements.{All-push, All-weaker, All-append, All-nil, All-head, All-tail, All-set, All-replicate}
use mathlib.Core.Option.{some, some-ne-none}
use lib.ListN.{get_elem?}
use Rattle.atomic_table.proofs.Lists.{at_set, at_snoc, set_else}
use Rattle.tg_race.specs.declared.record.Counts.{Counts}
use Rattle.tg_race.specs.declared.record.Record.{Record}
use Rattle.tg_word.specs.declared.Place.{Place}
use Rattle.tg_word.specs.Word.{IsPlace}
use Rattle.tg_race.specs.Words.{place_word, IsForward}
use Rattle.tg_race.proofs.PlaceWords.{place_of-word_of, word_of-forward, word_of-some}
use Rattle.tg_race.specs.Weights.{weigh, weigh_below, one_at}
use Rattle.tg_race.specs.Words.{IsPair, same_place, place_at, lies_in, OLD, AGED}
use Rattle.tg_race.specs.Race.{Race, Rule, empty, chunks_of, used_in, past, IsDrawn, with_chunk, with_seen, with_won, with_claimed_block, both}
use Rattle.tg_race.proofs.Parts.{Parts, Fits, is_past, is_open, open_aged, open_old, claims_of}
use Rattle.tg_race.proofs.Sums.{weigh-append, weigh_push, weigh-set, weigh_one_le, weigh-le, weigh-le_at, weigh_alone, weigh_below_more, one_below, weigh_words-set, weigh_words_le, count_below, weigh-scale, weigh-add, weigh-zero, no_words, weigh_ones}

-- a list that another record takes over is drawn as before
pub drawn_same : (start n : ℕ) (of : Record → List ℕ) (l : List Record) (id : ℕ) (v w : Record) → get_elem? l id ≡ some v → of w ≡ of v
    → IsDrawn start n of l → IsDrawn start n of (set l id w)
drawn_same start n of l id v w at same drawn h =
    let s = weigh-set (λ u. weigh h (of u)) l id v w at in
    let e = ap (weigh h) same in
    let d = drawn h in
    omega arith

-- one more number is drawn
pub drawn_more : (start n : ℕ) (of : Record → List ℕ) (l : List Record) (id : ℕ) (v w : Record) → get_elem? l id ≡ some v → of w ≡ of v ++ n ∷ []
    → IsDrawn start n of l → IsDrawn start (n + 1) of (set l id w)
drawn_more start n of l id v w at more drawn h =
    let s = weigh-set (λ u. weigh h (of u)) l id v w at in
    let e = ap (weigh h) more in
    let p = weigh_push h (of v) n in
    let b = weigh_below_more h n in
    let d = drawn h in
    omega arith

-- what holds of each record, where one is put in place of another
pub each_set : (P : Record → Type 0) (l : List Record) (id : ℕ) (w : Record) → P w → ((j : ℕ) (u : Record) → get_elem? l j ≡ some u → P u)
    → (j : ℕ) (u : Record) → get_elem? (set l id w) j ≡ some u → P u
each_set P l id w new old j u at = ⊎_elim (λ t. subst P t.1 new) (λ t. old j u t.1) (at_set l id j w u at)

-- a record that has a share isn't spent
not_spent : (v w : Record) → w.share ≡ v.share → 0 < v.share → w.share ≡ 0 → w ≡ empty 0
not_spent v w same has none = absurd (omega arith)

-- A record is put in place of another that has won as much and has the same share, and other numbers are drawn: the rule is kept,
-- where each is drawn once and the record fits.
put_keeps : (k : Counts) (r : Race) (id : ℕ) (v w : Record) (chunk aged old : ℕ) → Parts k r → get_elem? r.records id ≡ some v → w.won ≡ v.won → w.share ≡ v.share
    → IsDrawn 0 chunk (λ u. u.chunks) (set r.records id w) → IsDrawn 0 aged (λ u. u.aged_blocks) (set r.records id w) → IsDrawn k.kept old (λ u. u.old_blocks) (set r.records id w) → Fits k r.words w
    → Parts k (record r { next_chunk = chunk; next_aged = aged; next_old = old; records = set r.records id w })
put_keeps k r id v w chunk aged old rule at same_won same_share chunks_once aged_once old_once fits = record {
  size = rule.size;
  forward = rule.forward;
  chunks = chunks_once;
  aged = aged_once;
  old = old_once;
  won = λ h. (let s = weigh-set (λ u. weigh h u.won) r.records id v w at in let e = rule.won h in let n = ap (weigh h) same_won in omega arith);
  apart = λ x. (let s = weigh-set (λ u. weigh (place_at x) u.won) r.records id v w at in let e = rule.apart x in let n = ap (weigh (place_at x)) same_won in omega arith);
  shares = (let s = weigh-set (λ u. u.share) r.records id v w at in let e = rule.shares in omega arith);
  each = each_set (Fits k r.words) r.records id w fits rule.each;
}

-- what a record has drawn is drawn once, where another with the same takes over
module _ (k : Counts) (r : Race) (id : ℕ) (v w : Record) (rule : Parts k r) (at : get_elem? r.records id ≡ some v) where
  same_chunks : w.chunks ≡ v.chunks → IsDrawn 0 r.next_chunk (λ u. u.chunks) (set r.records id w)
  same_chunks same = drawn_same 0 r.next_chunk (λ u. u.chunks) r.records id v w at same rule.chunks

  same_aged : w.aged_blocks ≡ v.aged_blocks → IsDrawn 0 r.next_aged (λ u. u.aged_blocks) (set r.records id w)
  same_aged same = drawn_same 0 r.next_aged (λ u. u.aged_blocks) r.records id v w at same rule.aged

  same_old : w.old_blocks ≡ v.old_blocks → IsDrawn k.kept r.next_old (λ u. u.old_blocks) (set r.records id w)
  same_old same = drawn_same k.kept r.next_old (λ u. u.old_blocks) r.records id v w at same rule.old

pub claim_keeps : (k : Counts) (r : Race) (id : ℕ) (v : Record) → Parts k r → get_elem? r.records id ≡ some v → past k v ≡ 0 → 0 < v.share
    → Parts k (record r { next_chunk = r.next_chunk + 1; records = set r.records id (with_chunk v r.next_chunk) })
claim_keeps k r id v rule at none has =
    let n = r.next_chunk in let w = with_chunk v n in let fits = rule.each id v at in let p = weigh_push (is_past k) v.chunks n in
    let one : is_past k n ≤ 1 = cond_both (nat_lt n (chunks_of k)) 0 1 (λ x. x ≤ 1) (λ _. omega arith) (λ _. omega arith) in
    put_keeps k r id v w (n + 1) r.next_aged r.next_old rule at refl refl
    (drawn_more 0 n (λ u. u.chunks) r.records id v w at refl rule.chunks) (same_aged k r id v w rule at refl) (same_old k r id v w rule at refl)
    (record { placed = fits.placed; seen = fits.seen; past = omega arith; open_aged = fits.open_aged; open_old = fits.open_old; spent = not_spent v w refl has })

-- more won pairs leave no more blocks open
fewer_open : (space b : ℕ) (won more : List (ℕ × Place)) → used_in space b won ≤ used_in space b more → is_open space more b ≤ is_open space won b
fewer_open space b won more le =
    cond_both (nat_lt (used_in space b more) 64) 1 0 (λ x. x ≤ is_open space won b)
    (λ e. let lt = ltb-true _ _ e in omega (arith, cond-true {A = ℕ} (nat_lt (used_in space b won) 64) 1 0 (lt-ltb (used_in space b won) 64 (omega arith))))
    (λ e. omega arith)

open_at_most_one : (space b : ℕ) (won : List (ℕ × Place)) → is_open space won b ≤ 1
open_at_most_one space b won = cond_both (nat_lt (used_in space b won) 64) 1 0 (λ x. x ≤ 1) (λ _. omega arith) (λ _. omega arith)

two_ways : (s t : Bool) (A B : Record → ℕ) (l : List Record) → weigh A l ≤ 1 → weigh B l ≤ 1 → weigh (λ u. if s then A u else if t then B u else 0) l ≤ 1
two_ways true t A B l a b = a
two_ways false true A B l a b = b
two_ways false false A B l a b = omega (arith, weigh-zero l)

-- a block has one record that claimed it
pub claimed_once : (k : Counts) (r : Race) → Parts k r → (p : Place) → weigh (claims_of p) r.records ≤ 1
claimed_once k r rule p =
    let b = p.block in
    let aged = rule.aged (one_at b) in
    let old = rule.old (one_at b) in
    let high = one_below b r.next_aged in
    let high' = one_below b r.next_old in
    two_ways (p.space == AGED) (p.space == OLD) (λ u. weigh (one_at b) u.aged_blocks) (λ u. weigh (one_at b) u.old_blocks) r.records (omega arith) (omega arith)

pub same_place_is : (p q : Place) → same_place p q ≡ true → p ≡ q
same_place_is p q e =
    let a = and_parts (p.space == q.space) ((p.block == q.block) && (p.cell == q.cell)) e in
    let b = and_parts (p.block == q.block) (p.cell == q.cell) a.1 in
    let s = eqb-true p.space q.space a.0 in let t = eqb-true p.block q.block b.0 in let u = eqb-true p.cell q.cell b.1 in
    λ i. record { space = s i; block = t i; cell = u i }

-- a place in a block that the record didn't claim isn't among its won ones
unclaimed : (p : Place) (u : Record) (won : List (ℕ × Place)) → All (λ q. 0 < claims_of q.1 u) won → claims_of p u ≡ 0 → weigh (place_at p) won ≡ 0
unclaimed p u [] all none = refl
unclaimed p u (q ∷ qs) all none = cond_both (same_place q.1 p) 1 0 (λ x. x + weigh (place_at p) qs ≡ 0)
    (λ e. let head : 0 < claims_of q.1 u = All-head (λ q. 0 < claims_of q.1 u) q qs all in let same = ap (λ (x : Place). claims_of x u) (same_place_is q.1 p e) in absurd (omega arith))
    (λ _. omega (arith, unclaimed p u qs (All-tail (λ q. 0 < claims_of q.1 u) q qs all) none))

-- a place that is new to the record whose block it lies in is new to all records
pub new_place : (k : Counts) (r : Race) (id : ℕ) (v : Record) → Parts k r → get_elem? r.records id ≡ some v → (p : Place) → 0 < claims_of p v → weigh (place_at p) v.won ≡ 0
    → weigh (λ u. weigh (place_at p) u.won) r.records ≡ 0
new_place k r id v rule at p own fresh =
    weigh_alone (claims_of p) (λ u. weigh (place_at p) u.won) r.records id v at (omega (arith, claimed_once k r rule p)) (λ i u h none. unclaimed p u u.won (rule.each i u h).placed none) ∙ fresh

-- a pair stays a pair where a free cell gets a word
pair_stays : (words : List ℕ) (c w : ℕ) → get_or words c 0 ≡ 0 → (q : ℕ × Place) → IsPair words q → IsPair (set words c w) q
pair_stays words c w free q pair =
    let ne : q.0 ≢ c = (λ e. let same = ap (λ (i : ℕ). get_or words i 0) e in word_of-some q.1 (sym pair ∙ (same ∙ free))) in
    get_or-set_other words c q.0 w 0 ne ∙ pair

others_fit : (k : Counts) (words : List ℕ) (c p : ℕ) → get_or words c 0 ≡ 0 → (u : Record) → Fits k words u → Fits k (set words c p) u
others_fit k words c p free u fits = record {
  placed = fits.placed;
  seen = All-weaker (IsPair words) (IsPair (set words c p)) (pair_stays words c p free) u.seen fits.seen;
  past = fits.past;
  open_aged = fits.open_aged;
  open_old = fits.open_old;
  spent = fits.spent;
}

pub win_keeps : (k : Counts) (r : Race) (id : ℕ) (v : Record) (c : ℕ) (p : Place) → Parts k r → get_elem? r.records id ≡ some v → 0 < v.share
    → c < k.cells → get_or r.words c 0 ≡ 0 → IsPlace p → 0 < claims_of p v → weigh (place_at p) v.won ≡ 0
    → Parts k (record r { words = set r.words c (place_word p); records = set r.records id (with_won v (c, p)) })
win_keeps k r id v c p rule at has inside free in' own fresh =
    let w = with_won v (c, p) in
    let fits = rule.each id v at in
    let longer : (space b : ℕ) → used_in space b v.won ≤ used_in space b w.won = λ space b. omega (arith, weigh_push (λ q. if lies_in space b q.1 then 1 else 0) v.won (c, p)) in record {
      size = length-set r.words c (place_word p) ∙ rule.size;
      forward = All-set (λ w. w ≢ 0 → IsForward w) r.words c (place_word p) (λ _. word_of-forward p in') rule.forward;
      chunks = drawn_same 0 r.next_chunk (λ u. u.chunks) r.records id v w at refl rule.chunks;
      aged = drawn_same 0 r.next_aged (λ u. u.aged_blocks) r.records id v w at refl rule.aged;
      old = drawn_same k.kept r.next_old (λ u. u.old_blocks) r.records id v w at refl rule.old;
      won = λ h. (
          let s = weigh-set (λ u. weigh h u.won) r.records id v w at in
          let e = rule.won h in
          let m = weigh_push h v.won (c, p) in
          let len : c < length r.words = omega (arith, rule.size) in
          let f = weigh_words-set h 0 r.words c c (place_word p) (omega arith) len free (word_of-some p) in
          let back = ap (λ (x : Place). h (c, x)) (place_of-word_of p in') in
          omega arith);
      apart = λ x. (
          let s = weigh-set (λ u. weigh (place_at x) u.won) r.records id v w at in
          let m = weigh_push (place_at x) v.won (c, p) in
          let once = cond_both (same_place p x) 1 0 (λ y. y + weigh (λ u. weigh (place_at x) u.won) r.records ≤ 1)
          (λ is. let none = new_place k r id v rule at p own fresh in omega (arith, ap (λ (y : Place). weigh (λ u. weigh (place_at y) u.won) r.records) (same_place_is p x is)))
          (λ _. omega (arith, rule.apart x)) in
          omega arith);
      shares = (let s = weigh-set (λ u. u.share) r.records id v w at in let e = rule.shares in omega arith);
      each = each_set (Fits k (set r.words c (place_word p))) r.records id w (record {
        placed = All-push (λ q. 0 < claims_of q.1 w) v.won (c, p) fits.placed own;
        seen = All-weaker (IsPair r.words) (IsPair (set r.words c (place_word p))) (pair_stays r.words c (place_word p) free) v.seen fits.seen;
        past = fits.past;
        open_aged = le_trans (weigh-le (is_open AGED w.won) (is_open AGED v.won) (λ b. fewer_open AGED b v.won w.won (longer AGED b)) v.aged_blocks) fits.open_aged;
        open_old = le_trans (weigh-le (is_open OLD w.won) (is_open OLD v.won) (λ b. fewer_open OLD b v.won w.won (longer OLD b)) v.old_blocks) fits.open_old;
        spent = not_spent v w refl has;
      }) (λ j u h. others_fit k r.words c (place_word p) free u (rule.each j u h));
    }

pub look_keeps : (k : Counts) (r : Race) (id : ℕ) (v : Record) (c : ℕ) (p : Place) → Parts k r → get_elem? r.records id ≡ some v → 0 < v.share
    → get_or r.words c 0 ≡ place_word p → Parts k (record r { records = set r.records id (with_seen v (c, p)) })
look_keeps k r id v c p rule at has found =
    let w = with_seen v (c, p) in
    let fits = rule.each id v at in
    put_keeps k r id v w r.next_chunk r.next_aged r.next_old rule at refl refl (same_chunks k r id v w rule at refl) (same_aged k r id v w rule at refl) (same_old k r id v w rule at refl) (record {
      placed = fits.placed;
      seen = All-push (IsPair r.words) v.seen (c, p) fits.seen found;
      past = fits.past;
      open_aged = fits.open_aged;
      open_old = fits.open_old;
      spent = not_spent v w refl has;
    })

-- a record that claims more blocks claims those of its won places still
claims-le : (x : Place) (v w : Record) → weigh (one_at x.block) v.aged_blocks ≤ weigh (one_at x.block) w.aged_blocks → weigh (one_at x.block) v.old_blocks ≤ weigh (one_at x.block) w.old_blocks
    → claims_of x v ≤ claims_of x w
claims-le x v w aged old = go (x.space == AGED) (x.space == OLD)
  where
    go : (s t : Bool) → (if s then weigh (one_at x.block) v.aged_blocks else if t then weigh (one_at x.block) v.old_blocks else 0) ≤ (if s then weigh (one_at x.block) w.aged_blocks else if t then weigh (one_at x.block) w.old_blocks else 0)
    go true t = aged
    go false true = old
    go false false = omega arith

still_placed : (v w : Record) → ((h : ℕ → ℕ) → weigh h v.aged_blocks ≤ weigh h w.aged_blocks) → ((h : ℕ → ℕ) → weigh h v.old_blocks ≤ weigh h w.old_blocks)
    → (won : List (ℕ × Place)) → All (λ q. 0 < claims_of q.1 v) won → All (λ q. 0 < claims_of q.1 w) won
still_placed v w aged old won =
    All-weaker (λ q. 0 < claims_of q.1 v) (λ q. 0 < claims_of q.1 w) (λ q h. omega (arith, claims-le q.1 v w (aged (one_at q.1.block)) (old (one_at q.1.block)))) won

pub claim_aged_keeps : (k : Counts) (r : Race) (id : ℕ) (v : Record) → Parts k r → get_elem? r.records id ≡ some v → open_aged v ≡ 0 → 0 < v.share
    → Parts k (record r { next_aged = r.next_aged + 1; records = set r.records id (with_claimed_block true v r.next_aged) })
claim_aged_keeps k r id v rule at none has =
    let n = r.next_aged in let w = with_claimed_block true v n in let fits = rule.each id v at in
    let one = open_at_most_one AGED n v.won in let p = weigh_push (is_open AGED v.won) v.aged_blocks n in
    put_keeps k r id v w r.next_chunk (n + 1) r.next_old rule at refl refl
    (same_chunks k r id v w rule at refl) (drawn_more 0 n (λ u. u.aged_blocks) r.records id v w at refl rule.aged) (same_old k r id v w rule at refl) (record {
      placed = still_placed v w (λ h. omega (arith, weigh_push h v.aged_blocks n)) (λ h. omega arith) v.won fits.placed;
      seen = fits.seen;
      past = fits.past;
      open_aged = omega arith;
      open_old = fits.open_old;
      spent = not_spent v w refl has;
    })

pub claim_old_keeps : (k : Counts) (r : Race) (id : ℕ) (v : Record) → Parts k r → get_elem? r.records id ≡ some v → open_old v ≡ 0 → 0 < v.share
    → Parts k (record r { next_old = r.next_old + 1; records = set r.records id (with_claimed_block false v r.next_old) })
claim_old_keeps k r id v rule at none has =
    let n = r.next_old in let w = with_claimed_block false v n in let fits = rule.each id v at in
    let one = open_at_most_one OLD n v.won in let p = weigh_push (is_open OLD v.won) v.old_blocks n in
    put_keeps k r id v w r.next_chunk r.next_aged (n + 1) rule at refl refl
    (same_chunks k r id v w rule at refl) (same_aged k r id v w rule at refl) (drawn_more k.kept n (λ u. u.old_blocks) r.records id v w at refl rule.old) (record {
      placed = still_placed v w (λ h. omega arith) (λ h. omega (arith, weigh_push h v.old_blocks n)) v.won fits.placed;
      seen = fits.seen;
      past = fits.past;
      open_aged = fits.open_aged;
      open_old = omega arith;
      spent = not_spent v w refl has;
    })

-- an empty record of one share fits
fits_empty : (k : Counts) (words : List ℕ) (n : ℕ) → Fits k words (empty n)
fits_empty k words n = record {
  placed = All-nil (λ q. 0 < claims_of q.1 (empty n));
  seen = All-nil (IsPair words);
  past = omega arith;
  open_aged = omega arith;
  open_old = omega arith;
  spent = λ (e : n ≡ 0). ap empty e;
}

pub each_push : (P : Record → Type 0) (l : List Record) (w : Record) → P w → ((j : ℕ) (u : Record) → get_elem? l j ≡ some u → P u)
    → (j : ℕ) (u : Record) → get_elem? (l ++ w ∷ []) j ≡ some u → P u
each_push P l w new old j u at = ⊎_elim (old j u) (λ same. subst P same new) (at_snoc l w u j at)

-- a weight of records that adds up where two become one
record Adds (g : Record → ℕ) : Type 0 where
  pub none : g (empty 0) ≡ 0
  pub sum : (v w : Record) → g (both v w) ≡ g v + g w

-- Records of which each such weight is as it was keep the rule, where each fits.
same_sums : (k : Counts) (r : Race) (l : List Record) → Parts k r → ((g : Record → ℕ) → Adds g → weigh g l ≡ weigh g r.records)
    → ((j : ℕ) (u : Record) → get_elem? l j ≡ some u → Fits k r.words u) → Parts k (record r { records = l })
same_sums k r l rule same each = record {
  size = rule.size;
  forward = rule.forward;
  chunks = λ h. omega (arith, same (λ u. weigh h u.chunks) (record { none = refl; sum = λ v w. weigh-append h v.chunks w.chunks }), rule.chunks h);
  aged = λ h. omega (arith, same (λ u. weigh h u.aged_blocks) (record { none = refl; sum = λ v w. weigh-append h v.aged_blocks w.aged_blocks }), rule.aged h);
  old = λ h. omega (arith, same (λ u. weigh h u.old_blocks) (record { none = refl; sum = λ v w. weigh-append h v.old_blocks w.old_blocks }), rule.old h);
  won = λ h. same (λ u. weigh h u.won) (record { none = refl; sum = λ v w. weigh-append h v.won w.won }) ∙ rule.won h;
  apart = λ x. omega (arith, same (λ u. weigh (place_at x) u.won) (record { none = refl; sum = λ v w. weigh-append (place_at x) v.won w.won }), rule.apart x);
  shares = same (λ u. u.share) (record { none = refl; sum = λ v w. refl }) ∙ rule.shares;
  each = each;
}

-- what the sum of a weight is after a record is cut in two
cut : (g : Record → ℕ) (l : List Record) (id : ℕ) (v a b : Record) → get_elem? l id ≡ some v → g v ≡ g a + g b → weigh g (set l id a ++ b ∷ []) ≡ weigh g l
cut g l id v a b at parts = let s = weigh-set g l id v a at in let p = weigh_push g (set l id a) b in omega arith

pub split_keeps : (k : Counts) (r : Race) (id n : ℕ) → Parts k r → get_elem? r.records id ≡ some (empty (n + 1)) → 0 < n
    → Parts k (record r { records = set r.records id (empty n) ++ empty 1 ∷ [] })
split_keeps k r id n rule at some_ =
    let rest = empty n in let new = empty 1 in
    same_sums k r (set r.records id rest ++ new ∷ []) rule (λ g adds. cut g r.records id (empty (n + 1)) rest new at (adds.sum rest new))
    (each_push (Fits k r.words) (set r.records id rest) new (fits_empty k r.words 1) (each_set (Fits k r.words) r.records id rest (fits_empty k r.words n) rule.each))

-- what the sum of a weight is after two records become one and a spent one
merged : (g : Record → ℕ) (l : List Record) (id : ℕ) (v : Record) (other : ℕ) (w a b : Record) → get_elem? l id ≡ some v → get_elem? (set l id a) other ≡ some w
    → g a ≡ g v + g w → g b ≡ 0 → weigh g (set (set l id a) other b) ≡ weigh g l
merged g l id v other w a b at at' sum none = let s = weigh-set g l id v a at in let t = weigh-set g (set l id a) other w b at' in omega arith

open_both : (space : ℕ) (won won' : List (ℕ × Place)) (bs bs' : List ℕ) → weigh (is_open space (won ++ won')) (bs ++ bs') ≤ weigh (is_open space won) bs + weigh (is_open space won') bs'
open_both space won won' bs bs' =
    let all = is_open space (won ++ won') in
    let left = weigh-le all (is_open space won) (λ b. fewer_open space b won (won ++ won') (omega (arith, weigh-append (λ (x : ℕ × Place). if lies_in space b x.1 then 1 else 0) won won'))) bs in
    let right = weigh-le all (is_open space won') (λ b. fewer_open space b won' (won ++ won') (omega (arith, weigh-append (λ (x : ℕ × Place). if lies_in space b x.1 then 1 else 0) won won'))) bs' in
    omega (arith, weigh-append all bs bs')

both_spent : (v w : Record) → v ≡ empty 0 → w ≡ empty 0 → both v w ≡ empty 0
both_spent v w e f = ap (λ (x : Record). both x w) e ∙ ap (λ (y : Record). both (empty 0) y) f

pub join_keeps : (k : Counts) (r : Race) (id : ℕ) (v : Record) (other : ℕ) (w : Record) → Parts k r → get_elem? r.records id ≡ some v → ¬ (other ≡ id)
    → get_elem? (set r.records id (both v w)) other ≡ some w → Parts k (record r { records = set (set r.records id (both v w)) other (empty 0) })
join_keeps k r id v other w rule at apart at' =
    let a = both v w in let b = empty 0 in let l = r.records in
    let was : get_elem? l other ≡ some w = sym (set_else l id other a apart) ∙ at' in
    let one = rule.each id v at in let two = rule.each other w was in
    same_sums k r (set (set l id a) other b) rule (λ g adds. merged g l id v other w a b at at' (adds.sum v w) adds.none)
    (each_set (Fits k r.words) (set l id a) other b (fits_empty k r.words 0) (each_set (Fits k r.words) l id a (record {
      placed = All-append (λ q. 0 < claims_of q.1 a) v.won w.won
          (still_placed v a (λ h. omega (arith, weigh-append h v.aged_blocks w.aged_blocks)) (λ h. omega (arith, weigh-append h v.old_blocks w.old_blocks)) v.won one.placed)
          (still_placed w a (λ h. omega (arith, weigh-append h v.aged_blocks w.aged_blocks)) (λ h. omega (arith, weigh-append h v.old_blocks w.old_blocks)) w.won two.placed);
      seen = All-append (IsPair r.words) v.seen w.seen one.seen two.seen;
      past = (let p = one.past in let q = two.past in omega (arith, weigh-append (is_past k) v.chunks w.chunks));
      open_aged = (let p = one.open_aged in let q = two.open_aged in omega (arith, open_both AGED v.won w.won v.aged_blocks w.aged_blocks));
      open_old = (let p = one.open_old in let q = two.open_old in omega (arith, open_both OLD v.won w.won v.old_blocks w.old_blocks));
      spent = λ none. both_spent v w (one.spent (omega arith)) (two.spent (omega arith));
    }) rule.each))

-- The counters stay small.

past_bound : (k : Counts) (n : ℕ) → n ≤ weigh_below (is_past k) n + chunks_of k
past_bound k zero = omega arith
past_bound k (suc n) =
    let h = past_bound k n in
    cond_both (nat_lt n (chunks_of k)) 0 1 (λ x. suc n ≤ x + weigh_below (is_past k) n + chunks_of k) (λ e. omega (arith, ltb-true n (chunks_of k) e)) (λ e. omega arith)

pub few_chunks : (k : Counts) (r : Race) → Rule k r → r.next_chunk ≤ k.helpers + chunks_of k
few_chunks k r rule =
    let d = rule.chunks_once (is_past k) in
    let le = weigh-le_at (past k) (λ u. u.share) r.records (λ j u at. (rule.within_share.0 j u at).past) in
    let s = rule.within_share.1 in
    omega (arith, past_bound k r.next_chunk)

-- Blocks without an open place are full of won places.

-- how many of the pairs lie in a space
abbrev pub in_space : ℕ → List (ℕ × Place) → ℕ
in_space space won = weigh (λ q. if q.1.space == space then 1 else 0) won

in_space_le : (space : ℕ) (won : List (ℕ × Place)) → in_space space won ≤ weigh (λ _. 1) won
in_space_le space won = weigh-le (λ q. if q.1.space == space then 1 else 0) (λ _. 1) (λ q. at_most_one (q.1.space == space)) won
  where
    at_most_one : (s : Bool) → (if s then 1 else 0) ≤ 1
    at_most_one true = omega arith
    at_most_one false = omega arith

-- a pair lies in one of the blocks, if in any, and then in the space
in_one_block : (space : ℕ) (q : ℕ × Place) (bs : List ℕ) → weigh (one_at q.1.block) bs ≤ 1 → weigh (λ b. if lies_in space b q.1 then 1 else 0) bs ≤ (if q.1.space == space then 1 else 0)
in_one_block space q bs once = go (q.1.space == space)
  where
    go : (s : Bool) → weigh (λ b. if s && (b == q.1.block) then 1 else 0) bs ≤ (if s then 1 else 0)
    go true = once
    go false = le_of_eq (weigh-zero bs)

all_used : (space : ℕ) (bs : List ℕ) → ((b : ℕ) → weigh (one_at b) bs ≤ 1) → (won : List (ℕ × Place)) → weigh (λ b. used_in space b won) bs ≤ in_space space won
all_used space bs once [] = le_of_eq (weigh-zero bs)
all_used space bs once (q ∷ qs) =
    omega (arith, weigh-add (λ b. if lies_in space b q.1 then 1 else 0) (λ b. used_in space b qs) bs, in_one_block space q bs (once q.1.block), all_used space bs once qs)

full_or_open : (space : ℕ) (won : List (ℕ × Place)) (b : ℕ) → 64 * 1 ≤ 64 * is_open space won b + used_in space b won
full_or_open space won b = cond_both (nat_lt (used_in space b won) 64) 1 0 (λ x. 64 * 1 ≤ 64 * x + used_in space b won) (λ e. omega arith) (λ e. omega (arith, ltb-false _ _ e))

-- blocks that differ are full of the pairs of their space, but for the open ones
pub blocks_filled : (space : ℕ) (bs : List ℕ) (won : List (ℕ × Place)) → ((b : ℕ) → weigh (one_at b) bs ≤ 1) → 64 * weigh (λ _. 1) bs ≤ 64 * weigh (is_open space won) bs + in_space space won
blocks_filled space bs won once =
    let each = weigh-le (λ b. 64 * 1) (λ b. 64 * is_open space won b + used_in space b won) (full_or_open space won) bs in
    omega (arith, weigh-scale (λ (b : ℕ). 1) bs, weigh-scale (is_open space won) bs, weigh-add (λ b. 64 * is_open space won b) (λ b. used_in space b won) bs, all_used space bs once won)

few_blocks : (space : ℕ) (bs : List ℕ) (won : List (ℕ × Place)) → ((b : ℕ) → weigh (one_at b) bs ≤ 1) → 64 * weigh (λ _. 1) bs ≤ 64 * weigh (is_open space won) bs + length won
few_blocks space bs won once = omega (arith, blocks_filled space bs won once, in_space_le space won, weigh_ones won)

-- the blocks of one space that the records have claimed are few: all but one a helper are full of won cells
few_claimed : (k : Counts) (r : Race) (space start n : ℕ) (of : Record → List ℕ) → Rule k r → IsDrawn start n of r.records
    → ((j : ℕ) (u : Record) → get_elem? r.records j ≡ some u → weigh (is_open space u.won) (of u) ≤ u.share) → 64 * n ≤ 64 * (start + k.helpers) + weigh (λ u. length u.won) r.records
few_claimed k r space start n of rule drawn few_open =
    let once : (b j : ℕ) (u : Record) → get_elem? r.records j ≡ some u → weigh (one_at b) (of u) ≤ 1 =
    λ b j u at. omega (arith, weigh_one_le (λ v. weigh (one_at b) (of v)) r.records j u at, drawn (one_at b), one_below b n) in
    let each = weigh-le_at (λ u. 64 * weigh (λ _. 1) (of u)) (λ u. 64 * weigh (is_open space u.won) (of u) + length u.won) r.records
    (λ j u at. few_blocks space (of u) u.won (λ b. once b j u at)) in
    let opens = weigh-le_at (λ u. weigh (is_open space u.won) (of u)) (λ u. u.share) r.records few_open in
    let all = drawn (λ _. 1) in
    let shares = rule.within_share.1 in
    omega (
      arith,
      weigh-scale (λ u. weigh (λ _. 1) (of u)) r.records,
      weigh-scale (λ u. weigh (is_open space u.won) (of u)) r.records,
      weigh-add (λ u. 64 * weigh (is_open space u.won) (of u)) (λ u. length u.won) r.records,
      count_below n,
      count_below start,
    )

pub aged_few : (k : Counts) (r : Race) → Rule k r → 64 * r.next_aged ≤ 64 * k.helpers + weigh (λ u. length u.won) r.records
aged_few k r rule = let f = few_claimed k r AGED 0 r.next_aged (λ u. u.aged_blocks) rule rule.blocks_once.0 (λ j u at. (rule.within_share.0 j u at).aged_room) in omega arith

pub old_few : (k : Counts) (r : Race) → Rule k r → 64 * r.next_old ≤ 64 * (k.kept + k.helpers) + weigh (λ u. length u.won) r.records
old_few k r rule = few_claimed k r OLD k.kept r.next_old (λ u. u.old_blocks) rule rule.blocks_once.1 (λ j u at. (rule.within_share.0 j u at).old_room)

-- no more cells are won than there are
pub won_few : (k : Counts) (r : Race) → Rule k r → weigh (λ u. length u.won) r.records ≤ k.cells
won_few k r rule = omega (arith, rule.wins_once.won (λ _. 1), rule.size, weigh_words_le 0 r.words, lengths r.records)
  where
    lengths : (l : List Record) → weigh (λ u. weigh (λ _. 1) u.won) l ≡ weigh (λ u. length u.won) l
    lengths [] = refl
    lengths (u ∷ l) = omega (arith, weigh_ones u.won, lengths l)

pub few_aged : (k : Counts) (r : Race) → Rule k r → 64 * r.next_aged ≤ 64 * k.helpers + k.cells
few_aged k r rule = omega (arith, aged_few k r rule, won_few k r rule)

pub few_old : (k : Counts) (r : Race) → Rule k r → 64 * r.next_old ≤ 64 * (k.kept + k.helpers) + k.cells
few_old k r rule = omega (arith, old_few k r rule, won_few k r rule)

-- Where one record has every share, it has all.

pub alone_keeps : (k : Counts) (r : Race) (id : ℕ) (v : Record) → Parts k r → get_elem? r.records id ≡ some v → v.share ≡ k.helpers → Parts k (record r { records = v ∷ [] })
alone_keeps k r id v rule at all =
    same_sums k r (v ∷ []) rule
    (λ g adds. let mine = weigh_alone (λ u. u.share) g r.records id v at (le_of_eq (rule.shares ∙ sym all)) (λ i u h no. ap g ((rule.each i u h).spent no) ∙ adds.none) in omega arith)
    (each_push (Fits k r.words) [] v (rule.each id v at) (λ j u none. absurd (some-ne-none u (sym none))))

-- The start.

pub starts : (k : Counts) → Parts k (record { next_chunk = 0; next_aged = 0; next_old = k.kept; words = replicate k.cells 0; records = empty k.helpers ∷ [] })
starts k = record {
  size = length-replicate k.cells 0;
  forward = All-replicate (λ w. w ≢ 0 → IsForward w) k.cells 0 (λ some_. absurd (some_ refl));
  chunks = λ h. omega arith;
  aged = λ h. omega arith;
  old = λ h. omega arith;
  won = λ h. sym (no_words h 0 k.cells);
  apart = λ w. omega arith;
  shares = omega arith;
  each = each_push (Fits k (replicate k.cells 0)) [] (empty k.helpers) (fits_empty k (replicate k.cells 0) k.helpers) (λ j u none. absurd (some-ne-none u (sym none)));
}
