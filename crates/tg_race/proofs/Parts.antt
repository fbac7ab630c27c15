-- The rule as the proofs keep it: what it says of each record is together, and ownership is a count.
use Rattle.std.proofs.Common.{◌≡◌, ℕ, ◌<◌, ◌≤◌, ◌==◌, List, length, Bool, true, false, if◌then◌else◌, nat_lt, All, arith}
use Rattle.std.specs.List.{list_any}
use Rattle.std.proofs.lemmas.Bool.{false≢true}
use Rattle.std.proofs.lemmas.List.Elements.{All-weaker}
use mathlib.Core.Option.{some}
use lib.ListN.{get_elem?}
use Rattle.tg_race.specs.declared.record.Counts.{Counts}
use Rattle.tg_race.specs.declared.record.Record.{Record}
use Rattle.tg_word.specs.declared.Place.{Place}
use Rattle.tg_race.specs.Weights.{weigh, one_at}
use Rattle.tg_race.specs.Words.{weigh_words, AreForward, IsPair, place_at, OLD, AGED}
use Rattle.tg_race.specs.Race.{Race, Rule, empty, chunks_of, used_in, past, owns, IsDrawn}
use Rattle.tg_race.proofs.Sums.{any_weighs, weighs_any}

-- whether the chunk is past the last: 1 or 0
abbrev pub is_past : Counts → ℕ → ℕ
is_past k c = if nat_lt c (chunks_of k) then 0 else 1

-- whether a block has room: 1 or 0
abbrev pub is_open : ℕ → List (ℕ × Place) → ℕ → ℕ
is_open space won b = if nat_lt (used_in space b won) 64 then 1 else 0

abbrev pub open_aged : Record → ℕ
open_aged v = weigh (is_open AGED v.won) v.aged_blocks

abbrev pub open_old : Record → ℕ
open_old v = weigh (is_open OLD v.won) v.old_blocks

-- how often the record has claimed the block in which the place lies
abbrev pub claims_of : Place → Record → ℕ
claims_of p v = if p.space == AGED then weigh (one_at p.block) v.aged_blocks else if p.space == OLD then weigh (one_at p.block) v.old_blocks else 0

-- what the rule says of one record
pub record Fits (k : Counts) (words : List ℕ) (v : Record) : Type 0 where
  pub placed : All (λ q. 0 < claims_of q.1 v) v.won
  pub seen : All (IsPair words) v.seen
  pub past : past k v ≤ v.share
  pub open_aged : open_aged v ≤ v.share
  pub open_old : open_old v ≤ v.share
  pub spent : v.share ≡ 0 → v ≡ empty 0

pub record Parts (k : Counts) (r : Race) : Type 0 where
  pub size : length r.words ≡ k.cells
  pub chunks : IsDrawn 0 r.next_chunk (λ v. v.chunks) r.records
  pub aged : IsDrawn 0 r.next_aged (λ v. v.aged_blocks) r.records
  pub old : IsDrawn k.kept r.next_old (λ v. v.old_blocks) r.records
  pub forward : AreForward r.words
  pub won : (h : ℕ × Place → ℕ) → weigh (λ v. weigh h v.won) r.records ≡ weigh_words h 0 r.words
  pub apart : (p : Place) → weigh (λ v. weigh (place_at p) v.won) r.records ≤ 1
  pub shares : weigh (λ v. v.share) r.records ≡ k.helpers
  pub each : (id : ℕ) (v : Record) → get_elem? r.records id ≡ some v → Fits k r.words v

pub owns_claims : (v : Record) (p : Place) → owns v p ≡ true → 0 < claims_of p v
owns_claims v p h = go (p.space == AGED) (p.space == OLD) h
  where
    go : (s t : Bool) → (if s then list_any (λ b. b == p.block) v.aged_blocks else if t then list_any (λ b. b == p.block) v.old_blocks else false) ≡ true
        → 0 < (if s then weigh (one_at p.block) v.aged_blocks else if t then weigh (one_at p.block) v.old_blocks else 0)
    go true t h = any_weighs (λ (b : ℕ). b == p.block) v.aged_blocks h
    go false true h = any_weighs (λ (b : ℕ). b == p.block) v.old_blocks h
    go false false h = absurd (false≢true h)

pub claims_owns : (v : Record) (p : Place) → 0 < claims_of p v → owns v p ≡ true
claims_owns v p h = go (p.space == AGED) (p.space == OLD) h
  where
    go : (s t : Bool) → 0 < (if s then weigh (one_at p.block) v.aged_blocks else if t then weigh (one_at p.block) v.old_blocks else 0)
        → (if s then list_any (λ b. b == p.block) v.aged_blocks else if t then list_any (λ b. b == p.block) v.old_blocks else false) ≡ true
    go true t h = weighs_any (λ (b : ℕ). b == p.block) v.aged_blocks h
    go false true h = weighs_any (λ (b : ℕ). b == p.block) v.old_blocks h
    go false false h = absurd (omega arith)

pub rule_of : (k : Counts) (r : Race) → Parts k r → Rule k r
rule_of k r p = record {
  size = p.size;
  chunks_once = p.chunks;
  blocks_once = (p.aged, p.old);
  wins_once = record { forward = p.forward; won = p.won };
  places_own = record {
    apart = p.apart;
    owned = λ id v at. All-weaker (λ q. 0 < claims_of q.1 v) (λ q. owns v q.1 ≡ true) (λ q h. claims_owns v q.1 h) v.won (p.each id v at).placed;
  };
  seen_stands = λ id v at. (p.each id v at).seen;
  within_share = (
    (λ id v at. record { past = (p.each id v at).past; aged_room = (p.each id v at).open_aged; old_room = (p.each id v at).open_old }),
    p.shares,
  );
  spent = λ id v at. (p.each id v at).spent;
}

pub parts_of : (k : Counts) (r : Race) → Rule k r → Parts k r
parts_of k r rule = record {
  size = rule.size;
  chunks = rule.chunks_once;
  aged = rule.blocks_once.0;
  old = rule.blocks_once.1;
  forward = rule.wins_once.forward;
  won = rule.wins_once.won;
  apart = rule.places_own.apart;
  shares = rule.within_share.1;
  each = λ id v at. record {
    placed = All-weaker (λ q. owns v q.1 ≡ true) (λ q. 0 < claims_of q.1 v) (λ q h. owns_claims v q.1 h) v.won (rule.places_own.owned id v at);
    seen = rule.seen_stands id v at;
    past = (rule.within_share.0 id v at).past;
    open_aged = (rule.within_share.0 id v at).aged_room;
    open_old = (rule.within_share.0 id v at).old_room;
    spent = rule.spent id v at;
  };
}
