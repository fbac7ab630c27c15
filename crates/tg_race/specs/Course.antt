-- The race as a state machine: what is raced over, when an event can happen, and what it makes of the race.
use Rattle.std.specs.Prelude.{◌≡◌, ℕ, ◌+◌, ◌<◌, ◌≤◌, ◌==◌, ◌&&◌, ◌||◌, Bool, true, false, not, nat_lt, List, [], ◌∷◌, ◌++◌, length, replicate, slice_index, slice_index_or, slice_set, if◌then◌else◌, Vec, map}
use Rattle.std.specs.List.{list_any, list_all}
use Rattle.tg_word.specs.declared.Place.{Place}
use Rattle.tg_word.specs.declared.TheConstants.{SPACES, CELLS, MOST_SPACE_BLOCKS}
use Rattle.tg_race.specs.declared.record.Counts.{Counts}
use Rattle.tg_race.specs.declared.record.Record.{Record}
use Rattle.tg_race.specs.declared.shape.Shape.{Shape}
use Rattle.tg_race.specs.declared.event.Event.{Event}
use Rattle.tg_race.specs.declared.event.Event.TheVariants.{Claim, Look, Win, Lose, Block, Part, Meet}
use Rattle.tg_race.specs.Words.{place_word, place_of}
use Rattle.tg_race.specs.Race.{Race, Rule, EachRecord, empty, chunk_of, has_number, past, with_chunk, with_seen, with_won, with_claimed_block, both, less_one}
use Rattle.tg_race.specs.Conditions.{can_claim_roots, can_claim_block, blocks_of, can_use, can_part}

-- the targets of each root and of each cell, Old's first block number, the limit of blocks and the number of helpers
pub record Net : Type 0 where
  pub roots : List (List ℕ)
  pub targets : List (List ℕ)
  pub kept : ℕ
  pub space_blocks : ℕ
  pub helpers : ℕ

abbrev pub counts_of : Net → Counts
counts_of net = record { cells = length net.targets; roots = length net.roots; kept = net.kept; helpers = net.helpers }

-- a race over a net
pub record Course : Type 0 where
  pub net : Net
  pub race : Race

-- ---- targets

-- whether the cell is a target of a root of the chunk
abbrev pub chunk_has : Net → ℕ → ℕ → Bool
chunk_has net cell c = list_any (has_number cell) (chunk_of net.roots c)

-- whether the cell is a target of the cell of the pair
abbrev pub pair_has : Net → ℕ → ℕ × Place → Bool
pair_has net cell q = has_number cell (slice_index_or net.targets q.0 [])

-- whether the cell is a target of a root in one of the chunks, or of one of the won cells
abbrev pub is_target : Net → List ℕ → List (ℕ × Place) → ℕ → Bool
is_target net chunks won cell = list_any (chunk_has net cell) chunks || list_any (pair_has net cell) won

-- ---- events

abbrev pub record_at : Race → ℕ → Record
record_at r helper = slice_index_or r.records helper (empty 0)

abbrev pub forwarding_word : Race → ℕ → ℕ
forwarding_word r cell = slice_index r.words cell

-- whether the place is one of a block that a space may have, and is in range
abbrev pub is_within : Net → Place → Bool
is_within net p =
    nat_lt p.space SPACES && nat_lt p.block MOST_SPACE_BLOCKS && nat_lt p.cell CELLS && nat_lt p.block net.space_blocks

-- the cell has no place yet, is a target of what the record has claimed or won, and the place is the record's to give
abbrev pub can_win : Net → Race → Record → ℕ → Place → Bool
can_win net r v cell place =
    nat_lt cell (length net.targets) && (forwarding_word r cell == 0) && is_target net v.chunks v.won cell
    && is_within net place && can_use v place

-- whether a helper with the record v, which isn't spent, can do this
abbrev pub can : Net → Race → ℕ → Record → Event → Bool
can net r helper v Claim = can_claim_roots (counts_of net) v
can net r helper v (Look cell) = nat_lt cell (length net.targets)
can net r helper v (Win cell place) = can_win net r v cell place
can net r helper v (Lose cell) = nat_lt cell (length net.targets) && not (forwarding_word r cell == 0)
can net r helper v (Block aged) = can_claim_block aged v && list_all (λ b. nat_lt b net.space_blocks) (blocks_of aged v)
can net r helper v Part = can_part v
can net r helper v (Meet other) = not (other == helper) && nat_lt 0 (record_at r other).share

-- whether the event can happen: its helper was made and isn't spent, and its condition holds
abbrev pub can_happen : Course → ℕ → Event → Bool
can_happen c helper e = nat_lt 0 (record_at c.race helper).share && can c.net c.race helper (record_at c.race helper) e

abbrev pub put : Race → ℕ → Record → Race
put r helper v = record r { records = slice_set r.records helper v }

-- the race race_after a helper with the record v has seen the pair of a cell and its place
abbrev pub sees : Race → ℕ → Record → ℕ → Race
sees r helper v cell = put r helper (with_seen v (cell, place_of (forwarding_word r cell)))

-- the race race_after an event of a helper with the record v
abbrev pub race_after : Race → ℕ → Record → Event → Race
race_after r helper v Claim = record r { next_chunk = r.next_chunk + 1; records = slice_set r.records helper (with_chunk v r.next_chunk) }
race_after r helper v (Look cell) = if forwarding_word r cell == 0 then r else sees r helper v cell
race_after r helper v (Win cell place) = record r { words = slice_set r.words cell (place_word place); records = slice_set r.records helper (with_won v (cell, place)) }
race_after r helper v (Lose cell) = sees r helper v cell
race_after r helper v (Block aged) =
    if aged then record r { next_aged = r.next_aged + 1; records = slice_set r.records helper (with_claimed_block true v r.next_aged) }
    else record r { next_old = r.next_old + 1; records = slice_set r.records helper (with_claimed_block false v r.next_old) }
race_after r helper v Part = record r { records = slice_set r.records helper (less_one v) ++ empty 1 ∷ [] }
race_after r helper v (Meet other) = record r { records = slice_set (slice_set r.records helper (both v (record_at r other))) other (empty 0) }

-- the course race_after an event
abbrev pub happens : Course → ℕ → Event → Course
happens c helper e = record c { race = race_after c.race helper (record_at c.race helper) e }

-- it is told whether the event can happen, and it happens where it can
abbrev pub HappensIfItCan : Course → Course → ℕ → Event → Bool → Type 0
HappensIfItCan old new helper e told = (told ≡ can_happen old helper e) × (new ≡ (if told then happens old helper e else old))

-- the course race_after a list of events, of any helpers; one that can't happen changes nothing
abbrev pub course_after : Course → List (ℕ × Event) → Course
course_after c [] = c
course_after c (e ∷ es) = course_after (if can_happen c e.0 e.1 then happens c e.0 e.1 else c) es

-- all cells are free, and one empty record represents all helpers
abbrev pub starting : Net → Course
starting net = record {
  net = net;
  race = record { next_chunk = 0; next_aged = 0; next_old = net.kept; words = replicate (length net.targets) 0; records = empty net.helpers ∷ [] };
}

-- ---- the rule of a course

-- each win was earned: its cell is a target of a root of a claimed chunk, or of a cell won before it; `before` has those
abbrev pub IsEarned : Net → List ℕ → List (ℕ × Place) → List (ℕ × Place) → Type 0
IsEarned net chunks before [] = Unit {0}
IsEarned net chunks before (q ∷ qs) = (is_target net chunks before q.0 ≡ true) × IsEarned net chunks (q ∷ before) qs

-- the wins of the record were earned
abbrev pub HasEarnedWins : Net → Record → Type 0
HasEarnedWins net v = IsEarned net v.chunks [] v.won

-- the rule, and each record's wins were earned
pub record KeepsRule (c : Course) : Type 0 where
  pub rule : Rule (counts_of c.net) c.race
  pub wins_earned : EachRecord (HasEarnedWins c.net) c.race.records

-- ---- what a complete record says

-- the closure of the roots: the cells that targets lead to from them
pub data IsReachedCell (net : Net) : ℕ → Type 0 where
  root : (cell : ℕ) → list_any (has_number cell) net.roots ≡ true → IsReachedCell net cell
  next : (cell to : ℕ) → IsReachedCell net cell → has_number to (slice_index_or net.targets cell []) ≡ true → IsReachedCell net to

-- whether the record has won the cell, or seen it with a place
abbrev pub has_met : Record → ℕ → Bool
has_met v cell = list_any (λ q. q.0 == cell) v.won || list_any (λ q. q.0 == cell) v.seen

-- a chunk past the last was claimed, and every target of the roots of claimed chunks and of the won cells was won or seen
pub record IsCompleteRecord (net : Net) (v : Record) : Type 0 where
  pub last : 0 < past (counts_of net) v
  pub met : (cell : ℕ) → is_target net v.chunks v.won cell ≡ true → has_met v cell ≡ true

-- ---- the shape that a program hands in

abbrev pub lists : {A : Type 0} → List (Vec ℕ A) → List (List ℕ)
lists = map (λ v. v.items)

abbrev pub net_of : Shape → Net
net_of s = record { roots = lists s.roots.items; targets = lists s.targets.items; kept = s.kept; space_blocks = s.space_blocks; helpers = s.helpers }

-- the numbers with which a race is run: at most 1,048,576 blocks are kept, and there is a helper
abbrev pub IsRaceable : Net → Type 0
IsRaceable net = (net.kept ≤ MOST_SPACE_BLOCKS) × (0 < net.helpers)

-- what holds of the net of each world: its lists and its count of helpers are no longer than a program's
pub record IsHeldNet (net : Net) : Type 0 where
  pub raceable : IsRaceable net
  pub helpers : net.helpers < 4294967296
  pub roots : length net.roots < 9223372036854775808
  pub targets : length net.targets < 9223372036854775808
