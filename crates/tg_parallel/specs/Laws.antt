-- What the laws of joining say: words that no other contract needs.
use Rattle.std.specs.Prelude.{ℕ, ◌+◌, ◌++◌, ◌≤◌, List}
use Rattle.tg_word.specs.declared.TheConstants.{MOST_SPACE_BLOCKS}
use Rattle.tg_space.specs.Collection.{AreFewBlocks, Collected, MayLackRoom, copies_in, used_cells}
use Rattle.tg_space.specs.Soundness.{AreSound}
use Rattle.tg_space.specs.SpaceTable.{SpaceTable, IsSpaceTable, kept_blocks}
use Rattle.tg_space.specs.declared.kind.Kind.{Kind}
use Rattle.tg_space.specs.declared.root.Root.{Root}
use Rattle.tg_race.specs.declared.record.Counts.{Counts}
use Rattle.tg_race.specs.declared.record.Record.{Record}
use Rattle.tg_race.specs.Board.{IsClosedTable}
use Rattle.tg_race.specs.Race.{both}
use Rattle.tg_evac.specs.Room.{IsReachedFrom, LacksRoomFor}
use Rattle.tg_parallel.specs.Parts.{AreCountsOf, AreEarned, IsPart, Numbered}
use Rattle.tg_parallel.specs.Whole.{AreNoted, IsHandedOver}

-- the parts of both records become one part of the record that they become
abbrev pub PartsBecomeOne : Kind → SpaceTable → List Root → Record → Record → Type 0
PartsBecomeOne kind t roots v w =
    (a c b d : Numbered) → IsPart kind t roots v a c → IsPart kind t roots w b d → IsPart kind t roots (both v w) (a ++ b) (c ++ d)

-- a race over these spaces is over: one record represents all helpers, and its wins were earned
pub record ClosedRace (kind : Kind) (t : SpaceTable) (roots : List Root) : Type 0 where
  pub counts : Counts
  pub words : List ℕ
  pub done : Record
  pub of_spaces : AreCountsOf kind t.spaces roots counts
  pub closed : IsClosedTable counts words done
  pub earned : AreEarned kind t.spaces roots done

-- a collection by so many helpers may lack room for the cells that are reached
abbrev pub LacksRoomIn : Kind → SpaceTable → List Root → ℕ → Type 0
LacksRoomIn kind t roots helpers = LacksRoomFor t.limits.space_blocks helpers (kept_blocks kind t.spaces) (IsReachedFrom kind t.spaces roots)

-- where room may be lacking for the cells that are reached, it may be for the cells in use
abbrev pub LackIsOfUsedCells : Kind → SpaceTable → List Root → Type 0
LackIsOfUsedCells kind t roots =
    (space_blocks helpers kept : ℕ) → LacksRoomFor space_blocks helpers kept (IsReachedFrom kind t.spaces roots) → MayLackRoom space_blocks helpers kept (used_cells kind t.spaces)

-- the blocks are within the limit, and as many as the copies need, but for one a helper
abbrev pub AreFewFor : Kind → SpaceTable → ℕ → Collected → Type 0
AreFewFor kind t helpers made = AreFewBlocks t.limits.space_blocks (kept_blocks kind t.spaces) helpers made

-- the spaces and roots may be collected
pub record AreSoundSpaces (t : SpaceTable) (roots : List Root) : Type 0 where
  pub table : IsSpaceTable t
  pub sound : AreSound t.spaces roots

-- how many copies the words are of, in both spaces
abbrev pub all_copies_in : List ℕ → ℕ
all_copies_in words = copies_in words 0 + copies_in words 1

-- helpers have handed over all of this, and it has the notes that it has to have
pub record IsFinished (kind : Kind) (t : SpaceTable) (roots : List Root) (made : Collected) : Type 0 where
  pub table : IsSpaceTable t
  pub limit : t.limits.space_blocks ≤ MOST_SPACE_BLOCKS
  pub handed : IsHandedOver kind t roots made
  pub noted : AreNoted kind t.spaces roots made.forward made.old made.notes
