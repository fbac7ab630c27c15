-- What the one helper that is left hands over, where the table is closed.
use Rattle.std.specs.Prelude.{ℕ, ◌<◌, ◌≤◌, ◌↔◌, ◌⊎◌, List}
use Rattle.std.specs.List.{Contains}
use Rattle.tg_word.specs.declared.Place.{Place}
use Rattle.tg_word.specs.declared.TheConstants.{MOST_SPACE_BLOCKS}
use Rattle.tg_space.specs.Soundness.{AreSound}
use Rattle.tg_space.specs.Collection.{Collected}
use Rattle.tg_space.specs.Generations.{NamesYoung}
use Rattle.tg_space.specs.SpaceList.{BlockList, SpaceList}
use Rattle.tg_space.specs.SpaceTable.{IsSpaceTable, SpaceTable, kept_blocks}
use Rattle.tg_space.specs.declared.kind.Kind.{Kind}
use Rattle.tg_space.specs.declared.root.Root.{Root}
use Rattle.tg_space.specs.declared.root.Root.TheVariants.{Remembered}
use Rattle.tg_evac.specs.declared.plan.Plan.{Plan}
use Rattle.tg_evac.specs.Claims.{IsPlanFor}
use Rattle.tg_evac.specs.Copies.{IsPlaceIn, moved_cell, new_cell}
use Rattle.tg_race.specs.declared.record.Counts.{Counts}
use Rattle.tg_race.specs.declared.record.Record.{Record}
use Rattle.tg_race.specs.Board.{IsClosedTable}
use Rattle.tg_race.specs.Race.{past}
use Rattle.tg_parallel.specs.Merged.{AreMerged}
use Rattle.tg_parallel.specs.Parts.{AreCountsOf, AreEarned, IsPart, Numbered}

-- its record represents all helpers: the table was closed with it, all chunks of roots were claimed, its wins were earned, and
-- the blocks are what it asks for
pub record IsWholePart (kind : Kind) (t : SpaceTable) (roots : List Root) (k : Counts) (words : List ℕ) (done : Record) (aged old : Numbered) : Type 0 where
  pub counts : AreCountsOf kind t.spaces roots k
  pub closed : IsClosedTable k words done
  pub last : 0 < past k done
  pub earned : AreEarned kind t.spaces roots done
  pub part : IsPart kind t roots done aged old

-- what all helpers handed over becomes these words and these blocks
pub record IsHandedOver (kind : Kind) (t : SpaceTable) (roots : List Root) (made : Collected) : Type 0 where
  pub counts : Counts
  pub done : Record
  pub aged : Numbered
  pub old : Numbered
  pub whole : IsWholePart kind t roots counts made.forward done aged old
  pub merged : AreMerged kind (kept_blocks kind t.spaces) aged old made.aged made.old

-- The place has to be noted: it is that of a remembered root whose cell names a young one after the move, or that of a new
-- cell of Old that names a young one.
abbrev pub MustBeNoted : Kind → SpaceList → List Root → List ℕ → BlockList → Place → Type 0
MustBeNoted kind h roots words old p =
    (Contains roots (Remembered p) × NamesYoung (moved_cell kind h words p))
    ⊎ (IsPlaceIn 0 (kept_blocks kind h) old p × NamesYoung (new_cell (kept_blocks kind h) old p))

-- exactly the places that have to be noted are noted
abbrev pub AreNoted : Kind → SpaceList → List Root → List ℕ → BlockList → List Place → Type 0
AreNoted kind h roots words old notes = (p : Place) → Contains notes p ↔ MustBeNoted kind h roots words old p

-- spaces and roots that may be collected by a plan
pub record MayFinish (t : SpaceTable) (roots : List Root) (plan : Plan) : Type 0 where
  pub sound : AreSound t.spaces roots
  pub spaces : IsSpaceTable t
  pub limit : t.limits.space_blocks ≤ MOST_SPACE_BLOCKS
  pub planned : IsPlanFor plan.kind t plan
