-- What is asked for before a root is claimed, and before it is noted.
use Rattle.std.specs.Prelude.{◌≡◌, ℕ, ◌+◌, ◌<◌, ◌≤◌, false, List, length}
use Rattle.std.specs.List.{All}
use Rattle.tg_word.specs.declared.TheConstants.{MOST_SPACE_BLOCKS}
use Rattle.tg_word.specs.declared.Place.{Place}
use Rattle.tg_space.specs.SpaceList.{SpaceList, BlockList, HasCell}
use Rattle.tg_space.specs.Soundness.{IsPointer, IsRootIn}
use Rattle.tg_space.specs.Targets.{from_space}
use Rattle.tg_space.specs.declared.kind.Kind.{Kind}
use Rattle.tg_space.specs.declared.root.Root.{Root}
use Rattle.tg_evac.specs.Claimers.{Walked}
use Rattle.tg_evac.specs.Copies.{AreForwarded}
use Rattle.tg_evac.specs.Walks.{MayWalk}

-- ---- the claims of what a root names

pub record MayClaimRoot {Fixed : Type 0} (kind : Kind) (h : SpaceList) (one : Root) (w : Walked Fixed) : Type 0 where
  pub walk : MayWalk kind h w
  pub root : IsRootIn h one

-- of a cell that is held
pub record MayClaimAt {Fixed : Type 0} (kind : Kind) (h : SpaceList) (place : Place) (w : Walked Fixed) : Type 0 where
  pub walk : MayWalk kind h w
  pub held : HasCell h place

-- which isn't moved
pub record MayClaimKept {Fixed : Type 0} (kind : Kind) (h : SpaceList) (place : Place) (w : Walked Fixed) : Type 0 where
  pub walk : MayWalk kind h w
  pub held : HasCell h place
  pub kept : from_space kind place.space ≡ false

-- of the chunks to which a link leads
pub record MayClaimChunks {Fixed : Type 0} (kind : Kind) (h : SpaceList) (first : ℕ) (w : Walked Fixed) : Type 0 where
  pub walk : MayWalk kind h w
  pub link : IsPointer h first

-- ---- the notes

pub record MayNoteRoots (h : SpaceList) (starts words : List ℕ) (all : List Root) : Type 0 where
  pub forward : AreForwarded h starts words
  pub roots : All (IsRootIn h) all

pub record MayNoteRoot (h : SpaceList) (starts words : List ℕ) (one : Root) : Type 0 where
  pub forward : AreForwarded h starts words
  pub root : IsRootIn h one

-- one of these blocks of Old, after as many other ones
pub record MayNoteBlock (kept : ℕ) (blocks : BlockList) (block : ℕ) : Type 0 where
  pub few : kept + length blocks ≤ MOST_SPACE_BLOCKS
  pub inside : block < length blocks
