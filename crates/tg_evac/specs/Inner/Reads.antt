-- What was read ahead, and what is asked of a won cell.
use Rattle.std.specs.Prelude.{◌≡◌, ℕ, ◌<◌, ◌≤◌, List, length}
use Rattle.tg_word.specs.Word.{place_in}
use Rattle.tg_space.specs.SpaceList.{SpaceList}
use Rattle.tg_space.specs.declared.kind.Kind.{Kind}
use Rattle.tg_space.specs.declared.kind.Kind.TheVariants.{Full}
use Rattle.tg_evac.specs.Win.{Win}
use Rattle.tg_evac.specs.Claims.{win_at}
use Rattle.tg_evac.specs.Claimers.{AreRead, Walked}
use Rattle.tg_evac.specs.declared.copies.Ahead.{Ahead}
use Rattle.tg_evac.specs.declared.copies.TheConstants.{NEAR}

-- the words are those of so many won cells from the first on, and there is room for no more
pub record HasReadAhead (h : SpaceList) (won : List Win) (ahead : Ahead) : Type 0 where
  pub few : ahead.count ≤ NEAR
  pub read : AreRead h won ahead.first ahead.count ahead.words

-- a cell was won as the k-th, and its copy is in Old where the collection is full
pub record MayAskFor {Fixed : Type 0} (kind : Kind) (k : ℕ) (w : Walked Fixed) : Type 0 where
  pub next : k < length w.won
  pub full : kind ≡ Full → (place_in (win_at w.won k).word).space ≡ 0
