-- What a helper says at the end, or several that became one.
use Rattle.std.specs.Prelude.{◌≡◌, ◌≢◌, ◌⊎◌, ℕ, ◌+◌, ◌<◌, ◌++◌, List, [], ◌∷◌, IfOk, IfErr, Result, Ok, Err, All, length, map}
use Rattle.tg_space.specs.SpaceTable.{SpaceTable}
use Rattle.tg_space.specs.declared.kind.Kind.{Kind}
use Rattle.tg_space.specs.declared.root.Root.{Root}
use Rattle.tg_race.specs.Race.{empty, past}
use Rattle.tg_race.specs.Seats.{Board, Seated}
use Rattle.tg_space.specs.declared.room_fault.RoomFault.TheVariants.{HeapFull}
use Rattle.tg_parallel.specs.declared.part.Helped.{Helped}
use Rattle.tg_parallel.specs.declared.part.Part.{Part}
use Rattle.tg_space.specs.declared.room_fault.RoomFault.{RoomFault}
use Rattle.tg_parallel.specs.Parts.{AreEarned, IsPart, IsPastLimit}

-- Helpers of so many shares sat at the table. Their wins are earned, whatever came of it. Where they made a part, the chunk
-- past the last was claimed, and the part is what their record asks for. They say that the heap is full only where they
-- have claimed a block past the limit
pub record IsHelped (kind : Kind) (t : SpaceTable) (from : List Root) (board : Board) (shares : ℕ) (r : Helped) : Type 0 where
  pub seat : r.helper.table ≡ board.table
  pub share : r.helper.done.share ≡ shares
  pub earned : AreEarned kind t.spaces from r.helper.done
  pub last : IfOk r.part (λ part. 0 < past board.counts r.helper.done)
  pub whole : IfOk r.part (λ part. IsPart kind t from r.helper.done part.aged.items part.old.items)
  pub full : IfErr r.part (λ fault. fault ≡ HeapFull → IsPastLimit t r.helper.done)

-- all that two parts have
pub record IsOneOf (a b c : Part) : Type 0 where
  pub aged : c.aged.items ≡ a.aged.items ++ b.aged.items
  pub old : c.old.items ≡ a.old.items ++ b.old.items
  pub left : c.left.items ≡ a.left.items ++ b.left.items

-- all that two parts have, or a fault: that of one of the two, or lack of memory
abbrev pub IsOfBoth : Result Part RoomFault → Result Part RoomFault → Result Part RoomFault → Type 0
IsOfBoth (Ok a) (Ok b) (Ok c) = IsOneOf a b c
IsOfBoth (Ok a) (Ok b) (Err fault) = fault ≢ HeapFull
IsOfBoth (Ok a) (Err why) (Ok c) = ⊥
IsOfBoth (Ok a) (Err why) (Err fault) = fault ≡ why
IsOfBoth (Err why) b (Ok c) = ⊥
IsOfBoth (Err why) b (Err fault) = fault ≡ why

-- The fault is that of the first of these parts that has one, or else lack of memory in putting the parts together.
abbrev pub IsFaultOfLeast : List (Result Part RoomFault) → RoomFault → Type 0
IsFaultOfLeast [] fault = fault ≢ HeapFull
IsFaultOfLeast (Ok part ∷ parts) fault = IsFaultOfLeast parts fault
IsFaultOfLeast (Err why ∷ parts) fault = (fault ≡ why) ⊎ (fault ≢ HeapFull)

-- what the helper on the calling thread and the others have made, in the order of the helpers' numbers
abbrev pub parts_helped : Helped → List Helped → List (Result Part RoomFault)
parts_helped mine theirs = mine.part ∷ map (λ r. r.part) theirs

-- what two helpers say is said of both together
abbrev pub AreHelpedTogether : Board → Helped → Helped → Helped → Type 0
AreHelpedTogether board mine theirs together =
    (kind : Kind) (t : SpaceTable) (roots : List Root) (a b : ℕ) → IsHelped kind t roots board a mine → IsHelped kind t roots board b theirs → IsHelped kind t roots board (a + b) together

-- and what one and others of share 1 say
abbrev pub AllAreHelpedTogether : Board → Helped → List Helped → Helped → Type 0
AllAreHelpedTogether board mine theirs together =
    (kind : Kind) (t : SpaceTable) (roots : List Root) (a : ℕ) → IsHelped kind t roots board a mine → All (IsHelped kind t roots board 1) theirs → IsHelped kind t roots board (a + length theirs) together

-- a helper at the table that has done nothing yet
pub record IsNew (board : Board) (s : Seated) : Type 0 where
  pub seat : s.table ≡ board.table
  pub done : s.done ≡ empty 1

-- the helper on the calling thread, and so many others
pub record AllHelped (kind : Kind) (t : SpaceTable) (from : List Root) (board : Board) (others : ℕ) (mine : Helped) (theirs : List Helped) : Type 0 where
  pub first : IsHelped kind t from board 1 mine
  pub rest : All (IsHelped kind t from board 1) theirs
  pub many : length theirs ≡ others
