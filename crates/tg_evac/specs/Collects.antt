-- What a collection promises, by whomever it is done.
use Rattle.std.specs.Prelude.{◌≡◌, ℕ, ◌+◌, ◌≤◌, List, Result, IfErr, IfOk}
use Rattle.tg_space.specs.Collection.{AreFewBlocks, IsCollection, collected_in, copies_in, used_cells}
use Rattle.tg_space.specs.SpaceTable.{SpaceTable, kept_blocks}
use Rattle.tg_space.specs.declared.copied.Copied.{Copied}
use Rattle.tg_space.specs.declared.kind.Kind.{Kind}
use Rattle.tg_space.specs.declared.root.Root.{Root}
use Rattle.tg_evac.specs.Room.{IsReachedFrom, LacksRoomFor}

-- What is handed over is a collection, of no more copies than there are cells in use, and within the limit, with so many
-- blocks of a space more than its copies need. This call shows that the heap is full only where so many helpers may lack
-- room for what is reached
pub record CollectsRoots {Fault : Type 0} (heap_full : Fault) (kind : Kind) (t : SpaceTable) (roots : List Root) (more helpers : ℕ) (result : Result Copied Fault) : Type 0 where
  pub collected : IfOk result (λ copied. IsCollection kind t.spaces roots (collected_in copied))
  pub moved : IfOk result (λ copied. copies_in copied.forward.words 0 + copies_in copied.forward.words 1 ≤ used_cells kind t.spaces)
  pub few : IfOk result (λ copied. AreFewBlocks t.limits.space_blocks (kept_blocks kind t.spaces) more (collected_in copied))
  pub full : IfErr result (λ fault. fault ≡ heap_full → LacksRoomFor t.limits.space_blocks helpers (kept_blocks kind t.spaces) (IsReachedFrom kind t.spaces roots))
