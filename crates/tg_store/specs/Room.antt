-- Where a collection of a store may find no room.
use Rattle.std.specs.Prelude.{ℕ}
use Rattle.tg_space.specs.SpaceTable.{kept_blocks}
use Rattle.tg_space.specs.declared.kind.Kind.{Kind}
use Rattle.tg_evac.specs.Room.{IsReachedFrom, LacksRoomFor}
use Rattle.tg_graph.specs.Heap.{HeapState, roots_of}

-- So many cells that would be moved are reached from the workers' rows, and for a nursery collection from the remembered cells,
-- that they may not fit into the blocks that a space may have, of which each of so many helpers may leave one open. What isn't
-- reached takes no room.
abbrev pub LacksRoomToCollect : Kind → ℕ → HeapState → Type 0
LacksRoomToCollect kind helpers heap =
    LacksRoomFor heap.table.limits.space_blocks helpers (kept_blocks kind heap.table.spaces) (IsReachedFrom kind heap.table.spaces (roots_of kind heap))
