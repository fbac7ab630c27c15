-- Where a collection from other roots than a heap's own may find no room.
use Rattle.std.proofs.Common.{◌≡◌, ℕ, List, subst}
use Rattle.tg_space.specs.Closure.{IsInClosure}
use Rattle.tg_space.specs.SpaceTable.{SpaceTable, kept_blocks}
use Rattle.tg_space.specs.Targets.{all_root_targets, from_space, targets_of}
use Rattle.tg_space.specs.declared.kind.Kind.{Kind}
use Rattle.tg_space.specs.declared.root.Root.{Root}
use Rattle.tg_evac.specs.Room.{IsReachedFrom, LacksRoomFor}
use Rattle.tg_graph.specs.Heap.{HeapState, roots_of}
use Rattle.tg_store.specs.Room.{LacksRoomToCollect}

-- roots with the targets of the heap's own reach the same cells
pub lacks_from : (kind : Kind) (helpers : ℕ) (heap : HeapState) (t : SpaceTable) (given roots : List Root) → t ≡ heap.table → given ≡ roots →
    all_root_targets (from_space kind) heap.table.spaces roots ≡ all_root_targets (from_space kind) heap.table.spaces (roots_of kind heap) →
    LacksRoomFor t.limits.space_blocks helpers (kept_blocks kind t.spaces) (IsReachedFrom kind t.spaces given) → LacksRoomToCollect kind helpers heap
lacks_from kind helpers heap t given roots same is targets lacks =
    let blocks = heap.table.limits.space_blocks in let h = heap.table.spaces in
    subst (λ (starts : List ℕ). LacksRoomFor blocks helpers (kept_blocks kind h) (IsInClosure starts (targets_of (from_space kind) h))) targets
    (subst (λ (from : List Root). LacksRoomFor blocks helpers (kept_blocks kind h) (IsReachedFrom kind h from)) is
    (subst (λ (x : SpaceTable). LacksRoomFor x.limits.space_blocks helpers (kept_blocks kind x.spaces) (IsReachedFrom kind x.spaces given)) same lacks))
