-- What a collection reaches is in use.
use Rattle.std.proofs.Common.{ℕ, List, subst, arith}
use Rattle.std.specs.List.{All, Contains}
use Rattle.std.proofs.lemmas.List.Elements.{All-contains, All-weaker}
use Rattle.tg_model.specs.Walks.{Walk-within}
use Rattle.tg_space.specs.Collection.{MayLackRoom, used_cells}
use Rattle.tg_space.specs.Soundness.{AreSound, IsRootIn}
use Rattle.tg_space.specs.SpaceList.{SpaceList, IsSpaceList}
use Rattle.tg_space.specs.SpaceTable.{SpaceTable, IsSpaceTable}
use Rattle.tg_space.specs.Targets.{from_space, targets_of, root_targets_of, all_root_targets}
use Rattle.tg_space.specs.declared.kind.Kind.{Kind}
use Rattle.tg_space.specs.declared.root.Root.{Root}
use Rattle.tg_space.proofs.Tables.{table_list}
use Rattle.tg_evac.specs.Claims.{HavePointers}
use Rattle.tg_evac.specs.Room.{IsReachedFrom, LacksRoomFor}
use Rattle.tg_evac.proofs.Chunks.{used_root, used_targets, targets_from}
use Rattle.tg_evac.proofs.Counting.{IsUsed, won_few}
use Rattle.tg_evac.proofs.Sound.{have_pointers}
use Rattle.tg_parallel.proofs.Lists.{flat_found}

module _ (kind : Kind) (h : SpaceList) (is : IsSpaceList h) (pointers : HavePointers h) where
  root_used : (roots : List Root) → All (IsRootIn h) roots → (c : ℕ) → Contains (all_root_targets (from_space kind) h roots) c → IsUsed kind h c
  root_used roots are c held =
      let found = flat_found (root_targets_of (from_space kind) h) roots c held in
      All-contains (IsUsed kind h) (root_targets_of (from_space kind) h found.0) c (used_root kind h is pointers found.0 (All-contains (IsRootIn h) roots found.0 are found.1)) found.2

  next_used : (b c : ℕ) → IsUsed kind h b → Contains (targets_of (from_space kind) h b) c → IsUsed kind h c
  next_used b c used held =
      let ts = subst (λ (ts : List ℕ). All (IsUsed kind h) ts) (targets_from (from_space kind) h is used.place used.held b used.at) (used_targets kind h is pointers used.place used.held) in
      All-contains (IsUsed kind h) (targets_of (from_space kind) h b) c ts held

  reached_used : (roots : List Root) → All (IsRootIn h) roots → (c : ℕ) → IsReachedFrom kind h roots c → IsUsed kind h c
  reached_used roots are = Walk-within (IsUsed kind h) (root_used roots are) next_used

-- so the cells in use may lack room where those that are reached may
pub lacks_used : (kind : Kind) (t : SpaceTable) (roots : List Root) (space_blocks helpers kept : ℕ) → IsSpaceTable t → AreSound t.spaces roots →
    LacksRoomFor space_blocks helpers kept (IsReachedFrom kind t.spaces roots) → MayLackRoom space_blocks helpers kept (used_cells kind t.spaces)
lacks_used kind t roots space_blocks helpers kept table sound lacks =
    let list = table_list t table in
    let used = All-weaker (IsReachedFrom kind t.spaces roots) (IsUsed kind t.spaces) (reached_used kind t.spaces list (have_pointers t.spaces roots sound list) roots sound.roots_held) lacks.cells lacks.from in
    omega (arith, lacks.many, won_few kind t.spaces list lacks.cells lacks.once used)
