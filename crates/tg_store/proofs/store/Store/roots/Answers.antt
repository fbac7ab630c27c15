use Rattle.std.proofs.Common.{◌≡◌, subst}
use Rattle.std.specs.Prelude.{IfOk}
use Rattle.tg_space.specs.Targets.{all_root_targets, from_space}
use Rattle.tg_graph.specs.Heap.{CollectAlike, roots_of}
use Rattle.tg_store.specs.Store.{StoreState}
use Rattle.tg_store.proofs.store.Store.roots.Goals as goal

pub returns-clause-roots : goal.returns-clause-roots
returns-clause-roots g c =
    subst (λ (state : StoreState). IfOk c.roots.result (λ roots. CollectAlike c.args.kind state.heap.table.spaces (roots_of c.args.kind state.heap) roots.items)) c.self.view_is c.roots.ensures.roots

pub returns-clause-targets : goal.returns-clause-targets
returns-clause-targets g c =
    subst (λ (state : StoreState). IfOk c.roots.result (λ roots. all_root_targets (from_space c.args.kind) state.heap.table.spaces roots.items ≡ all_root_targets (from_space c.args.kind) state.heap.table.spaces (roots_of c.args.kind state.heap))) c.self.view_is c.roots.ensures.targets
