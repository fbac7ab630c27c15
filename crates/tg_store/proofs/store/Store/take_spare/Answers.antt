-- The spare blocks are none of the heap that is seen.
use Rattle.std.proofs.Common.{subst, sym}
use Rattle.tg_graph.specs.Heap.{HeapState}
use Rattle.tg_store.specs.Store.{IsStore}
use Rattle.tg_store.proofs.store.Store.take_spare.Goals as goal

pub invariant_of-self : goal.invariant_of-self
invariant_of-self g c =
    subst (λ (h : HeapState). IsStore (record { opening = c.self.inside.opening; entries = c.self.inside.journal.entries; handed = c.self.inside.journal.start; heap = h; collections = c.self.inside.collections }) c.self.inside.made) (sym c.take_spare.ensures) c.self.invariant
