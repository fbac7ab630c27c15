use Rattle.std.specs.List.{AllWithin}
use Rattle.tg_model.specs.Graph.{IsSubject}
use Rattle.tg_store.specs.Store.{graph_of_store}
use Rattle.tg_c.proofs.law_store.LawStore.are_workers.Given as goal

abbrev pub invariant-loop-name : goal.invariant-loop-name
invariant-loop-name l = AllWithin (IsSubject (graph_of_store l.self.store)) l.names 0 l.name-index
