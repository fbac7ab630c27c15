use Rattle.std.proofs.Common.{◌≡◌, ◌++◌, take}
use Rattle.tg_journal.specs.Inner.Showing.{edges_from}
use Rattle.tg_store.proofs.store.snapshot.add_row.Given as goal

-- the edges before this one were added
abbrev pub invariant-loop-edge : goal.invariant-loop-edge
invariant-loop-edge g l = l.edges.items ≡ l.fn.edges.items ++ edges_from l.from (take l.edge-index l.edge-items)
