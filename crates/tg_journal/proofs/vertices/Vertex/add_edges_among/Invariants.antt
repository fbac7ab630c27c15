use Rattle.std.proofs.Common.{◌≡◌, ◌++◌, take}
use Rattle.tg_journal.specs.Inner.Showing.{edges_from}
use Rattle.tg_journal.proofs.vertices.Vertex.add_edges_among.Given as goal

abbrev pub invariant-loop-edge : goal.invariant-loop-edge
invariant-loop-edge l = l.edges.items ≡ l.fn.edges.items ++ edges_from l.self.name (take l.edge-index l.edge-items)
