use Rattle.std.proofs.Common.{◌≡◌, nat_eq, take}
use Rattle.indexmap.specs.IndexSet.{contains}
use Rattle.tg_journal.proofs.ShowingLaws.{RowsRise, edges_among}
use Rattle.tg_journal.proofs.vertices.Vertices.edges.Given as goal

abbrev pub invariant-loop-vertex : goal.invariant-loop-vertex
invariant-loop-vertex l = record {
  edges : l.edges.items ≡ edges_among (contains nat_eq l.names) (take l.vertex-index l.vertex-items);
  rows : RowsRise (contains nat_eq l.names) (take l.vertex-index l.vertex-items);
}
