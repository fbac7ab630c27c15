use Rattle.std.proofs.Common.{◌≡◌, ◌<◌, ℕ, get_or, length}
use Rattle.tg_word.specs.declared.Place.{Place}
use Rattle.tg_rows.specs.Rows.{IsVertexAt}
use Rattle.tg_graph.specs.Heap.{KeepsPlaces}
use Rattle.tg_snapshot.specs.declared.vertex.ShownVertex.{ShownVertex}
use Rattle.tg_rebuild.specs.Inner.Raising.{AreMadeUpTo}
use Rattle.tg_rebuild.proofs.vertices.place_vertices.Given as goal

-- the vertices before this place of the list are where it is reported
abbrev pub invariant-loop-at : goal.invariant-loop-at
invariant-loop-at g l = record {
  made : AreMadeUpTo l.snapshot l.at l.heap;
  long : length l.places.items ≡ l.at;
  placed : (k : ℕ) (d : ShownVertex) (p : Place) → k < l.at → IsVertexAt l.heap.table.spaces (get_or l.snapshot.vertices k d).name (get_or l.places.items k p);
  kept : KeepsPlaces l.fn.heap l.heap;
}
