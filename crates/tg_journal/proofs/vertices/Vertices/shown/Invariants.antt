use Rattle.std.proofs.Common.{◌≡◌, nat_eq, take}
use Rattle.indexmap.specs.IndexSet.{contains}
use Rattle.tg_journal.proofs.ShowingLaws.{shown_among}
use Rattle.tg_journal.proofs.vertices.Vertices.shown.Given as goal

abbrev pub invariant-loop-vertex : goal.invariant-loop-vertex
invariant-loop-vertex l = l.shown.items ≡ shown_among (contains nat_eq l.names) (take l.vertex-index l.vertex-items)
