use Rattle.std.proofs.Common.{◌≡◌, ℕ, drop}
use Rattle.std.specs.Prelude.{slice_index_or}
use Rattle.tg_rights.specs.RightSet.{no_rights, union}
use Rattle.tg_model.specs.Opened.{label_in}
use Rattle.tg_graph.proofs.opening.read_row.Given as goal

abbrev pub invariant-loop-edge : goal.invariant-loop-edge
invariant-loop-edge l = (y : ℕ) → union (slice_index_or l.row y no_rights) (label_in (drop l.edge-index l.edges) l.from y) ≡ label_in l.edges l.from y
