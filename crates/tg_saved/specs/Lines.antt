-- The text of each line of a snapshot's text, after the first one.
use Rattle.std.specs.Prelude.{ℕ, List}
use Rattle.tg_saved.specs.declared.line.SnapshotLine.{SnapshotLine}
use Rattle.tg_saved.specs.declared.line.SnapshotLine.TheVariants as line
use Rattle.tg_saved.specs.Texts.{counts_text, edge_line_text, snapshot_end_text, subject_text, vertex_text}

abbrev pub snapshot_line_text : SnapshotLine → List ℕ
snapshot_line_text (line.Counts made limit entries) = counts_text made limit entries
snapshot_line_text (line.Subject name) = subject_text name
snapshot_line_text (line.Vertex vertex) = vertex_text vertex.now
snapshot_line_text (line.Edge edge) = edge_line_text edge.now
snapshot_line_text (line.End count) = snapshot_end_text count
