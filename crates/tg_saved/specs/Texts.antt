-- The text of a snapshot: a first line for the form, the counts, a line for each subject, each vertex and each edge, and a last line with
-- the number of vertices and edges. Numbers are decimal without leading zeros, and words have one space between two.
use Rattle.std.specs.Prelude.{ℕ, ◌+◌, List, ◌++◌, length, codes, decimal}
use Rattle.std.specs.List.{flat_map}
use Rattle.tg_model.specs.declared.edge.Edge.{Edge}
use Rattle.tg_model.specs.Picture.{Shown}
use Rattle.tg_snapshot.specs.declared.vertex.ShownVertex.{ShownVertex}
use Rattle.tg_snapshot.specs.Snapshot.{Saved}
use Rattle.tg_text.specs.declared.line.Line.TheVariants as line
use Rattle.tg_text.specs.Grammar.{line_text}
use Rattle.tg_saved.specs.Values.{payload_text}

abbrev pub snapshot_version_text : List ℕ
snapshot_version_text = codes "kovshenul picture 1\n"

-- `made MADE LIMIT ENTRIES`: how many vertices were made, the most that may be, and how many entries were made
abbrev pub counts_text : ℕ → ℕ → ℕ → List ℕ
counts_text made limit entries =
    codes "made " ++ (decimal made ++ (codes " " ++ (decimal limit ++ (codes " " ++ (decimal entries ++ codes "\n")))))

-- `worker 2`, for each active subject
abbrev pub subject_text : ℕ → List ℕ
subject_text name = codes "worker " ++ (decimal name ++ codes "\n")

-- `vertex 2 c1`, for each vertex
abbrev pub vertex_text : ShownVertex → List ℕ
vertex_text v = (codes "vertex " ++ (decimal v.name ++ codes " ")) ++ (payload_text v.value.law v.value.state ++ codes "\n")

-- `edge 0 1 rw`, for each edge
abbrev pub edge_line_text : Edge → List ℕ
edge_line_text edge = line_text (line.Edge edge) ++ codes "\n"

-- `picture 5`
abbrev pub snapshot_end_text : ℕ → List ℕ
snapshot_end_text count = codes "picture " ++ (decimal count ++ codes "\n")

-- the first two lines
abbrev pub front_text : Shown → ℕ → List ℕ
front_text picture entries = snapshot_version_text ++ counts_text picture.made picture.limit entries

-- those, and the subjects
abbrev pub named_text : Shown → ℕ → List ℕ
named_text picture entries = front_text picture entries ++ flat_map subject_text picture.subjects

-- all lines but the last
abbrev pub lines_text : Saved → List ℕ
lines_text p = (named_text p.picture p.entries ++ flat_map vertex_text p.vertices) ++ flat_map edge_line_text p.picture.edges

-- The text of a snapshot. The order of the lines is that of its lists, which rise.
abbrev pub snapshot_text : Saved → List ℕ
snapshot_text p = lines_text p ++ snapshot_end_text (length p.vertices + length p.picture.edges)
