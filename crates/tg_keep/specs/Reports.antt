-- What the lines of a file are, besides what they say.
use Rattle.std.specs.Prelude.{◌≡◌, ℕ, ◌+◌, Bool, List, ◌∷◌, length, take}
use Rattle.std.specs.List.{count_by}
use Rattle.tg_keep.specs.Closed.{is_closed, last_text}
use Rattle.tg_keep.specs.Lines.{begins_in, file_texts, first_sum, length_after, text_in, whole_lines}
use Rattle.tg_keep.specs.Reads.{ReadsLine}
use Rattle.tg_keep.specs.declared.report.Counted.{Counted}
use Rattle.tg_keep.specs.declared.report.FileReport.{FileReport}

-- the whole lines of a file, without their line feeds
abbrev pub file_lines : List ℕ → List (List ℕ)
file_lines file = whole_lines first_sum file

-- how many batches its lines are
abbrev pub batches_in : List ℕ → ℕ
batches_in file = count_by begins_in (file_lines file)

-- the last of its lines, or an empty one
abbrev pub last_line : List ℕ → List ℕ
last_line file = last_text (file_lines file)

-- The report is right about a file with these bytes.
pub record IsReportOn (file : List ℕ) (report : FileReport) : Type 0 where
  pub lines : report.lines.now ≡ take (length_after first_sum file) file
  pub last : report.last.now ≡ last_line file
  pub count : report.count ≡ length (file_texts file)
  pub batches : report.batches ≡ batches_in file
  pub closed : report.was_closed ≡ is_closed file

-- The lines of a file were counted.
pub record Counts (file : List ℕ) (counted : Counted) : Type 0 where
  pub count : counted.count ≡ length (file_texts file)
  pub batches : counted.batches ≡ batches_in file
  pub last : counted.last.now ≡ last_line file
  pub left : length counted.left.now + length_after first_sum file ≡ length file

-- The first line is whole. The bytes after it are left, and it ends with this sum.
pub record ReadsWholeLine (before bytes line : List ℕ) (begun : Bool) (sum left : List ℕ) : Type 0 where
  pub lines : whole_lines before bytes ≡ line ∷ whole_lines sum left
  pub begins : begun ≡ begins_in line
  pub reads : ReadsLine before bytes (text_in line) sum left
