-- The outcome of reading a whole script before any line of it is run.
use Rattle.std.specs.Prelude.{ℕ, List, ◌++◌, Some, None, Result, Ok, Err}
use Rattle.tg_text.specs.declared.line.Line.{Line}
use Rattle.tg_text.specs.declared.fault.ScriptFault.{ScriptFault}
use Rattle.tg_text.specs.Reading.{ReadsScript}
use Rattle.tg_script.specs.declared.whole.WholeScript.{WholeScript}
use Rattle.tg_script.specs.Opening.{edge_lines}

-- the edge lines and those after them are the whole of the script; or it is lines up to this fault
abbrev pub ReadsWhole : ℕ → List ℕ → Result WholeScript ScriptFault → List ℕ → Type 0
ReadsWhole workers bytes (Ok whole) left = ReadsScript workers bytes (edge_lines whole.edges.items ++ whole.lines.items) None left
ReadsWhole workers bytes (Err f) left = (lines : List Line) × ReadsScript workers bytes lines (Some f) left
