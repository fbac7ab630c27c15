-- The line of each thing that a kept file says.
use Rattle.std.specs.Prelude.{ℕ, List}
use Rattle.tg_entries.specs.Texts.{entry_text, limits_text, worker_text}
use Rattle.tg_saved.specs.Texts.{edge_line_text}
use Rattle.tg_kept.specs.declared.lines.Said.{Said}
use Rattle.tg_kept.specs.declared.lines.Said.TheVariants as said
use Rattle.tg_kept.specs.Texts.{edge_line, entry_line, limits_line, worker_line}

-- its line
abbrev pub said_line : Said → List ℕ
said_line (said.Limits workers limit) = limits_line workers limit
said_line (said.Worker value) = worker_line value.now
said_line (said.Edge edge) = edge_line edge
said_line (said.Entry entry) = entry_line entry.now

-- and as a history's text has the line, with its line feed
abbrev pub said_text : Said → List ℕ
said_text (said.Limits workers limit) = limits_text workers limit
said_text (said.Worker value) = worker_text value.now
said_text (said.Edge edge) = edge_line_text edge
said_text (said.Entry entry) = entry_text entry.now
