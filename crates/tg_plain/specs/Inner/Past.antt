-- The picture after the entries of a history.
use Rattle.std.specs.Prelude.{List}
use Rattle.tg_model.specs.Graph.{ProtectionGraph, IsSound}
use Rattle.tg_model.specs.Picture.{Shown, IsPictureOf}
use Rattle.tg_journal.specs.declared.entry.Entry.{Entry}
use Rattle.tg_journal.specs.History.{IsLegal, graph_after}

-- where the graph is sound and the entries are legal on it, the picture is that of the graph after them
abbrev pub AfterLegal : ProtectionGraph → List Entry → Shown → Type 0
AfterLegal g es p = IsSound g → IsLegal g es → IsPictureOf p (graph_after g es)
