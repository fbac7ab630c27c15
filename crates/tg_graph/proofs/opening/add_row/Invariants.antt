use Rattle.std.proofs.Common.{◌≡◌, ◌≢◌, ◌+◌, ◌<◌, ◌≤◌, ℕ, take}
use Rattle.tg_word.specs.Word.{nursery_space}
use Rattle.tg_space.specs.SpaceTable.{used_of}
use Rattle.tg_graph.specs.Opened.{Relabels, labels_in, with_row}
use Rattle.tg_graph.proofs.opening.add_row.Given as goal

abbrev pub invariant-loop-to : goal.invariant-loop-to
invariant-loop-to g l = record {
  labels : Relabels l.initial.cells l.cells (with_row (labels_in l.initial.cells) l.from (take l.to l.row));
  others : (space : ℕ) → space ≢ nursery_space l.from → used_of l.cells.spaces space ≡ used_of l.initial.cells.spaces space;
  used : used_of l.cells.spaces (nursery_space l.from) ≤ l.to + 1;
  used_past : l.from < l.to → used_of l.cells.spaces (nursery_space l.from) ≤ l.to;
}
