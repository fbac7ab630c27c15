use Rattle.std.proofs.Common.{◌≤◌, ℕ}
use Rattle.tg_word.specs.Word.{nursery_space}
use Rattle.tg_space.specs.SpaceTable.{used_of}
use Rattle.tg_graph.specs.Opened.{Relabels, labels_before}
use Rattle.tg_graph.proofs.opening.add_edges.Given as goal

abbrev pub invariant-loop-from : goal.invariant-loop-from
invariant-loop-from g l = record {
  labels : Relabels l.initial.cells l.cells (labels_before l.edges l.from);
  unused : (x : ℕ) → l.from ≤ x → used_of l.cells.spaces (nursery_space x) ≤ 1;
}
