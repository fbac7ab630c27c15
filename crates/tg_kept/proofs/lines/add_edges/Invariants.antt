use Rattle.std.proofs.Common.{◌≡◌, ◌++◌, map, take}
use Rattle.tg_keep.specs.Batches.{batch_texts}
use Rattle.tg_kept.specs.Texts.{edge_line}
use Rattle.tg_kept.proofs.lines.add_edges.Given as goal

abbrev pub invariant-loop-edge : goal.invariant-loop-edge
invariant-loop-edge g l = record {
  texts : batch_texts l.batch ≡ batch_texts l.fn.batch ++ map edge_line (take l.edge-index l.edges);
  before : l.batch.before ≡ l.fn.batch.before;
}
