use Rattle.std.proofs.Common.{◌≡◌, ◌++◌, map, take}
use Rattle.tg_keep.specs.Batches.{batch_texts}
use Rattle.tg_kept.specs.Texts.{worker_line}
use Rattle.tg_kept.proofs.lines.add_workers.Given as goal

abbrev pub invariant-loop-value : goal.invariant-loop-value
invariant-loop-value g l = record {
  texts : batch_texts l.batch ≡ batch_texts l.fn.batch ++ map worker_line (take l.value-index l.values);
  before : l.batch.before ≡ l.fn.batch.before;
}
