use Rattle.std.proofs.Common.{◌≡◌, map, take}
use Rattle.tg_keep.specs.Batches.{batch_texts}
use Rattle.tg_kept.specs.Texts.{entry_line}
use Rattle.tg_kept.proofs.lines.entry_lines_named.Given as goal

abbrev pub invariant-loop-entry : goal.invariant-loop-entry
invariant-loop-entry g l = record {
  texts : batch_texts l.batch ≡ map entry_line (take l.entry-index l.entries);
  before : l.batch.before ≡ l.fn.before;
}
