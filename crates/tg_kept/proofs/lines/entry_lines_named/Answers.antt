use Rattle.std.proofs.Common.{◌∙◌, ap}
use Rattle.tg_keep.specs.Lines.{texts_after}
use Rattle.tg_keep.proofs.Reading.{no_texts}
use Rattle.tg_kept.proofs.lines.entry_lines_named.Goals as goal

pub loop-entry-init : goal.loop-entry-init
loop-entry-init g c = record {
  texts = ap (texts_after c.new-batch.result.before.digits) c.new-batch.ensures.none ∙ no_texts c.new-batch.result.before.digits;
  before = c.new-batch.ensures.before;
}
