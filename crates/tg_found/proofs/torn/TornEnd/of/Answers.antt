use Rattle.std.proofs.Common.{arith}
use Rattle.tg_found.proofs.KeptLaws.{lines_sized, texts_fit}
use Rattle.tg_found.proofs.torn.TornEnd.of.Goals as goal

pub returns : goal.returns
returns c is = record {
  number = omega (arith, is.count, texts_fit c.args.file.now, c.saturating_add-line.ensures);
  place = lines_sized c.args.file.now c.args.report.now.lines.now is.lines;
}
