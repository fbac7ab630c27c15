use Rattle.std.proofs.Common.{refl}
use Rattle.tg_rows.proofs.Marked.{aged_set, marked_apart, marked_set}
use Rattle.tg_rows.proofs.indexed_row.IndexedRow.mark.Goals as goal

pub returns-then-number-self-clause-marks : goal.returns-then-number-self-clause-marks
returns-then-number-self-clause-marks c = record {
  aged = aged_set c.args.self.now _ c.number_noted-number.result refl refl c.insert.ensures c.if-number-self.true;
  marked = λ places. marked_set places c.args.note c.args.self.now _ c.number_noted-number.result refl refl c.insert.ensures c.if-number-self.true c.number_noted-number.ensures;
}

pub returns-else-number-self-clause-marks : goal.returns-else-number-self-clause-marks
returns-else-number-self-clause-marks c = record {
  aged = λ aged. aged;
  marked = λ places. marked_apart places c.args.note c.args.self.now c.number_noted-number.result c.if-number-self.false c.number_noted-number.ensures;
}
