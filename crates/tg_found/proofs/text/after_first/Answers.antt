use Rattle.tg_found.proofs.KeptLaws.{no_longer, passes_first}
use Rattle.tg_found.proofs.text.after_first.Goals as goal

pub returns-clause-texts : goal.returns-clause-texts
returns-clause-texts c =
    passes_first c.args.file.now c.new-reader.result c.next.new.self c.next.result c.new-reader.ensures.left c.new-reader.ensures.sum c.next.ensures.read c.next.ensures.end c.next.ensures.unchanged

pub returns-clause-fits : goal.returns-clause-fits
returns-clause-fits c = no_longer c.args.file.now c.new-reader.result c.next.new.self c.next.result c.new-reader.ensures.left c.next.ensures.read c.next.ensures.unchanged
