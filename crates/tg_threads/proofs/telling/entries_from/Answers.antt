use Rattle.tg_journal.proofs.PartLaws.{fed_part}
use Rattle.tg_threads.proofs.telling.entries_from.Goals as goal

pub returns : goal.returns
returns c = fed_part c.args.journal.now.entries c.entries.result.now c.args.journal.now.start c.start.result c.args.first c.start.ensures.start c.entries.ensures c.requires.held
