use Rattle.tg_could.proofs.WordLaws.{within-more}
use Rattle.tg_could.proofs.view.Facts.with_later.Goals as goal

pub returns-then-comes_later : goal.returns-then-comes_later
returns-then-comes_later c other h = within-more other c.args.word 18446744073709551615 h
