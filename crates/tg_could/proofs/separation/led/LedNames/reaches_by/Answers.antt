use Rattle.std.proofs.lemmas.Bool.{false≢true}
use Rattle.tg_could.proofs.separation.led.LedNames.reaches_by.Goals as goal

pub returns-then-is_silent-clause-reached : goal.returns-then-is_silent-clause-reached
returns-then-is_silent-clause-reached c t = absurd (false≢true t)

pub returns-then-not-comes_later-clause-reached : goal.returns-then-not-comes_later-clause-reached
returns-then-not-comes_later-clause-reached c t = absurd (false≢true t)
