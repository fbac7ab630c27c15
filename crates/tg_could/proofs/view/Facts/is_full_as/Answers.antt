use Rattle.std.proofs.Common.{◌∙◌, sym}
use Rattle.std.proofs.lemmas.Bool.{false≢true}
use Rattle.tg_could.proofs.view.Facts.is_full_as.Goals as goal

pub returns-then-not-self : goal.returns-then-not-self
returns-then-not-self c t full = absurd (false≢true (sym c.if-not-self.true ∙ full))

pub returns-else-not-self : goal.returns-else-not-self
returns-else-not-self c t full = c.is_full.ensures t
