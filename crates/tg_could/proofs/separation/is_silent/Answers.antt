use Rattle.std.proofs.Common.{sym, ◌∙◌}
use Rattle.std.proofs.lemmas.Bool.{false≢true, ltb-true, lt-ltb}
use Rattle.tg_could.proofs.separation.is_silent.Goals as goal

pub returns-else-is_among : goal.returns-else-is_among
returns-else-is_among c = (
  λ t. absurd (false≢true (sym c.if-is_among.false ∙ t)),
  λ is. c.is_among.ensures.1 is.0,
)

pub returns-then-is_among : goal.returns-then-is_among
returns-then-is_among c = (
  λ t. (c.is_among.ensures.0 c.if-is_among.true, ltb-true c.args.name c.args.made t),
  λ is. lt-ltb c.args.name c.args.made is.1,
)
