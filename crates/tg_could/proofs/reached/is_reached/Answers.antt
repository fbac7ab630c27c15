use Rattle.tg_could.proofs.ReachedLaws.{reached_shown, shown_reached}
use Rattle.tg_could.proofs.reached.is_reached.Goals as goal

pub returns : goal.returns
returns c g picture = (
  λ t. shown_reached c.args.picture.now g picture c.args.name (c.is_shown.ensures.0 t),
  λ reached. c.is_shown.ensures.1 (reached_shown c.args.picture.now g picture c.args.name reached),
)
