use Rattle.std.proofs.Common.{refl}
use Rattle.tg_plain.proofs.outcome.Outcome.of_history.Goals as goal

pub returns : goal.returns
returns c = λ bytes text. record { picture_is = c.in_ok-picture.ensures bytes text; boxes_are = refl; refused_are = c.new.ensures.items }
