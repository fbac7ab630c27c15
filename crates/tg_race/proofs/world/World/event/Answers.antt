use Rattle.std.proofs.Common.{◌∙◌, refl, sym}
use Rattle.tg_race.proofs.world.World.event.Goals as goal

pub returns-then-not-can_happen : goal.returns-then-not-can_happen
returns-then-not-can_happen c = (sym c.if-not-can_happen.true ∙ c.can_happen.ensures, refl)
