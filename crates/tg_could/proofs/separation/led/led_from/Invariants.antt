use Rattle.std.proofs.Common.{◌-◌, ◌^◌}
use Rattle.tg_model.specs.Graph.{ProtectionGraph}
use Rattle.tg_model.specs.Picture.{IsPictureOf}
use Rattle.tg_could.specs.Turns.{IsSilent}
use Rattle.tg_could.specs.LedNames.{AreLed, sides_led, number_led}
use Rattle.tg_could.proofs.separation.led.led_from.Given as goal

-- whoever is in the sets is led to
abbrev pub invariant-loop-led : goal.invariant-loop-led
invariant-loop-led l = (g : ProtectionGraph) → IsPictureOf l.scene.picture.now g → AreLed (IsSilent l.scene.silent.now g) l.right l.y g (sides_led l.led)

abbrev pub decreases-loop-led : goal.decreases-loop-led
decreases-loop-led l = 2 ^ 64 - number_led l.led
