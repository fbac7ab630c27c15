use Rattle.std.proofs.Common.{◌≡◌, true}
use Rattle.std.specs.List.{AllWithin}
use Rattle.tg_rights.specs.RightSet.{has}
use Rattle.tg_rights.specs.declared.Right.TheVariants.{G}
use Rattle.tg_could.specs.LedNames.{sides_led}
use Rattle.tg_could.proofs.separation.led.LedNames.grant_to.Given as goal

-- nobody of the first set grants to x by an edge before this place
abbrev pub invariant-loop-edge : goal.invariant-loop-edge
invariant-loop-edge l =
    AllWithin (λ e. e.to ≡ l.x → has e.label G ≡ true → ¬ ((sides_led l.self).forward e.from ≡ true)) l.edges 0 l.edge-index
