use Rattle.std.proofs.Common.{◌≡◌, ◌⊎◌, ◌<◌, false}
use Rattle.std.specs.List.{AllWithin, Contains}
use Rattle.tg_could.specs.Separation.{ComesLater}
use Rattle.tg_could.specs.LedNames.{sides_led}
use Rattle.tg_could.proofs.separation.led.LedNames.reach.Given as goal

-- nobody before this place reaches
abbrev pub invariant-loop-subject : goal.invariant-loop-subject
invariant-loop-subject l =
    AllWithin (λ v. ¬ (Contains l.scene.silent.now v × (v < l.scene.picture.now.made)) → (v ≡ l.x) ⊎ ComesLater l.scene.picture.now l.x → (sides_led l.self).back v ≡ false) l.scene.picture.now.subjects 0 l.subject-index
