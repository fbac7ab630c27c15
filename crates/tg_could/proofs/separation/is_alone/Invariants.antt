use Rattle.std.proofs.Common.{◌≡◌, ◌<◌}
use Rattle.std.specs.List.{AllWithin, Contains}
use Rattle.tg_could.proofs.separation.is_alone.Given as goal

-- nobody before this place acts but y
abbrev pub invariant-loop-subject : goal.invariant-loop-subject
invariant-loop-subject l = AllWithin (λ v. ¬ (Contains l.scene.silent.now v × (v < l.scene.picture.now.made)) → v ≡ l.y) l.scene.picture.now.subjects 0 l.subject-index
