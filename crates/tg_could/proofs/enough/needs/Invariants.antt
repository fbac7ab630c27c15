use Rattle.std.specs.List.{AllWithin, Contains}
use Rattle.tg_model.specs.Graph.{ProtectionGraph, without_subject}
use Rattle.tg_model.specs.Picture.{IsPictureOf}
use Rattle.tg_could.specs.Turns.{NeverHolds}
use Rattle.tg_could.proofs.enough.needs.Given as goal

-- with each before this place that isn't reported, x never holds the right
abbrev pub invariant-loop-host : goal.invariant-loop-host
invariant-loop-host l =
    AllWithin
    (λ host. ¬ Contains l.enough.items host → (g : ProtectionGraph) → IsPictureOf l.scene.picture.now g → NeverHolds (without_subject l.scene.silent.now host) g l.question.x l.question.right l.question.y)
    l.scene.silent.now 0 l.host-index
