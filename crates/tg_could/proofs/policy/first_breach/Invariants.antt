use Rattle.std.specs.List.{AllWithin}
use Rattle.tg_model.specs.Graph.{ProtectionGraph}
use Rattle.tg_model.specs.Picture.{IsPictureOf}
use Rattle.tg_could.specs.Turns.{NeverHolds}
use Rattle.tg_could.proofs.policy.first_breach.Given as goal

-- nothing that is asked before this place ever comes about
abbrev pub invariant-loop-place : goal.invariant-loop-place
invariant-loop-place l =
    (g : ProtectionGraph) → IsPictureOf l.scene.picture.now g → AllWithin (λ q. NeverHolds l.scene.silent.now g q.x q.right q.y) l.questions 0 l.place
