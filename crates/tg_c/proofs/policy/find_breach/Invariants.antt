use Rattle.std.specs.List.{AllWithin}
use Rattle.tg_c.specs.Policy.{IsNeverTold, OnSupposed}
use Rattle.tg_c.proofs.policy.find_breach.Given as goal

-- nothing that is asked before this place ever comes about
abbrev pub invariant-loop-place : goal.invariant-loop-place
invariant-loop-place l =
    OnSupposed l.scene.picture.now l.scene.silent.now l.as_if l.sight (λ g. AllWithin (IsNeverTold l.scene.silent.now g) l.questions 0 l.place)
