use Rattle.std.proofs.Common.{◌⊎◌, take}
use Rattle.std.specs.List.{Contains}
use Rattle.tg_could.specs.Reached.{IsLedTo}
use Rattle.tg_c.proofs.SightLaws.{AreOn}
use Rattle.tg_c.proofs.view.sight.names_shown.Given as goal

-- exactly the subjects before this one are there
abbrev pub invariant-loop-subject : goal.invariant-loop-subject
invariant-loop-subject l = AreOn (λ x. Contains (take l.subject-index l.picture.subjects) x) l.names.keys

-- and so are those to whom an edge before this one leads
abbrev pub invariant-loop-edge : goal.invariant-loop-edge
invariant-loop-edge l = AreOn (λ x. Contains l.picture.subjects x ⊎ IsLedTo (take l.edge-index l.picture.edges) x) l.names.keys
