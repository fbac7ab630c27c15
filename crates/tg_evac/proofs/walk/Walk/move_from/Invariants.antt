use Rattle.tg_evac.proofs.Walking.{IsImaged}
use Rattle.tg_evac.proofs.walk.Walk.move_from.Given as goal

abbrev pub invariant-loop-i : goal.invariant-loop-i
invariant-loop-i g l = let m = g.C.Claimer in IsImaged l.self.spaces.now.spaces l.straight l.first l.initial.cell l.cell l.i (m.walked l.initial.claimer) (m.walked l.claimer) (m.knows l.initial.claimer) (m.knows l.claimer)
