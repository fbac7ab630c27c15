use Rattle.tg_evac.proofs.Along.{HasWalked}
use Rattle.tg_evac.proofs.walk.Walk.together.Given as goal

abbrev pub invariant-loop-root : goal.invariant-loop-root
invariant-loop-root g l =
    let m = g.C.Claimer in HasWalked m.walked m.knows l.self.spaces.now.spaces l.roots l.root-index l.initial.claimer l.claimer l.copies.scanned l.copies.aged l.copies.old
