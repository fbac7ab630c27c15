use Rattle.std.proofs.Common.{◌≤◌, ◌-◌, length}
use Rattle.tg_evac.proofs.Along.{HasWalked}
use Rattle.tg_evac.proofs.walk.Walk.each.Given as goal

abbrev pub invariant-loop-self : goal.invariant-loop-self
invariant-loop-self g l =
    let m = g.C.Claimer in
    record {
      inside : l.claimed ≤ length l.roots;
      walked : HasWalked m.walked m.knows l.self.spaces.now.spaces l.roots l.claimed l.initial.claimer l.claimer l.copies.scanned l.copies.aged l.copies.old;
    }

abbrev pub decreases-loop-self : goal.decreases-loop-self
decreases-loop-self g l = length l.roots - l.claimed
