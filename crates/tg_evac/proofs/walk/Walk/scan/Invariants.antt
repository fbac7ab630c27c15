use Rattle.std.proofs.Common.{◌≤◌, ◌-◌, Ok}
use Rattle.tg_evac.specs.Inner.Reads.{HasReadAhead}
use Rattle.tg_evac.specs.Walks.{Scans}
use Rattle.tg_evac.proofs.walk.Walk.scan.Given as goal

abbrev pub invariant-loop-next : goal.invariant-loop-next
invariant-loop-next g l =
    let m = g.C.Claimer in
    record {
      scans : Scans m.walked m.knows m.is_full l.self.spaces.now.spaces l.initial.claimer l.claimer l.next l.copies.aged l.copies.old (Ok (tt {0}));
      before : l.ahead.first ≤ l.next;
      read : HasReadAhead l.self.spaces.now.spaces (m.walked l.claimer).won l.ahead;
    }

abbrev pub decreases-loop-next : goal.decreases-loop-next
decreases-loop-next g l = (g.C.Claimer.walked l.claimer).cells - l.next
