use Rattle.std.proofs.Common.{◌-◌, List, ℕ}
use Rattle.tg_parallel.specs.Jobs.{HasCopiedAt, HasEarned}
use Rattle.tg_parallel.specs.Seats.{HasDrawn, IsSameSeat}
use Rattle.tg_parallel.proofs.work.work.Given as goal

abbrev pub invariant-loop-chunk : goal.invariant-loop-chunk
invariant-loop-chunk g l = record {
  same : IsSameSeat l.fn.seat l.seat;
  earned : HasEarned l.job l.seat;
  drawn : (before : List ℕ) × HasDrawn before l.chunk l.seat × HasCopiedAt l.job before l.seat l.copies;
}

abbrev pub decreases-loop-chunk : goal.decreases-loop-chunk
decreases-loop-chunk g l = l.chunks - l.chunk
