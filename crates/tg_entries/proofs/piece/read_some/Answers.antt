use Rattle.std.proofs.Common.{arith}
use Rattle.tg_entries.proofs.PieceLaws.{ended_more, fetches_more}
use Rattle.tg_entries.proofs.piece.read_some.Goals as goal

pub loop-preserved : goal.loop-preserved
loop-preserved g c = record {
  fetched = fetches_more _ _ _ _ _ _ c.loop.invariant.fetched c.in_ok-take_piece.ensures.fetched;
  within = λ h. omega (arith, c.loop.invariant.within h, c.in_ok-take_piece.ensures.within);
}

pub returns-then-branch-clause-fetched : goal.returns-then-branch-clause-fetched
returns-then-branch-clause-fetched g c = fetches_more _ _ _ _ _ _ c.loop.invariant.fetched c.in_ok-take_piece.ensures.fetched

pub returns-then-branch-clause-ended : goal.returns-then-branch-clause-ended
returns-then-branch-clause-ended g c true = ended_more _ _ _ _ c.loop.invariant.fetched.taken (c.in_ok-take_piece.ensures.ended c.if-branch.true)
