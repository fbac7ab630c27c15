use Rattle.std.proofs.Common.{◌-◌, ◌≤◌, length}
use Rattle.tg_rows.specs.Index.{AreAged}
use Rattle.tg_rows.proofs.FollowedRows.{AreFollowedTo}
use Rattle.tg_rows.proofs.followed.follow_rows.Given as goal

abbrev pub invariant-loop-i : goal.invariant-loop-i
invariant-loop-i l = AreFollowedTo l.moves.kind l.moves.numbering.now.starts l.moves.forward.now.words l.noted.places l.fn.rows.entries l.rows.entries l.i × AreAged l.rows.entries l.old × (l.old ≤ l.i)

abbrev pub decreases-loop-i : goal.decreases-loop-i
decreases-loop-i l = length l.rows.entries - l.i
