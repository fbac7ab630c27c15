use Rattle.std.proofs.Common.{◌-◌}
use Rattle.tg_rows.specs.Inner.Followed.{KeepsMarks}
use Rattle.tg_rows.proofs.followed.mark_noted.Given as goal

abbrev pub invariant-loop-row : goal.invariant-loop-row
invariant-loop-row l = KeepsMarks l.noted.places l.fn.row l.row

abbrev pub decreases-loop-row : goal.decreases-loop-row
decreases-loop-row l = l.old - l.row.old_cells
