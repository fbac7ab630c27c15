use Rattle.std.proofs.Common.{◌≡◌, ◌-◌}
use Rattle.tg_rows.specs.Inner.Followed.{KeepsMarks}
use Rattle.tg_rows.proofs.followed.forget_unnoted.Given as goal

abbrev pub invariant-loop-number : goal.invariant-loop-number
invariant-loop-number l = record {
  kept : KeepsMarks l.noted.places l.fn.row l.row;
  old : l.row.old_cells ≡ l.fn.row.old_cells;
}

abbrev pub decreases-loop-number : goal.decreases-loop-number
decreases-loop-number l = l.fn.row.old_cells - l.from
