use Rattle.tg_rows.proofs.Indexing.{IsFollowed}
use Rattle.tg_rows.proofs.rows.may_get_long.Given as goal

abbrev pub invariant-loop-step : goal.invariant-loop-step
invariant-loop-step l = IsFollowed l.spaces.spaces l.fn.from l.at l._step
