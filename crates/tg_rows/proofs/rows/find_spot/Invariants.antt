use Rattle.tg_rows.proofs.Walks.{IsSearched}
use Rattle.tg_rows.proofs.rows.find_spot.Given as goal

abbrev pub invariant-row : goal.invariant-row
invariant-row l = IsSearched l.spaces.spaces l.name l.fn.from l.at l.left l.empty

abbrev pub decreases-row : goal.decreases-row
decreases-row l = l.left
