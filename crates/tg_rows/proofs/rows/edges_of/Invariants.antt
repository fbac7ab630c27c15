use Rattle.tg_rows.proofs.Walks.{IsCollected}
use Rattle.tg_rows.proofs.rows.edges_of.Given as goal

abbrev pub invariant-row : goal.invariant-row
invariant-row l = IsCollected l.spaces.spaces l.fn.from l.at l.left l.edges.items

abbrev pub decreases-row : goal.decreases-row
decreases-row l = l.left
