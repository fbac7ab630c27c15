use Rattle.tg_past.proofs.ChangeLaws.{finishes_none}
use Rattle.tg_past.proofs.edges.LastEdges.new.Goals as goal

pub returns : goal.returns
returns c = finishes_none (record { edges = c.new.result; lost = c.new-2.result }) c.new.ensures.items c.new-2.ensures
