use Rattle.tg_past.proofs.ChangeLaws.{all_read}
use Rattle.tg_past.proofs.edges.LastEdges.after.Goals as goal

pub returns : goal.returns
returns c = all_read c.read.new.self c.begin.new.self c.args.entries.now c.args.first.now c.in_ok-read.ensures c.in_ok-begin.ensures
