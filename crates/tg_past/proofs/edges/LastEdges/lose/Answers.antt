use Rattle.std.proofs.Common.{refl}
use Rattle.std.proofs.lemmas.Result.{on_ok_weaker}
use Rattle.tg_past.proofs.ChangeLaws.{edge_taken}
use Rattle.tg_past.proofs.edges.LastEdges.lose.Goals as goal

pub returns : goal.returns
returns c =
    on_ok_weaker c.add.result
    (edge_taken c.args.self.now (record { edges = c.args.self.now.edges; lost = c.add.new.self }) c.args.edge refl) c.add.ensures
