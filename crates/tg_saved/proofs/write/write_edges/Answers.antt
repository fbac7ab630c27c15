use Rattle.tg_saved.specs.Texts.{edge_line_text}
use Rattle.tg_saved.proofs.WriteLaws.{sofar_more, cut_more}
use Rattle.tg_saved.proofs.write.write_edges.Goals as goal

pub loop-edge-preserved : goal.loop-edge-preserved
loop-edge-preserved g c = sofar_more edge_line_text c.args.edges.now c.loop-edge.edge-index c.edge-item.result _ _ _ _ _ _ c.loop-edge-test.true c.edge-item.is c.loop-edge.invariant c.in_ok-write_edge.ensures

pub returns-in_err-write_edge : goal.returns-in_err-write_edge
returns-in_err-write_edge g c = cut_more edge_line_text c.args.edges.now c.loop-edge.edge-index c.edge-item.result _ _ _ _ _ _ _ c.loop-edge-test.true c.edge-item.is c.from_residual.ensures.0 c.loop-edge.invariant c.in_err-write_edge.ensures
