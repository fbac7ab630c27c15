use Rattle.tg_saved.specs.Texts.{vertex_text}
use Rattle.tg_saved.proofs.WriteLaws.{sofar_more, cut_more}
use Rattle.tg_saved.proofs.write.write_vertices.Goals as goal

pub loop-vertex-preserved : goal.loop-vertex-preserved
loop-vertex-preserved g c = sofar_more vertex_text c.args.vertices.now c.loop-vertex.vertex-index c.vertex-item.result _ _ _ _ _ _ c.loop-vertex-test.true c.vertex-item.is c.loop-vertex.invariant c.in_ok-write_vertex.ensures

pub returns-in_err-write_vertex : goal.returns-in_err-write_vertex
returns-in_err-write_vertex g c = cut_more vertex_text c.args.vertices.now c.loop-vertex.vertex-index c.vertex-item.result _ _ _ _ _ _ _ c.loop-vertex-test.true c.vertex-item.is c.from_residual.ensures.0 c.loop-vertex.invariant c.in_err-write_vertex.ensures
