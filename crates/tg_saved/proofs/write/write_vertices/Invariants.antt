use Rattle.std.proofs.Common.{take}
use Rattle.std.specs.List.{flat_map}
use Rattle.tg_text.proofs.SinkLaws.{Sofar}
use Rattle.tg_saved.specs.Texts.{vertex_text}
use Rattle.tg_saved.proofs.write.write_vertices.Given as goal

abbrev pub invariant-loop-vertex : goal.invariant-loop-vertex
invariant-loop-vertex g l =
    let s = g.K.Sink in
    Sofar (s.taken l.fn.sink) (s.failures l.fn.sink) (flat_map vertex_text (take l.vertex-index l.vertices)) (s.taken l.sink) (s.failures l.sink)
