use Rattle.std.proofs.Common.{take}
use Rattle.std.specs.List.{flat_map}
use Rattle.tg_text.proofs.SinkLaws.{Sofar}
use Rattle.tg_saved.specs.Texts.{edge_line_text}
use Rattle.tg_saved.proofs.write.write_edges.Given as goal

abbrev pub invariant-loop-edge : goal.invariant-loop-edge
invariant-loop-edge g l =
    let s = g.K.Sink in
    Sofar (s.taken l.fn.sink) (s.failures l.fn.sink) (flat_map edge_line_text (take l.edge-index l.edges)) (s.taken l.sink) (s.failures l.sink)
