use Rattle.std.proofs.Common.{take}
use Rattle.std.specs.List.{flat_map}
use Rattle.tg_text.proofs.SinkLaws.{Sofar}
use Rattle.tg_entries.specs.Texts.{worker_text}
use Rattle.tg_entries.proofs.history.write_workers.Given as goal

abbrev pub invariant-loop-value : goal.invariant-loop-value
invariant-loop-value g l =
    let s = g.K.Sink in
    Sofar (s.taken l.fn.sink) (s.failures l.fn.sink) (flat_map worker_text (take l.value-index l.values)) (s.taken l.sink) (s.failures l.sink)
