use Rattle.std.proofs.Common.{take}
use Rattle.std.specs.List.{flat_map}
use Rattle.tg_text.proofs.SinkLaws.{Sofar}
use Rattle.tg_saved.specs.Values.{more_text}
use Rattle.tg_saved.proofs.value.write_more.Given as goal

abbrev pub invariant-loop-number : goal.invariant-loop-number
invariant-loop-number g l =
    let s = g.K.Sink in
    Sofar (s.taken l.fn.sink) (s.failures l.fn.sink) (flat_map more_text (take l.number-index l.numbers)) (s.taken l.sink) (s.failures l.sink)
