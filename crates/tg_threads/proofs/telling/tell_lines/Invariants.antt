use Rattle.std.proofs.Common.{take}
use Rattle.tg_text.proofs.SinkLaws.{Sofar}
use Rattle.tg_threads.specs.Telling.{text_of_told}
use Rattle.tg_threads.proofs.telling.tell_lines.Given as goal

abbrev pub invariant-loop-one : goal.invariant-loop-one
invariant-loop-one g l =
    let s = g.K.Sink in
    Sofar (s.taken l.fn.sink) (s.failures l.fn.sink) (text_of_told l.journal.entries (take l.one-index l.told)) (s.taken l.sink) (s.failures l.sink)
