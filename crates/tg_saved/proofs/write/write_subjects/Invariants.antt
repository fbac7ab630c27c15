use Rattle.std.proofs.Common.{take}
use Rattle.std.specs.List.{flat_map}
use Rattle.tg_text.proofs.SinkLaws.{Sofar}
use Rattle.tg_saved.specs.Texts.{subject_text}
use Rattle.tg_saved.proofs.write.write_subjects.Given as goal

abbrev pub invariant-loop-name : goal.invariant-loop-name
invariant-loop-name g l =
    let s = g.K.Sink in
    Sofar (s.taken l.fn.sink) (s.failures l.fn.sink) (flat_map subject_text (take l.name-index l.subjects)) (s.taken l.sink) (s.failures l.sink)
