use Rattle.std.proofs.Common.{[]}
use Rattle.tg_text.specs.Texts.{answer_text}
use Rattle.tg_text.proofs.SinkLaws.{writes_cut_at}
use Rattle.tg_threads.specs.Telling.{told_answer}
use Rattle.tg_threads.proofs.telling.tell_lines.Goals as goal

pub returns-in_err-tell : goal.returns-in_err-tell
returns-in_err-tell g c =
    let s = g.K.Sink in
    let h = c.in_err-tell.ensures in
    writes_cut_at (λ t. answer_text (told_answer c.args.journal.now.entries t)) c.args.told.now c.loop-one.one-index _ [] (s.taken c.args.sink.now) (s.taken c.loop-one.sink) (s.taken c.tell.new.sink)
    (s.failures c.args.sink.now) (s.failures c.loop-one.sink) (s.failures c.tell.new.sink) c.from_residual.result c.loop-one-test.true c.from_residual.ensures.0 c.loop-one.invariant h
