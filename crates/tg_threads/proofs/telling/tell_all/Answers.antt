use Rattle.std.proofs.Common.{[]}
use Rattle.tg_text.proofs.SinkLaws.{sofar_none, writes_cut, writes_then}
use Rattle.tg_threads.specs.Telling.{end_text, text_of_told}
use Rattle.tg_threads.proofs.telling.tell_all.Goals as goal

pub returns : goal.returns
returns g c =
    let s = g.K.Sink in
    let entries = c.args.journal.now.entries in
    writes_then (s.taken c.args.sink.now) (s.taken c.tell_lines.new.sink) (s.taken c.tell_end.new.sink) (s.failures c.args.sink.now) (s.failures c.tell_lines.new.sink) (s.failures c.tell_end.new.sink)
    (text_of_told entries c.args.told.now) (end_text c.args.audited) c.tell_end.result c.in_ok-tell_lines.ensures c.tell_end.ensures

pub returns-in_err-tell_lines : goal.returns-in_err-tell_lines
returns-in_err-tell_lines g c =
    let s = g.K.Sink in
    let entries = c.args.journal.now.entries in
    let before = s.taken c.args.sink.now in
    let failures = s.failures c.args.sink.now in
    writes_cut before before (s.taken c.tell_lines.new.sink) failures failures (s.failures c.tell_lines.new.sink) []
    (text_of_told entries c.args.told.now) (end_text c.args.audited) c.from_residual.result c.from_residual.ensures.0 (sofar_none before failures) c.in_err-tell_lines.ensures
