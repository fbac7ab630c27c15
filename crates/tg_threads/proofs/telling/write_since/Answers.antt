use Rattle.std.proofs.Common.{[]}
use Rattle.std.specs.List.{flat_map}
use Rattle.tg_entries.specs.Texts.{end_text, entry_text}
use Rattle.tg_text.proofs.SinkLaws.{sofar_none, writes_cut, writes_then}
use Rattle.tg_threads.proofs.telling.write_since.Goals as goal

pub returns : goal.returns
returns g c =
    let s = g.K.Sink in
    writes_then (s.taken c.args.sink.now) (s.taken c.write_entries.new.sink) (s.taken c.write_end.new.sink) (s.failures c.args.sink.now) (s.failures c.write_entries.new.sink) (s.failures c.write_end.new.sink)
    (flat_map entry_text c.args.entries.now) (end_text c.args.total) c.write_end.result c.in_ok-write_entries.ensures c.write_end.ensures

pub returns-in_err-write_entries : goal.returns-in_err-write_entries
returns-in_err-write_entries g c =
    let s = g.K.Sink in
    let before = s.taken c.args.sink.now in
    let failures = s.failures c.args.sink.now in
    writes_cut before before (s.taken c.write_entries.new.sink) failures failures (s.failures c.write_entries.new.sink) []
    (flat_map entry_text c.args.entries.now) (end_text c.args.total) c.from_residual.result c.from_residual.ensures.0 (sofar_none before failures) c.in_err-write_entries.ensures
