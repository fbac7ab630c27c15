use Rattle.std.proofs.Common.{[], List, subst}
use Rattle.tg_journal.specs.declared.entry.Entry.{Entry}
use Rattle.tg_text.specs.Sinks.{Writes}
use Rattle.tg_threads.specs.Output.{entry_race_on}
use Rattle.tg_threads.proofs.telling.EntriesRaceTelling.tell_on.Goals as goal

pub returns : goal.returns
returns g c =
    let s = g.K.Sink in
    subst (λ (es : List Entry). Writes (s.taken c.args.sink.now) (s.failures c.args.sink.now) (entry_race_on c.args.audited es []) c.write_since.result (s.taken c.write_since.new.sink) (s.failures c.write_since.new.sink))
    c.entries_from.ensures c.write_since.ensures
