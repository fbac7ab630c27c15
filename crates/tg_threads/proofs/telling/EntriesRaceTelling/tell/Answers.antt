use Rattle.std.proofs.Common.{List, subst, ap, ◌∙◌}
use Rattle.std.specs.Prelude.{drop}
use Rattle.tg_journal.specs.declared.entry.Entry.{Entry}
use Rattle.tg_entries.specs.Texts.{history_text}
use Rattle.tg_text.specs.Sinks.{Writes}
use Rattle.tg_threads.proofs.telling.EntriesRaceTelling.tell.Goals as goal

-- nothing was handed out
pub returns : goal.returns
returns g c =
    let s = g.K.Sink in
    let all = c.entries.ensures ∙ ap (λ n. drop n c.args.journal.now.entries) c.requires.whole in
    subst (λ (es : List Entry). Writes (s.taken c.args.sink.now) (s.failures c.args.sink.now) (history_text c.args.opening.now es) c.write_history.result (s.taken c.write_history.new.sink) (s.failures c.write_history.new.sink))
    all c.write_history.ensures
