use Rattle.std.proofs.Common.{ℕ, ◌++◌, subst}
use Rattle.tg_text.specs.Sinks.{Writes}
use Rattle.tg_threads.specs.Telling.{end_text, text_of_told}
use Rattle.tg_threads.proofs.telling.RepliesRaceTelling.tell.Goals as goal

pub returns : goal.returns
returns g c =
    let s = g.K.Sink in
    subst (λ (n : ℕ). Writes (s.taken c.args.sink.now) (s.failures c.args.sink.now) (text_of_told c.args.journal.now.entries c.args.told.now ++ end_text n) c.tell_all.result (s.taken c.tell_all.new.sink) (s.failures c.tell_all.new.sink))
    c.requires.number c.tell_all.ensures
