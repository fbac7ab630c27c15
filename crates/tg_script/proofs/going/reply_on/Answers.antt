use Rattle.tg_script.specs.Inner.GoingOn.{count_on}
use Rattle.tg_script.proofs.GoingLaws.{gone_replies, legal_since}
use Rattle.tg_script.proofs.MarkLaws.{on_ok}
use Rattle.tg_script.proofs.going.reply_on.Goals as goal

pub returns-clause-gone : goal.returns-clause-gone
returns-clause-gone g c = λ t rest before shows left taken.
    let lines = c.run_commands-outcome in
    let on = c.args.on.now in
    let old = on.begun.run.store in
    let new = lines.new.begun.run.store in
    let w = g.W.Watch.refused in
    gone_replies (count_on on) lines.result on.begun.script rest t on.begun.first old.entries before (g.S.Source.left lines.new.source) new.entries (g.K.Sink.taken lines.new.sink) (w c.args.watch.now) (w lines.new.watch)
    (legal_since old.opening new.opening old.entries new.entries t.graph shows.0 lines.ensures.kept c.journal.ensures.faithful.legal)
    (lines.ensures.written t rest before shows left taken)
    (on_ok lines.result (λ had. had t rest before shows left taken) lines.ensures.seen)
