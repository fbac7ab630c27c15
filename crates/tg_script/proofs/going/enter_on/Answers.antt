use Rattle.std.proofs.Common.{◌≡◌, ◌∙◌, ◌-◌, List, ap, length, true}
use Rattle.tg_journal.specs.declared.entry.Entry.{Entry}
use Rattle.tg_script.specs.Inner.GoingOn.{count_on}
use Rattle.tg_script.proofs.GoingLaws.{counted_since, gone_cut_off, gone_entered, gone_fault, legal_since}
use Rattle.tg_script.proofs.LinesLaws.{err_is}
use Rattle.tg_script.proofs.going.enter_on.Goals as goal

-- A fault was met at the lines.
pub returns-in_err-entered-clause-gone : goal.returns-in_err-entered-clause-gone
returns-in_err-entered-clause-gone g c = λ t rest before shows left taken.
    let lines = c.run_commands-entered in
    let on = c.args.on.now in
    let old = on.begun.run.store in
    let new = lines.new.begun.run.store in
    let w = g.W.Watch.refused in
    let n = c.in_err-entered.ensures.written t rest before shows left taken in
    rw (err_is c.from_residual.result _ c.from_residual.ensures.1) (
      n.0,
      n.1,
      gone_fault (Unit {0}) true (count_on on) c.in_err-entered.field-0.0 on.begun.script rest t on.begun.first old.entries before n.0 new.entries (g.K.Sink.taken lines.new.sink) (w c.args.watch.now) (w lines.new.watch)
          (legal_since old.opening new.opening old.entries new.entries t.graph shows.0 c.in_err-entered.ensures.kept c.journal.ensures.faithful.legal) n.2,
    )

-- The number of the entries was cut short.
pub returns-in_default-clause-gone : goal.returns-in_default-clause-gone
returns-in_default-clause-gone g c = λ t rest before shows left taken.
    let lines = c.run_commands-entered in
    let on = c.args.on.now in
    let old = on.begun.run.store in
    let new = lines.new.begun.run.store in
    let w = g.W.Watch.refused in
    let n = c.in_ok-entered.ensures.seen t rest before shows left taken in
    let number = c.saturating_sub.result in
    let all : number ≡ length new.entries - on.skipped = c.saturating_sub.ensures ∙ ap (λ n. n - on.skipped) (c.len-made.ensures ∙ ap (λ (es : List Entry). length es) c.journal.ensures.entries) in (
      n.0,
      n.1,
      gone_cut_off (Unit {0}) (count_on on) number on.begun.script rest t on.begun.first old.entries before n.0 new.entries (g.K.Sink.taken lines.new.sink) (g.K.Sink.taken c.write_end.new.sink) (w c.args.watch.now) (w lines.new.watch) (w lines.new.watch)
          (legal_since old.opening new.opening old.entries new.entries t.graph shows.0 c.in_ok-entered.ensures.kept c.journal.ensures.faithful.legal)
          (λ es is. all ∙ counted_since old.entries es new.entries on.skipped is c.requires.place) n.2 c.in_default.ensures.0,
    )

pub returns-clause-gone : goal.returns-clause-gone
returns-clause-gone g c = λ t rest before shows left taken.
    let lines = c.run_commands-entered in
    let on = c.args.on.now in
    let old = on.begun.run.store in
    let new = lines.new.begun.run.store in
    let w = g.W.Watch.refused in
    let n = c.in_ok-entered.ensures.seen t rest before shows left taken in
    let number = c.saturating_sub.result in
    let all : number ≡ length new.entries - on.skipped = c.saturating_sub.ensures ∙ ap (λ n. n - on.skipped) (c.len-made.ensures ∙ ap (λ (es : List Entry). length es) c.journal.ensures.entries) in (
      n.0,
      n.1,
      gone_entered {T = Unit {0}} tt (count_on on) number on.begun.script rest t on.begun.first old.entries before n.0 new.entries (g.K.Sink.taken lines.new.sink) (g.K.Sink.taken c.write_end.new.sink) (w c.args.watch.now) (w lines.new.watch)
          (legal_since old.opening new.opening old.entries new.entries t.graph shows.0 c.in_ok-entered.ensures.kept c.journal.ensures.faithful.legal)
          (λ es is. all ∙ counted_since old.entries es new.entries on.skipped is c.requires.place) n.2 c.in-Ok.ensures.0,
    )

pub returns-in_err-entered-clause-streams : goal.returns-in_err-entered-clause-streams
returns-in_err-entered-clause-streams g c = rw (err_is c.from_residual.result _ c.from_residual.ensures.1) c.in_err-entered.ensures.streams
