use Rattle.std.proofs.Common.{◌++◌, Ok, arith, refl, subst}
use Rattle.tg_model.specs.Opened.{IsPlan}
use Rattle.tg_store.specs.Origin.{Origin}
use Rattle.tg_text.specs.Sinks.{Wrote, WroteSome}
use Rattle.tg_entries.specs.Texts.{head_text}
use Rattle.tg_script.proofs.LinesLaws.{err_is}
use Rattle.tg_script.proofs.DueLaws.{uses_no_line}
use Rattle.tg_script.proofs.MarkLaws.{entries_seen}
use Rattle.tg_script.proofs.EnteringLaws.{as_end, as_opening, enters_done, enters_end_cut, enters_fault, enters_opening_cut, has_entries, legal_from}
use Rattle.tg_script.proofs.entering.enter_all.Goals as goal

-- The opening was cut short.
pub returns-in_default-clause-written : goal.returns-in_default-clause-written
returns-in_default-clause-written g c = λ t rest before shows left taken.
    let k = g.K.Sink in
    let p = c.args.begun.now.run.store.opening.plan in (
      rest,
      left,
      enters_opening_cut (Unit {0}) c.args.begun.now.script rest t c.args.begun.now.first p before (k.taken c.write_opening.new.sink)
          (as_opening WroteSome p c.opening.result.now before (k.taken c.args.sink.now) (k.taken c.write_opening.new.sink) c.opening.ensures taken c.in_default.ensures.0),
    )

-- A fault was met at the lines.
pub returns-in_err-entered-clause-written : goal.returns-in_err-entered-clause-written
returns-in_err-entered-clause-written g c = λ t rest before shows left taken.
    let k = g.K.Sink in
    let s = c.args.begun.now.run.store in
    let new = c.run_commands-entered.new.begun.run.store in
    let begun = as_opening Wrote s.opening.plan c.opening.result.now before (k.taken c.args.sink.now) (k.taken c.write_opening.new.sink) c.opening.ensures taken c.in-Ok.ensures.0 in
    let n = c.in_err-entered.ensures.written t rest (before ++ head_text s.opening.plan) shows left begun in
    let legal = legal_from s.opening new.opening s.entries new.entries t.graph c.requires.none shows.0 c.in_err-entered.ensures.kept c.journal.ensures.faithful.legal in
    rw (err_is c.from_residual.result _ c.from_residual.ensures.1) (
      n.0,
      n.1,
      enters_fault (Unit {0}) c.in_err-entered.field-0.0 c.args.begun.now.script rest t c.args.begun.now.first s.opening.plan s.entries before n.0 new.entries (k.taken c.run_commands-entered.new.sink) c.requires.none legal n.2,
    )

-- The number of the entries was cut short.
pub returns-in_default-write_end-clause-written : goal.returns-in_default-write_end-clause-written
returns-in_default-write_end-clause-written g c = λ t rest before shows left taken.
    let k = g.K.Sink in
    let s = c.args.begun.now.run.store in
    let new = c.run_commands-entered.new.begun.run.store in
    let begun = as_opening Wrote s.opening.plan c.opening.result.now before (k.taken c.args.sink.now) (k.taken c.write_opening.new.sink) c.opening.ensures taken c.in-Ok.ensures.0 in
    let n = c.in_ok-entered.ensures.written t rest (before ++ head_text s.opening.plan) shows left begun in
    let legal = legal_from s.opening new.opening s.entries new.entries t.graph c.requires.none shows.0 c.in_ok-entered.ensures.kept c.journal.ensures.faithful.legal in
    let has = has_entries (Ok c.in_ok-entered.field-0) c.args.begun.now.script rest t c.args.begun.now.first s.opening.plan s.entries before n.0 new.entries (k.taken c.run_commands-entered.new.sink) refl c.requires.none legal n.2 in (
      n.0,
      n.1,
      enters_end_cut (Unit {0}) c.args.begun.now.script rest t c.args.begun.now.first s.opening.plan before n.0 new.entries (k.taken c.run_commands-entered.new.sink) (k.taken c.write_end.new.sink) has
          (as_end WroteSome c.journal.result.now.entries new.entries c.len-count.result (k.taken c.run_commands-entered.new.sink) (k.taken c.write_end.new.sink) c.len-count.ensures c.journal.ensures.entries c.in_default-write_end.ensures.0),
    )

pub returns-clause-written : goal.returns-clause-written
returns-clause-written g c = λ t rest before shows left taken.
    let k = g.K.Sink in
    let s = c.args.begun.now.run.store in
    let new = c.run_commands-entered.new.begun.run.store in
    let begun = as_opening Wrote s.opening.plan c.opening.result.now before (k.taken c.args.sink.now) (k.taken c.write_opening.new.sink) c.opening.ensures taken c.in-Ok.ensures.0 in
    let n = c.in_ok-entered.ensures.written t rest (before ++ head_text s.opening.plan) shows left begun in
    let legal = legal_from s.opening new.opening s.entries new.entries t.graph c.requires.none shows.0 c.in_ok-entered.ensures.kept c.journal.ensures.faithful.legal in
    let plan = subst (λ (o : Origin). IsPlan o.plan) c.in_ok-entered.ensures.kept c.journal.ensures.faithful.origin.plan in
    let has = has_entries (Ok c.in_ok-entered.field-0) c.args.begun.now.script rest t c.args.begun.now.first s.opening.plan s.entries before n.0 new.entries (k.taken c.run_commands-entered.new.sink) refl c.requires.none legal n.2 in (
      n.0,
      n.1,
      enters_done {T = Unit {0}} tt c.args.begun.now.script rest t c.args.begun.now.first s.opening.plan before n.0 new.entries (k.taken c.run_commands-entered.new.sink) (k.taken c.write_end.new.sink) plan has
          (as_end Wrote c.journal.result.now.entries new.entries c.len-count.result (k.taken c.run_commands-entered.new.sink) (k.taken c.write_end.new.sink) c.len-count.ensures c.journal.ensures.entries c.in-Ok-write_end.ensures.0),
    )

pub returns-in_default-clause-streams : goal.returns-in_default-clause-streams
returns-in_default-clause-streams g c =
    let s = g.S.Source in
    uses_no_line (Unit {0}) s.asked s.failures g.K.Sink.failures c.args.source.now c.args.sink.now c.write_opening.new.sink c.args.begun.now.script c.args.begun.now.first c.in_default.ensures.1

pub returns-in_err-entered-clause-streams : goal.returns-in_err-entered-clause-streams
returns-in_err-entered-clause-streams g c =
    let uses = c.in_err-entered.ensures.streams in
    rw (err_is c.from_residual.result _ c.from_residual.ensures.1) (record {
      fault = uses.fault;
      failures = record { read_failed = uses.failures.read_failed; write_failed = omega (arith, uses.failures.write_failed, c.in-Ok.ensures.1) };
      asked = uses.asked;
      unasked = uses.unasked;
    })

pub returns-clause-seen : goal.returns-clause-seen
returns-clause-seen g c = λ t rest before shows left taken.
    let k = g.K.Sink in
    let s = c.args.begun.now.run.store in
    let new = c.run_commands-entered.new.begun.run.store in
    let begun = as_opening Wrote s.opening.plan c.opening.result.now before (k.taken c.args.sink.now) (k.taken c.write_opening.new.sink) c.opening.ensures taken c.in-Ok.ensures.0 in
    let n = c.in_ok-entered.ensures.seen t rest (before ++ head_text s.opening.plan) shows left begun in (
      n.0,
      n.1,
      entries_seen (g.W.Watch.refused c.args.watch.now) (g.W.Watch.refused c.run_commands-entered.new.watch) c.args.begun.now.script rest t c.args.begun.now.first s.opening.plan s.entries before n.0 new.entries (k.taken c.run_commands-entered.new.sink) (k.taken c.write_end.new.sink) c.requires.none n.2
          (as_end Wrote c.journal.result.now.entries new.entries c.len-count.result (k.taken c.run_commands-entered.new.sink) (k.taken c.write_end.new.sink) c.len-count.ensures c.journal.ensures.entries c.in-Ok-write_end.ensures.0),
    )

pub returns-in_err-entered-clause-seen : goal.returns-in_err-entered-clause-seen
returns-in_err-entered-clause-seen g c = rw (err_is c.from_residual.result _ c.from_residual.ensures.1) tt
