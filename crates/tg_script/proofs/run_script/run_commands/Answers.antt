use Rattle.std.proofs.Common.{refl, ap, append-nil, [], ◌+◌, ◌∙◌, arith, sym, Some, None}
use Rattle.std.proofs.lemmas.Option.{same_Some}
use Rattle.tg_script.specs.Inner.Supply.{values_left}
use Rattle.tg_script.proofs.LinesLaws.{err_is, no_failures, wrote_keeps}
use Rattle.tg_script.proofs.MarkLaws.{marks_end, marks_first, marks_next, sees_none}
use Rattle.tg_script.proofs.CommandLaws.{under_first, under_end, under_cut, under_next, tells_fault, next_command}
use Rattle.tg_script.proofs.PartLaws.{passes_end, passes_line, passes_none, takes_bytes, takes_line, takes_none, takes_then}
use Rattle.tg_script.proofs.run_script.run_commands.Goals as goal

pub returns-in_default-clause-written : goal.returns-in_default-clause-written
returns-in_default-clause-written g c = λ t rest before shows left taken. rw c.in_default.is (rest, left, (refl, refl, refl, taken))

pub returns-in_default-clause-seen : goal.returns-in_default-clause-seen
returns-in_default-clause-seen g c = λ t rest before shows left taken.
    rw c.in_default.is (rest, left, ([], (refl, refl, refl, refl), taken ∙ ap Some (sym (append-nil before)), sees_none (g.W.Watch.refused c.args.watch.now)))

pub lines-init : goal.lines-init
lines-init g c =
    let s = g.S.Source in
    let k = g.K.Sink in
    let behind = rw c.in-Some.is at c.requires.runnable.commands in
    record {
      command = behind.0;
      opening = behind.1;
      under = λ first t rest before is shows left taken. under_first first c.in-Some.first (same_Some first c.in-Some.first (sym is ∙ c.in-Some.is)) shows left taken;
      seen = λ first t rest before is shows left taken. marks_first (g.W.Watch.refused c.args.watch.now) first c.in-Some.first (same_Some first c.in-Some.first (sym is ∙ c.in-Some.is)) shows left taken;
      failures = no_failures s.failures k.failures c.args.source.now c.args.sink.now;
      held = λ h. refl;
      stock = takes_none c.args.begun.now.run;
      passed = λ bytes is. (bytes, is, passes_none c.args.begun.now.script bytes);
      kept = refl {a = c.args.begun.now.run.store.opening};
      asked = refl {a = s.asked c.args.source.now + c.args.begun.now.script.lines.room};
    }

pub returns-in_default-run_line-clause-written : goal.returns-in_default-run_line-clause-written
returns-in_default-run_line-clause-written g c = λ t rest before shows left taken.
    let w = c.in_default-run_line.ensures.told in
    rw c.in-Some.is (under_cut (Unit {0}) w.0 c.run_line.new.run (g.K.Sink.taken c.run_line.new.sink) (c.lines.invariant.under c.in-Some.first t rest before c.in-Some.is shows left taken) w.1 w.2 w.3.0)

pub returns-in_default-run_line-clause-streams : goal.returns-in_default-run_line-clause-streams
returns-in_default-run_line-clause-streams g c =
    let had = c.lines.invariant.failures in
    rw c.in-Some.is (record {
      fault = tt;
      failures = record { read_failed = omega (arith, had.read_failed); write_failed = omega (arith, c.in_default-run_line.ensures.told.3.1, had.write_failed) };
      asked = omega (arith, c.lines.invariant.asked);
      unasked = tt;
    })

pub returns-in_err-came-clause-written : goal.returns-in_err-came-clause-written
returns-in_err-came-clause-written g c = λ t rest before shows left taken.
    let k = g.K.Sink in
    let w = c.in-Ok.ensures.told in
    let u = c.lines.invariant.under c.in-Some.first t rest before c.in-Some.is shows left taken in
    let n = c.in_err-came.ensures.bytes u.rest u.leaves in
    let wrote = wrote_keeps (k.taken c.lines.sink) (k.taken c.run_line.new.sink) (k.taken c.next.new.sink) (g.T.Telling.told c.lines.line w.0 (values_left c.lines.begun.run.supply)) w.3.0 c.in_err-came.ensures.reading.taken in
    rw (err_is c.from_residual.result _ c.from_residual.ensures.1) (rw c.in-Some.is (
      n.0,
      n.1,
      tells_fault (Unit {0}) c.in_err-came.field-0.0 g.T.Telling.told c.args.begun.now.script rest t c.in-Some.first c.args.begun.now.run.store.entries before n.0 c.run_line.new.run.store.entries (k.taken c.next.new.sink) n.2.0
          (under_end w.0 c.run_line.new.run (k.taken c.next.new.sink) (Some c.in_err-came.field-0.0) n.0 u w.1 w.2 wrote n.2.1),
    ))

pub returns-in_err-came-clause-streams : goal.returns-in_err-came-clause-streams
returns-in_err-came-clause-streams g c =
    let had = c.lines.invariant.failures in
    let reading = c.in_err-came.ensures.reading in
    rw (err_is c.from_residual.result _ c.from_residual.ensures.1) (rw c.in-Some.is (record {
      fault = reading.fault;
      failures = record { read_failed = omega (arith, reading.failures.read_failed, had.read_failed); write_failed = omega (arith, reading.failures.write_failed, c.in-Ok.ensures.told.3.1, had.write_failed) };
      asked = omega (arith, c.in_err-came.ensures.asked, c.lines.invariant.asked);
      unasked = tt;
    }))

pub returns-in_default-came-clause-written : goal.returns-in_default-came-clause-written
returns-in_default-came-clause-written g c = λ t rest before shows left taken.
    let k = g.K.Sink in
    let w = c.in-Ok.ensures.told in
    let ends = rw c.in_default-came.is at c.in_ok-came.ensures.bytes in
    let u = c.lines.invariant.under c.in-Some.first t rest before c.in-Some.is shows left taken in
    let wrote = wrote_keeps (k.taken c.lines.sink) (k.taken c.run_line.new.sink) (k.taken c.next.new.sink) (g.T.Telling.told c.lines.line w.0 (values_left c.lines.begun.run.supply)) w.3.0 c.in_ok-came.ensures.reading.taken in
    let n = ends u.rest u.leaves in
    rw c.in-Some.is (n.0, n.1, under_end w.0 c.run_line.new.run (k.taken c.next.new.sink) None n.0 u w.1 w.2 wrote n.2)

pub returns-in_default-came-clause-seen : goal.returns-in_default-came-clause-seen
returns-in_default-came-clause-seen g c = λ t rest before shows left taken.
    let k = g.K.Sink in
    let w = c.in-Ok.ensures.told in
    let ends = rw c.in_default-came.is at c.in_ok-came.ensures.bytes in
    let u = c.lines.invariant.seen c.in-Some.first t rest before c.in-Some.is shows left taken in
    let wrote = wrote_keeps (k.taken c.lines.sink) (k.taken c.run_line.new.sink) (k.taken c.next.new.sink) (g.T.Telling.told c.lines.line w.0 (values_left c.lines.begun.run.supply)) w.3.0 c.in_ok-came.ensures.reading.taken in
    let n = ends u.under.rest u.under.leaves in
    rw c.in-Some.is (n.0, n.1, marks_end w.0 c.run_line.new.run (k.taken c.next.new.sink) n.0 (g.W.Watch.refused c.run_line.new.watch) u w.1 w.2 wrote w.4 n.2)

pub returns-in_err-came-clause-seen : goal.returns-in_err-came-clause-seen
returns-in_err-came-clause-seen g c = rw (err_is c.from_residual.result _ c.from_residual.ensures.1) tt

pub returns-in_default-came-clause-streams : goal.returns-in_default-came-clause-streams
returns-in_default-came-clause-streams g c =
    let had = c.lines.invariant.failures in
    let reading = c.in_ok-came.ensures.reading in
    rw c.in-Some.is (record {
      fault = tt;
      failures = record { read_failed = omega (arith, reading.failures.read_failed, had.read_failed); write_failed = omega (arith, reading.failures.write_failed, c.in-Ok.ensures.told.3.1, had.write_failed) };
      asked = omega (arith, c.in_ok-came.ensures.asked, c.lines.invariant.asked);
      unasked = tt;
    })

pub lines-preserved : goal.lines-preserved
lines-preserved g c =
    let k = g.K.Sink in
    let w = c.in-Ok.ensures.told in
    let came = rw c.in-Some-came.is at c.in_ok-came.ensures.bytes in
    let follows = rw c.in-Some-came.is at c.in_ok-came.ensures.follows in
    let asked = rw c.in-Some-came.is at c.in_ok-came.ensures.asked_of_line in
    let on = rw c.in-Some-came.is at c.in_ok-came.ensures.passed in
    let had = c.lines.invariant.failures in
    let reading = c.in_ok-came.ensures.reading in
    let wrote = wrote_keeps (k.taken c.lines.sink) (k.taken c.run_line.new.sink) (k.taken c.next.new.sink) (g.T.Telling.told c.lines.line w.0 (values_left c.lines.begun.run.supply)) w.3.0 reading.taken in
    let n = next_command c.lines.begun.script c.in-Some-came.next c.next.new.self c.lines.invariant.opening follows in
    record {
      command = n.0;
      opening = n.1;
      under = λ first t rest before is shows left taken.
          under_next w.0 c.run_line.new.run (k.taken c.next.new.sink) c.in-Some-came.next c.next.new.self (g.S.Source.left c.next.new.source) (c.lines.invariant.under first t rest before is shows left taken) w.1 w.2 wrote came;
      seen = λ first t rest before is shows left taken.
          marks_next w.0 c.run_line.new.run (k.taken c.next.new.sink) c.in-Some-came.next c.next.new.self (g.S.Source.left c.next.new.source) (g.W.Watch.refused c.run_line.new.watch) (c.lines.invariant.seen first t rest before is shows left taken) w.1 w.2 wrote w.4 came;
      failures = record { read_failed = omega (arith, reading.failures.read_failed, had.read_failed); write_failed = omega (arith, reading.failures.write_failed, w.3.1, had.write_failed) };
      asked = omega (arith, asked, c.lines.invariant.asked);
      held = λ h. c.in-Ok.ensures.held h ∙ c.lines.invariant.held h;
      stock = takes_then c.args.begun.now.run c.lines.begun.run c.run_line.new.run c.lines.invariant.stock (takes_line c.lines.begun.run c.run_line.new.run c.lines.line w.0 w.1 w.2);
      passed = λ bytes is.
          let p = c.lines.invariant.passed bytes is in
          let n = came p.0 p.1 in
          (n.0, n.1, passes_line c.args.begun.now.script c.lines.begun.script c.next.new.self bytes p.0 n.0 c.in-Some-came.next p.2 (takes_bytes c.lines.begun.script c.next.new.self p.0 n.0 c.in-Some-came.next n.2 follows on));
      kept = w.2.opening ∙ c.lines.invariant.kept;
    }

pub returns-in_default-clause-stock : goal.returns-in_default-clause-stock
returns-in_default-clause-stock g c = takes_none c.args.begun.now.run

pub returns-in_default-clause-passed : goal.returns-in_default-clause-passed
returns-in_default-clause-passed g c = λ bytes is. rw c.in_default.is refl

pub returns-in_default-run_line-clause-held : goal.returns-in_default-run_line-clause-held
returns-in_default-run_line-clause-held g c = λ h. c.in_default-run_line.ensures.held h ∙ c.lines.invariant.held h

pub returns-in_default-run_line-clause-stock : goal.returns-in_default-run_line-clause-stock
returns-in_default-run_line-clause-stock g c =
    let w = c.in_default-run_line.ensures.told in
    takes_then c.args.begun.now.run c.lines.begun.run c.run_line.new.run c.lines.invariant.stock (takes_line c.lines.begun.run c.run_line.new.run c.lines.line w.0 w.1 w.2)

pub returns-in_err-came-clause-held : goal.returns-in_err-came-clause-held
returns-in_err-came-clause-held g c = λ h. c.in-Ok.ensures.held h ∙ c.lines.invariant.held h

pub returns-in_err-came-clause-stock : goal.returns-in_err-came-clause-stock
returns-in_err-came-clause-stock g c =
    let w = c.in-Ok.ensures.told in
    takes_then c.args.begun.now.run c.lines.begun.run c.run_line.new.run c.lines.invariant.stock (takes_line c.lines.begun.run c.run_line.new.run c.lines.line w.0 w.1 w.2)

pub returns-in_err-came-clause-passed : goal.returns-in_err-came-clause-passed
returns-in_err-came-clause-passed g c = rw (err_is c.from_residual.result _ c.from_residual.ensures.1) tt

pub returns-in_default-came-clause-held : goal.returns-in_default-came-clause-held
returns-in_default-came-clause-held g c = λ h. c.in-Ok.ensures.held h ∙ c.lines.invariant.held h

pub returns-in_default-came-clause-stock : goal.returns-in_default-came-clause-stock
returns-in_default-came-clause-stock g c =
    let w = c.in-Ok.ensures.told in
    takes_then c.args.begun.now.run c.lines.begun.run c.run_line.new.run c.lines.invariant.stock (takes_line c.lines.begun.run c.run_line.new.run c.lines.line w.0 w.1 w.2)

pub returns-in_default-came-clause-passed : goal.returns-in_default-came-clause-passed
returns-in_default-came-clause-passed g c = λ bytes is.
    let p = c.lines.invariant.passed bytes is in
    let ends = rw c.in_default-came.is at c.in_ok-came.ensures.bytes in
    let on = rw c.in_default-came.is at c.in_ok-came.ensures.passed in
    let n = ends p.0 p.1 in
    rw c.in-Some.is (passes_end c.args.begun.now.script c.lines.begun.script c.next.new.self bytes p.0 p.2 on n.2.0, on.3 ∙ c.lines.invariant.opening)
