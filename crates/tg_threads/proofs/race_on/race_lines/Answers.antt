use Rattle.std.proofs.Common.{◌≡◌, ◌-◌, ◌∙◌, ℕ, List, ap, arith, drop, length, length-append, refl, subst, sym}
use Rattle.std.specs.List.{All}
use Rattle.tg_journal.specs.declared.entry.Entry.{Entry}
use Rattle.tg_shared.specs.Sessions.{since, start_of_store}
use Rattle.tg_threads.specs.Output.{IsRaceOutputOn}
use Rattle.tg_threads.specs.Telling.{IsThere, text_of_told}
use Rattle.tg_threads.proofs.RaceLaws.{audit_on, before_due_on, before_silent, before_writes, legal_since, output_on, telling_due_on, told_text}
use Rattle.tg_threads.proofs.race_on.race_lines.Goals as goal

pub race_opened-requires-clause-raceable : goal.race_opened-requires-clause-raceable
race_opened-requires-clause-raceable g c κs within = record { some = c.requires.raceable.some; commands = c.requires.commands }

pub tell_on-told-requires-clause-tellable : goal.tell_on-told-requires-clause-tellable
tell_on-told-requires-clause-tellable g c =
    let came = c.in-Ok.ensures.run.raced in
    let store = c.in-Ok.raced.store in
    let long = ap (λ (es : List Entry). length es) came.grown ∙ length-append c.args.on.from.store.entries (since (start_of_store c.args.on.from.store) store) in
    let first : c.len.result ≡ length c.args.on.from.store.entries = c.len.ensures ∙ ap (λ (es : List Entry). length es) c.journal.ensures.entries in
    record {
      held = omega (arith, came.handed.0, came.handed.1, first);
      within = omega (arith, long, first);
      there = subst (λ (n : ℕ). All (IsThere n store.entries) c.in-Ok.raced.told.items) (sym came.handed.0) came.told.there;
    }

pub tell_on-told-requires-clause-audit : goal.tell_on-told-requires-clause-audit
tell_on-told-requires-clause-audit g c =
    let came = c.in-Ok.ensures.run.raced in
    let from = c.args.on.from.store in
    let store = c.in-Ok.raced.store in
    let start = start_of_store from in
    audit_on start from store (since start store) c.args.on.auditor refl c.requires.raceable.audit came.opening came.grown came.handed
    (legal_since start from store (since start store) refl came.opening came.grown came.faithful.legal)

pub returns-in-Ok-clause-fault : goal.returns-in-Ok-clause-fault
returns-in-Ok-clause-fault g c = telling_due_on c.tell_on-told.result c.tell_on-told.ensures.fault

pub returns-in-Ok-clause-told : goal.returns-in-Ok-clause-told
returns-in-Ok-clause-told g c = λ before taken.
    let came = c.in-Ok.ensures.run.raced in
    let from = c.args.on.from in
    let raced = c.in-Ok.raced in
    let race_text = g.T.RaceTelling.race_text_on in
    let first : c.len.result ≡ length from.store.entries = c.len.ensures ∙ ap (λ (es : List Entry). length es) c.journal.ensures.entries in
    told_text c.tell_on-told.result (IsRaceOutputOn race_text from c.args.lines.items) raced.store
    (race_text (length raced.store.entries - from.skipped) (drop c.len.result raced.store.entries) (text_of_told raced.store.entries raced.told.items)) before (g.K.Sink.taken c.tell_on-told.new.sink)
    (output_on race_text from c.args.lines.items raced c.len.result came first c.requires.raceable.place) (c.tell_on-told.ensures.told before taken)

pub returns-in-Err-clause-fault : goal.returns-in-Err-clause-fault
returns-in-Err-clause-fault g c = before_due_on c.in-Err.fault c.in-Err.ensures.run.fault

pub returns-in-Err-clause-read : goal.returns-in-Err-clause-read
returns-in-Err-clause-read g c = (before_silent (Unit {0}) c.in-Err.fault c.in-Err.ensures.run.fault).0

pub returns-in-Err-clause-write_failed : goal.returns-in-Err-clause-write_failed
returns-in-Err-clause-write_failed g c = omega (arith, (before_silent (Unit {0}) c.in-Err.fault c.in-Err.ensures.run.fault).1)

pub returns-in-Err-clause-told : goal.returns-in-Err-clause-told
returns-in-Err-clause-told g c = λ before taken.
    before_writes (Unit {0}) (IsRaceOutputOn g.T.RaceTelling.race_text_on c.args.on.from c.args.lines.items) c.in-Err.fault before (g.K.Sink.taken c.args.sink.now) c.in-Err.ensures.run.fault taken
