use Rattle.std.proofs.Common.{◌-◌, Err, ap, arith, drop, length, subst, sym}
use Rattle.tg_threads.specs.declared.fault.RaceFault.{RaceFault}
use Rattle.tg_threads.specs.Race.{IsOfTelling, TellsRace, race_read_failures, race_write_failures}
use Rattle.tg_threads.specs.Telling.{text_of_told}
use Rattle.tg_threads.proofs.race_on.tell_on.Goals as goal

pub returns-in-Err-clause-fault : goal.returns-in-Err-clause-fault
returns-in-Err-clause-fault g c = subst IsOfTelling (sym c.in-Err.ensures.fault) tt

pub returns-in-Err-clause-read : goal.returns-in-Err-clause-read
returns-in-Err-clause-read g c = ap (λ (f : RaceFault). race_read_failures {T = Unit {0}} (Err f)) c.in-Err.ensures.fault

pub returns-in-Err-clause-write_failed : goal.returns-in-Err-clause-write_failed
returns-in-Err-clause-write_failed g c = omega (arith, ap (λ (f : RaceFault). race_write_failures {T = Unit {0}} (Err f)) c.in-Err.ensures.fault)

pub returns-in-Err-clause-told : goal.returns-in-Err-clause-told
returns-in-Err-clause-told g c = λ before taken.
    let s = c.args.raced.now.store in
    let text = g.T.RaceTelling.race_text_on (length s.entries - c.args.place.skipped) (drop c.args.place.first s.entries) (text_of_told s.entries c.args.raced.now.told.items) in
    subst (λ (f : RaceFault). TellsRace {T = Unit {0}} s text before (Err f) (g.K.Sink.taken c.args.sink.now)) (sym c.in-Err.ensures.fault) taken
