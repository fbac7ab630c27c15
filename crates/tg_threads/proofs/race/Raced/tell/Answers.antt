use Rattle.std.proofs.Common.{ap}
use Rattle.tg_threads.specs.Race.{race_fault_of_audit}
use Rattle.tg_threads.specs.Telling.{text_of_told}
use Rattle.tg_threads.proofs.RaceLaws.{lacking, lacking_fault, own_audit_fault}
use Rattle.tg_threads.proofs.race.Raced.tell.Goals as goal

pub returns-in_err-audited-clause-told : goal.returns-in_err-audited-clause-told
returns-in_err-audited-clause-told g c = λ before taken.
    let s = c.args.self.now.store in
    let f = c.in_err-audited.field-0.0 in
    let memory = own_audit_fault s.handed s.opening.shown c.audit.result f c.in_err-audited.was c.requires.none_handed c.requires.first c.audit.ensures.not_whole.0 c.in_err-audited.ensures.fault in
    lacking s (g.T.RaceTelling.race_text s.opening.plan s.entries (text_of_told s.entries c.args.self.now.told.items)) (race_fault_of_audit f) c.from_residual.result before (g.K.Sink.taken c.args.sink.now) (ap race_fault_of_audit memory) c.from_residual.ensures.1 taken

pub returns-in_err-audited-clause-fault : goal.returns-in_err-audited-clause-fault
returns-in_err-audited-clause-fault g c =
    let f = c.in_err-audited.field-0.0 in
    let memory = own_audit_fault c.args.self.now.store.handed c.args.self.now.store.opening.shown c.audit.result f c.in_err-audited.was c.requires.none_handed c.requires.first c.audit.ensures.not_whole.0 c.in_err-audited.ensures.fault in
    lacking_fault (race_fault_of_audit f) c.from_residual.result (ap race_fault_of_audit memory) c.from_residual.ensures.1
