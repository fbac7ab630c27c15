use Rattle.std.proofs.Common.{◌∙◌, ap, length}
use Rattle.std.proofs.lemmas.Result.{err_from_is_err_and}
use Rattle.tg_store.specs.Leaving.{leaving}
use Rattle.tg_store.specs.Store.{graph_of_store}
use Rattle.tg_kept.specs.Deeds.{AreNoneOr}
use Rattle.tg_kept.proofs.DeedLaws.{leave_adds, keeps_old, loses_deed}
use Rattle.tg_kept.proofs.kept.Kept.leave.Goals as goal

pub keep_from-requires : goal.keep_from-requires
keep_from-requires g c =
    let old = c.args.self.store in
    let new = c.leave-answer.new.self in
    let did = c.leave-answer.ensures in
    let from = c.len-place.ensures ∙ ap length c.journal.ensures.entries in
    keeps_old (AreNoneOr (leaving (graph_of_store old) c.args.worker)) old new c.len-place.result
    (leave_adds c.args.worker old new c.leave-answer.result (record { left = did.left; count = did.count; no_such_worker = did.no_such_worker; never_full = did.never_full; refused = did.refused })) from
    g.D.Disk c.args.self.file c.args.self.opened c.args.self.writable c.args.self.keeps c.journal.ensures.within

pub returns-in_err-kept-clause-lost : goal.returns-in_err-kept-clause-lost
returns-in_err-kept-clause-lost g c =
    let old = c.args.self.store in
    let new = c.leave-answer.new.self in
    let did = c.leave-answer.ensures in
    let from = c.len-place.ensures ∙ ap length c.journal.ensures.entries in
    let p = err_from_is_err_and c.from_residual.result c.from_residual.ensures.1 in
    rw (p.1, p.2) (loses_deed (AreNoneOr (leaving (graph_of_store old) c.args.worker)) old new c.len-place.result
    (leave_adds c.args.worker old new c.leave-answer.result (record { left = did.left; count = did.count; no_such_worker = did.no_such_worker; never_full = did.never_full; refused = did.refused })) from
    g.D.Disk c.args.self.file.disk c.in_err-kept.field-0.0.disk c.in_err-kept.ensures.lost)

pub returns-clause-departed : goal.returns-clause-departed
returns-clause-departed g c =
    let did = c.leave-answer.ensures in
    rw c.in_ok-kept.ensures.store (record { left = did.left; count = did.count; no_such_worker = did.no_such_worker; never_full = did.never_full; refused = did.refused })
