use Rattle.std.proofs.Common.{◌∙◌, ap, length}
use Rattle.std.proofs.lemmas.Result.{err_from_is_err_and}
use Rattle.tg_store.specs.Store.{graph_of_store}
use Rattle.tg_store.specs.Withdrawing.{withdrawing}
use Rattle.tg_kept.specs.Deeds.{AreNoneOr}
use Rattle.tg_kept.proofs.DeedLaws.{withdraw_adds, keeps_old, loses_deed}
use Rattle.tg_kept.proofs.kept.Kept.withdraw.Goals as goal

pub keep_from-requires : goal.keep_from-requires
keep_from-requires g c =
    let old = c.args.self.store in
    let new = c.withdraw-answer.new.self in
    let did = c.withdraw-answer.ensures in
    let from = c.len-place.ensures ∙ ap length c.journal.ensures.entries in
    keeps_old (AreNoneOr (withdrawing (graph_of_store old) c.args.target c.args.rights c.args.keep.now)) old new c.len-place.result
    (withdraw_adds c.args.target c.args.rights c.args.keep.now old new c.withdraw-answer.result (record { withdrawn = did.withdrawn; refused = did.refused })) from
    g.D.Disk c.args.self.file c.args.self.opened c.args.self.writable c.args.self.keeps c.journal.ensures.within

pub returns-in_err-kept-clause-lost : goal.returns-in_err-kept-clause-lost
returns-in_err-kept-clause-lost g c =
    let old = c.args.self.store in
    let new = c.withdraw-answer.new.self in
    let did = c.withdraw-answer.ensures in
    let from = c.len-place.ensures ∙ ap length c.journal.ensures.entries in
    let p = err_from_is_err_and c.from_residual.result c.from_residual.ensures.1 in
    rw (p.1, p.2) (loses_deed (AreNoneOr (withdrawing (graph_of_store old) c.args.target c.args.rights c.args.keep.now)) old new c.len-place.result
    (withdraw_adds c.args.target c.args.rights c.args.keep.now old new c.withdraw-answer.result (record { withdrawn = did.withdrawn; refused = did.refused })) from
    g.D.Disk c.args.self.file.disk c.in_err-kept.field-0.0.disk c.in_err-kept.ensures.lost)

pub returns-clause-withdrawn : goal.returns-clause-withdrawn
returns-clause-withdrawn g c =
    let did = c.withdraw-answer.ensures in
    rw c.in_ok-kept.ensures.store (record { withdrawn = did.withdrawn; refused = did.refused })
