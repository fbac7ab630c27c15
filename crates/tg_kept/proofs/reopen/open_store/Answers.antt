use Rattle.std.proofs.Common.{◌∙◌}
use Rattle.std.proofs.lemmas.Result.{err_from_is_err_and}
use Rattle.tg_kept.proofs.ReopenLaws.{no_store, opens_as}
use Rattle.tg_kept.proofs.reopen.open_store.Goals as goal

pub returns-in_err-opened-clause-refused : goal.returns-in_err-opened-clause-refused
returns-in_err-opened-clause-refused g c =
    let p = err_from_is_err_and c.from_residual.result c.from_residual.ensures.1 in
    rw (p.1, p.2) (λ clean. c.in_err-opened.ensures.refused clean)

pub returns-in_err-history-clause-refused : goal.returns-in_err-history-clause-refused
returns-in_err-history-clause-refused g c =
    let p = err_from_is_err_and c.from_residual-in_err-history.result c.from_residual-in_err-history.ensures.1 in
    rw (p.1, p.2) (λ clean. c.in_ok-opened.ensures.opened.opens clean)

pub returns-in_err-store-clause-refused : goal.returns-in_err-store-clause-refused
returns-in_err-store-clause-refused g c =
    let p = err_from_is_err_and c.from_residual-in_err-store.result c.from_residual-in_err-store.ensures.1 in
    rw (p.1, p.2) (λ clean. no_store c.deref.result.now (g.D.Disk.seen c.args.file.now.disk) c.in_ok-history.history c.args.limits c.in_err-store.field-0.0
    (c.deref.ensures.value ∙ c.in_ok-opened.ensures.bytes clean) (c.in_ok-opened.ensures.opened.opens clean) c.in_ok-history.ensures c.in_err-store.ensures.refused)

pub returns-clause-store : goal.returns-clause-store
returns-clause-store g c =
    opens_as (g.D.Disk.is_clean c.«open».new.self.disk) c.deref.result.now (g.D.Disk.seen c.args.file.now.disk) c.in_ok-history.history c.args.limits c.in_ok-store.store
    (λ clean. c.deref.ensures.value ∙ c.in_ok-opened.ensures.bytes clean) c.in_ok-opened.ensures.opened.opens c.in_ok-history.ensures c.in_ok-store.ensures.revived
