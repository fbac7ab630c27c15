use Rattle.std.proofs.Common.{◌≡◌, ◌∙◌, inr, drop, arith, ap, subst, sym}
use Rattle.std.specs.Prelude.{IsSome}
use Rattle.std.proofs.lemmas.Result.{err_from_is_err_and}
use Rattle.tg_store.specs.Faults.{store_audit_fault_of}
use Rattle.tg_store.specs.Store.{StoreState}
use Rattle.tg_store.proofs.Apart.{not_both}
use Rattle.tg_store.proofs.AuditLaws.{fault_of_legal}
use Rattle.tg_store.proofs.store.Store.audit.Goals as goal

-- the journal holds all its entries, and these are a legal history: so it is memory that was lacking
pub returns-in_err-audit-clause-fault : goal.returns-in_err-audit-clause-fault
returns-in_err-audit-clause-fault g c =
    let store = c.args.self.now in
    let given = err_from_is_err_and c.from_residual.result c.from_residual.ensures.1 in
    let none : store.handed ≡ 0 = omega (arith, c.start.ensures.start, c.journal-journal.ensures.start, c.if-start-gt0.false) in
    let all = c.entries.ensures ∙ (λ i. drop ((c.journal-journal.ensures.start ∙ none) i) (c.journal-journal.ensures.entries i)) in
    let want = fault_of_legal c.opening.result.now store.opening.plan store.opening.shown c.entries.result.now store.entries c.in_err-audit.field-0.0
    c.opening.ensures all (λ again. not_both (c.is_again.ensures.1 (subst (λ (s : StoreState). IsSome s.opening.shown) (sym c.self.view_is) again)) c.if-is_again.false) c.journal-journal.ensures.faithful.legal c.in_err-audit.ensures.fault in
    rw given.1 (inr (given.2 ∙ ap store_audit_fault_of want))
