use Rattle.std.proofs.Common.{refl, subst, sym}
use Rattle.tg_journal.specs.Auditing.{StandsAt}
use Rattle.tg_journal.proofs.AuditLaws.{answered, on_err, stays_for_want}
use Rattle.tg_journal.proofs.auditor.Auditor.answer.Goals as goal

pub returns-in_err-reply-clause-refused : goal.returns-in_err-reply-clause-refused
returns-in_err-reply-clause-refused c = λ g stands.
    let here = subst (StandsAt g) (sym c.self-2.view_is) (c.sweep_where_due.ensures.stays g stands) in
    on_err c.from_residual-in_err-reply.result (stays_for_want g _ _ here c.in_err-reply.ensures.refused refl)

pub returns-clause-answered : goal.returns-clause-answered
returns-clause-answered c = λ g stands.
    let here = subst (StandsAt g) (sym c.self-2.view_is) (c.sweep_where_due.ensures.stays g stands) in
    answered g c.args.self.now _ _ c.args.worker c.args.deed.now c.in_ok-reply.reply here
    (c.is_subject.ensures.0 c.if-not-is_subject.false) (c.fits.ensures.0 c.if-not-fits.false) c.in_ok-reply.ensures.reply c.in_ok-reply.ensures.step refl
    c.in_ok-next.ensures
