use Rattle.std.proofs.Common.{◌∙◌, ap, refl, subst, sym}
use Rattle.std.proofs.lemmas.Result.{err_from_is_err_and}
use Rattle.tg_journal.specs.Auditing.{StandsAt}
use Rattle.tg_journal.specs.Live.{AuditState}
use Rattle.tg_journal.proofs.AuditLaws.{bad_here, passed_on, stays_for_want, stops_for_want}
use Rattle.tg_journal.proofs.auditor.Auditor.replay_next.Goals as goal

pub returns-clause-passed : goal.returns-clause-passed
returns-clause-passed c = λ g stands.
    passed_on g _ _ (subst (StandsAt g) (sym c.self.view_is) (c.sweep_where_due.ensures.stays g stands)) c.args.entry.now
    (c.in_ok-replay.ensures.legal.0 c.if-not-branch.false) (c.in_ok-replay.ensures.next c.if-not-branch.false) refl

pub returns-then-not-branch-clause-stopped : goal.returns-then-not-branch-clause-stopped
returns-then-not-branch-clause-stopped c =
    let place = ap (λ (a : AuditState). a.at) c.self.view_is ∙ c.sweep_where_due.ensures.place.0 in (
      place,
      place,
      refl,
      λ g stands. bad_here g _ c.args.entry.now (subst (StandsAt g) (sym c.self.view_is) (c.sweep_where_due.ensures.stays g stands))
          (λ legal. let same = c.in_ok-replay.ensures.legal.1 legal in cc (same, c.if-not-branch.true)),
    )

pub returns-in_err-replay-clause-stopped : goal.returns-in_err-replay-clause-stopped
returns-in_err-replay-clause-stopped c =
    let given = err_from_is_err_and c.from_residual-in_err-replay.result c.from_residual-in_err-replay.ensures.1 in
    stops_for_want c.from_residual-in_err-replay.result given.0 c.args.self.now _ c.args.entry.now given.1 given.2
    (ap (λ (a : AuditState). a.at) c.self.view_is ∙ c.sweep_where_due.ensures.place.0)
    (λ g stands. stays_for_want g _ _ (subst (StandsAt g) (sym c.self.view_is) (c.sweep_where_due.ensures.stays g stands)) c.in_err-replay.ensures.refused refl)
