use Rattle.std.proofs.Common.{◌∙◌, ap, sym, subst}
use Rattle.std.proofs.lemmas.Result.{err_from_is_err_and}
use Rattle.tg_space.specs.SpaceTable.{BlockLimits}
use Rattle.tg_store.specs.Again.{Reopens}
use Rattle.tg_c.specs.Again.{IsLackOfRoom}
use Rattle.tg_c.proofs.AgainLaws.{lacks, room_lacking}
use Rattle.tg_c.proofs.saved.again.reopen.Goals as goal

pub returns-in_err-store-clause-refused : goal.returns-in_err-store-clause-refused
returns-in_err-store-clause-refused c =
    let given = err_from_is_err_and c.from_residual-in_err-store.result c.from_residual-in_err-store.ensures.1 in
    let p = c.args.snapshot.now in
    let met = c.in_ok-blocks.ensures.met.0 in
    lacks p c.args.limits.now c.from_residual-in_err-store.result _ met given.1 (subst IsLackOfRoom (sym given.2)
    (room_lacking c.in_err-store.field-0.0.why c.in_ok-opening.opening.limit p.picture.limit p.picture.subjects
    (c.in_ok-opening.ensures.limit ∙ c.limit.ensures ∙ ap (λ s. s.limit) c.picture.ensures.picture) met.1.1.0
    (λ is. c.in_err-store.ensures.differs.0 is) (λ is. c.in_err-store.ensures.no_subject.0 is)))

pub returns-clause-reopened : goal.returns-clause-reopened
returns-clause-reopened c = record {
  met = c.in_ok-blocks.ensures.met.0;
  plan = c.in_ok-opening.opening;
  goes_on = subst (λ (l : BlockLimits). Reopens c.in_ok-opening.opening c.args.snapshot.now l c.in_ok-store.store) c.in_ok-blocks.ensures.met.1 c.in_ok-store.ensures.reopened;
}
