use Rattle.std.proofs.Common.{◌∙◌, ap}
use Rattle.tg_revive.proofs.Reviving.{reopened}
use Rattle.tg_revive.proofs.begin.reopen.Goals as goal

pub returns-in-Ok-clause-reopened : goal.returns-in-Ok-clause-reopened
returns-in-Ok-clause-reopened g c =
    reopened c.in_ok-opening.opening c.args.snapshot.now c.args.limits c.in-Ok.store (c.in_ok-opening.ensures.limit ∙ c.limit.ensures ∙ ap (λ s. s.limit) c.picture-picture.ensures.picture) c.in-Ok.ensures.reopened

pub unreachable-requires-in-LimitDiffers : goal.unreachable-requires-in-LimitDiffers
unreachable-requires-in-LimitDiffers g c =
    (c.in-Err.ensures.differs.0 c.in-LimitDiffers.is) (c.in_ok-opening.ensures.limit ∙ c.limit.ensures ∙ ap (λ s. s.limit) c.picture-picture.ensures.picture)
