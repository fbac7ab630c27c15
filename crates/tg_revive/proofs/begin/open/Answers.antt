use Rattle.std.proofs.Common.{◌∙◌, List, ap, sym}
use Rattle.std.specs.Prelude.{slice_get}
use Rattle.tg_model.specs.declared.value.Value.{Value}
use Rattle.tg_revive.proofs.Reviving.{opened}
use Rattle.tg_revive.proofs.begin.open.Goals as goal

pub returns-in-Ok-clause-opened : goal.returns-in-Ok-clause-opened
returns-in-Ok-clause-opened g c =
    opened c.args.opening c.args.limits c.in-Ok.store c.in-Ok.ensures.start c.in-Ok.ensures.opening c.in-Ok.ensures.no_entry c.in-Ok.ensures.none_handed c.in-Ok.ensures.limits

pub unreachable-requires : goal.unreachable-requires
unreachable-requires g c =
    let at = c.in-PayloadMismatch.at in
    let first = (c.in-Err.ensures.mismatch at).0 c.in-PayloadMismatch.is in
    let same = sym (c.in_ok-drafts.ensures ∙ c.values.ensures) in
    first.here (ap (λ (xs : List Value). slice_get xs at) same)
