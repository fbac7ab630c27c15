use Rattle.std.proofs.Common.{◌≡◌, take}
use Rattle.tg_revive.proofs.begin.drafts_of.Given as goal

-- each worker so far has a draft
abbrev pub invariant-loop-value : goal.invariant-loop-value
invariant-loop-value g l = l.drafts.items ≡ take l.value-index l.values
