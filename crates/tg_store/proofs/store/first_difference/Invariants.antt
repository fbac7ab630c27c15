use Rattle.std.proofs.Common.{◌≡◌, ◌≤◌, length, take}
use Rattle.tg_store.proofs.store.first_difference.Given as goal

-- the lists agree so far
abbrev pub invariant-loop-at : goal.invariant-loop-at
invariant-loop-at g l = record {
  room : l.at ≤ length l.drafts;
  same : take l.at l.values ≡ take l.at l.drafts;
}
