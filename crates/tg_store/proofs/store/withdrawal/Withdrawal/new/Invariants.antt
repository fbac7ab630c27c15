use Rattle.std.proofs.Common.{◌≡◌, take}
use Rattle.std.specs.List.{All}
use Rattle.tg_subjects.specs.Subjects.{names_of}
use Rattle.tg_rows.specs.Rows.{IsVertexAt}
use Rattle.tg_store.specs.Inner.Reaching.{names_found}
use Rattle.tg_store.specs.Withdrawing.{givers_among}
use Rattle.tg_store.proofs.store.withdrawal.Withdrawal.new.Given as goal

-- the givers are those of the subjects before this one that aren't kept
abbrev pub invariant-loop-subject : goal.invariant-loop-subject
invariant-loop-subject g l = record {
  names : names_found l.givers.items ≡ givers_among (names_of (take l.subject-index l.subject-items)) l.keep;
  placed : All (λ v. IsVertexAt l.heap.table.spaces v.0 v.1) l.givers.items;
}
