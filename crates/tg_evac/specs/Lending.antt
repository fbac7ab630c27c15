-- One of two values, lent out of both.
use Rattle.std.specs.Prelude.{Bool, [], if◌then◌else◌}
use Rattle.std.specs.Borrow.{Lends, MutBor, Fml}
use mir.Syntax.{named}
use denote.RattleType.{RattleType}
use Rattle.tg_evac.specs.declared.both.Both.{Both}
use Rattle.tg_evac.specs.contracts.both.Both.{the_row}

-- both, with this one for Old or for Aged
abbrev pub with_one : {T : Type 0} → Both T → Bool → T → Both T
with_one s is_in_old w = if is_in_old then record s { old = record s.old { now = w } } else record s { aged = record s.aged { now = w } }

-- that for Old or for Aged ends as the last value after r, and the other stays
abbrev pub LendsOne : (T : RattleType) → MutBor (Both T.Denot) → Bool → MutBor T.Denot → Fml
LendsOne T s is_in_old r = Lends (the_row (record { mir = named 0; lft = [] }) T) T s r (with_one s.now is_in_old)
