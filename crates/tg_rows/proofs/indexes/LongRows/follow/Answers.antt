use Rattle.std.proofs.Common.{◌≡◌, Some, nat_eq, subst}
use Rattle.std.specs.Map.{lookup}
use Rattle.tg_rows.specs.Index.{Indexes}
use Rattle.tg_rows.proofs.indexes.LongRows.follow.Goals as goal

pub follow_rows-self-inside-requires-clause-rows : goal.follow_rows-self-inside-requires-clause-rows
follow_rows-self-inside-requires-clause-rows c =
    λ name row found. record { able = c.requires.rows name row (subst (λ (s : Indexes). lookup (nat_eq name) s.entries ≡ Some row) c.self.view_is found); to_old = c.requires.to_old }
