use Rattle.std.proofs.Common.{List, ℕ, ap, arith, length}
use Rattle.tg_index.proofs.number_set.NumberSet.room.Goals as goal

pub returns-clause-few : goal.returns-clause-few
returns-clause-few c = let few = c.self.invariant.few in let same = ap (λ (ws : List ℕ). length ws) c.self.view_is in omega (arith, few, same)
