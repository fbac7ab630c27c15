use Rattle.std.proofs.Common.{◌≡◌, ◌-◌, ◌*◌, ℕ, length}
use Rattle.tg_index.specs.Bits.{bit_in}
use Rattle.tg_index.proofs.number_set.NumberSet.reserve_words.Given as goal

abbrev pub invariant-loop-self : goal.invariant-loop-self
invariant-loop-self l = (n : ℕ) → bit_in l.self n ≡ bit_in l.fn.self n

abbrev pub decreases-loop-self : goal.decreases-loop-self
decreases-loop-self l = l.numbers - 64 * length l.self
