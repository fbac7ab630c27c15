use Rattle.std.proofs.Common.{◌≡◌, true, take}
use Rattle.std.specs.Prelude.{nat_lt}
use Rattle.std.specs.List.{list_all}
use Rattle.tg_parallel.proofs.part.are_below.Given as goal

-- all before this place are below the limit
abbrev pub invariant-loop-number : goal.invariant-loop-number
invariant-loop-number l = list_all (λ b. nat_lt b l.limit) (take l.number-index l.numbers) ≡ true
