use Rattle.std.proofs.Common.{◌≡◌, ◌+◌, ◌++◌, map, take, drop}
use Rattle.tg_space.proofs.space_list.add_one.Given as goal

abbrev pub invariant-loop-number : goal.invariant-loop-number
invariant-loop-number l = l.numbers ≡ map (λ n. n + 1) (take l.number-index l.fn.numbers) ++ drop l.number-index l.fn.numbers
