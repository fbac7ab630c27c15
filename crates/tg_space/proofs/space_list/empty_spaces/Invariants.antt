use Rattle.std.proofs.Common.{◌≡◌, [], replicate}
use Rattle.tg_space.specs.SpaceList.{BlockList}
use Rattle.tg_space.proofs.space_list.empty_spaces.Given as goal

abbrev pub invariant-loop : goal.invariant-loop
invariant-loop l = l.spaces.items ≡ replicate {A = BlockList} l.counter []
