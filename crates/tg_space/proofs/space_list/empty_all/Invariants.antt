use Rattle.std.proofs.Common.{◌≡◌, ◌<◌, [], ℕ}
use Rattle.tg_space.specs.SpaceList.{IsEmptyFrom, space_of}
use Rattle.tg_space.proofs.space_list.empty_all.Given as goal

abbrev pub invariant-loop-space : goal.invariant-loop-space
invariant-loop-space l = ((k : ℕ) → k < l.space → space_of l.spaces k ≡ []) × IsEmptyFrom l.filled l.spaces
