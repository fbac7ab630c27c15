use Rattle.std.proofs.Common.{◌≡◌, ◌<◌, ℕ, length, get_or}
use Rattle.tg_space.specs.SpaceList.{blocks_before}
use Rattle.tg_space.proofs.numbering.Numbering.of.Given as goal

abbrev pub invariant-loop-space : goal.invariant-loop-space
invariant-loop-space l = (length l.starts ≡ 66) × (l.before ≡ blocks_before l.spaces.spaces l.space) × ((k : ℕ) → k < l.space → get_or l.starts k 0 ≡ blocks_before l.spaces.spaces k)
