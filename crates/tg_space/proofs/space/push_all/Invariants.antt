use Rattle.std.proofs.Common.{◌≡◌, ◌≤◌, ◌+◌, ◌++◌, length, vec_capacity}
use Rattle.tg_space.proofs.space.push_all.Given as goal

abbrev pub invariant-loop-block : goal.invariant-loop-block
invariant-loop-block l = record {
  left : l.yielded ++ l.block-iterator.rest.items ≡ l.fn.more.items;
  blocks : l.blocks.items ≡ l.initial.blocks.items ++ l.yielded;
  room : length l.initial.blocks.items + length l.fn.more.items ≤ vec_capacity l.blocks;
}
