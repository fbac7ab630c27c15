use Rattle.tg_parallel.proofs.Room.{few_blocks}
use Rattle.tg_parallel.proofs.laws.helpers_blocks_are_few.Goals as goal

pub returns : goal.returns
returns c kind t roots made handed =
    few_blocks kind t roots handed.counts handed.done handed.aged handed.old made handed.whole handed.merged
