use Rattle.std.proofs.Common.{arith}
use Rattle.tg_space.proofs.Flat.{before_few}
use Rattle.tg_space.proofs.Tables.{table_list}
use Rattle.tg_space.proofs.numbering.Numbering.of.Goals as goal

pub overflow_add-before : goal.overflow_add-before
overflow_add-before c =
    let few = before_few c.args.spaces.now.spaces (table_list c.args.spaces.now c.cells.ensures.table) c.loop-space.space in
    let more = c.len-before.ensures.few in
    let before = c.loop-space.invariant.1 in
    omega (arith, few, more, before)
