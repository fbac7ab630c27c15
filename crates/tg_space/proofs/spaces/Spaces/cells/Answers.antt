use Rattle.std.proofs.Common.{arith}
use Rattle.tg_space.proofs.Flat.{length-cells_of}
use Rattle.tg_space.proofs.spaces.Spaces.cells.Goals as goal

pub returns-clause-cells : goal.returns-clause-cells
returns-clause-cells c =
    omega (arith, c.blocks-2.ensures.blocks, length-cells_of c.args.self.now.spaces c.blocks-2.ensures.table.blocks)
