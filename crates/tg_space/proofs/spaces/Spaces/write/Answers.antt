use Rattle.std.proofs.Common.{set}
use Rattle.tg_block.specs.Cells.{cell_of}
use Rattle.tg_space.proofs.Tables.{cell_put}
use Rattle.tg_space.proofs.spaces.Spaces.write.Goals as goal

pub invariant_of-self : goal.invariant_of-self
invariant_of-self c =
    cell_put _ _ _ c.args.place c.index_mut-space.result.now c.set_word.new.self (λ cells. set (cell_of cells c.args.place.cell) c.args.i c.args.word)
    c.self.view_is c.self.invariant c.requires.held c.requires.handed_out c.index_mut-space.ensures.value c.set_word.ensures.changed c.set_word.ensures.whole
