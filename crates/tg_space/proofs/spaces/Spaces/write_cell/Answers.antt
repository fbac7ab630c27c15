use Rattle.tg_space.proofs.Tables.{cell_put}
use Rattle.tg_space.proofs.spaces.Spaces.write_cell.Goals as goal

pub invariant_of-self : goal.invariant_of-self
invariant_of-self c =
    cell_put _ _ _ c.args.place c.index_mut-space.result.now c.set_cell.new.self (λ _. c.args.words)
    c.self.view_is c.self.invariant c.requires.held c.requires.handed_out c.index_mut-space.ensures.value c.set_cell.ensures.changed c.set_cell.ensures.whole
