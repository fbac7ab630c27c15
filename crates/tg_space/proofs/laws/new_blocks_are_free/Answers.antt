use Rattle.tg_space.proofs.Tables.{cell_at-with_block, kept-with_block}
use Rattle.tg_space.proofs.laws.new_blocks_are_free.Goals as goal

pub returns-clause-kept : goal.returns-clause-kept
returns-clause-kept c = λ h space p low held. kept-with_block h space low p held

pub returns-clause-added : goal.returns-clause-added
returns-clause-added c = λ h space p low held. cell_at-with_block h space low p held
