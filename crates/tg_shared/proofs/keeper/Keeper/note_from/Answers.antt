-- The keeper's entries from a place on are as many as the journal got since.
use Rattle.std.proofs.Common.{arith, length-drop}
use Rattle.tg_shared.proofs.keeper.Keeper.note_from.Goals as goal

pub returns-clause-number : goal.returns-clause-number
returns-clause-number g c =
    let long = length-drop c.args.at c.args.journal.now.entries in
    omega (arith, long, c.len.ensures)
