use Rattle.tg_space.proofs.Tables.{numbered_is}
use Rattle.tg_space.proofs.spaces.Spaces.words.Goals as goal

pub returns-clause-numbered : goal.returns-clause-numbered
returns-clause-numbered c = numbered_is _ c.args.self.now c.args.place c.index.result.now _ c.self.view_is c.self.invariant.0 c.requires c.index.ensures c.words.ensures
