use Rattle.tg_race.proofs.Needs.{at_table, stands_at, word_within}
use Rattle.tg_race.proofs.Allowed.{looks}
use Rattle.tg_race.proofs.helper.Helper.look_word.Goals as goal

pub load-requires : goal.load-requires
load-requires c =
    let word = stands_at _ _ _ c.args.at.cell _ c.table.view_is c.table.invariant.0 c.requires.word.is c.requires.word.moved c.requires.word.inside in (
      at_table _ _ _ _ c.self.view_is c.requires.own c.table.view_is,
      word_within c.table.view_is c.table.invariant.1 c.requires.word,
      rw word.is (looks _ _ _ _ _ c.self.invariant.1 word.inside),
    )
