use Rattle.std.proofs.Common.{arith, ◌∙◌, ap}
use Rattle.tg_race.specs.Weights.{weigh}
use Rattle.tg_race.specs.Words.{place_at, place_of}
use Rattle.tg_race.specs.Seats.{Seated}
use Rattle.tg_race.proofs.Parts.{claims_of}
use Rattle.tg_race.proofs.Needs.{at_table, stands_at, usable, word_within}
use Rattle.tg_race.proofs.Allowed.{tries_word}
use Rattle.tg_race.proofs.helper.Helper.claim_word.Goals as goal

pub compare_exchange-requires : goal.compare_exchange-requires
compare_exchange-requires c =
    let me = c.self.view_is in
    let word = stands_at _ _ _ c.args.at.cell _ c.table.view_is c.table.invariant.0 c.requires.word.is c.requires.word.moved c.requires.word.inside in
    let place = place_of c.args.word in
    let mine = ap (λ (x : Seated). claims_of place x.done) me in
    let usage = usable c.args.self.now.done place c.requires.allowed in (
      at_table _ _ _ _ me c.requires.own c.table.view_is,
      word_within c.table.view_is c.table.invariant.1 c.requires.word,
      rw word.is (tries_word _ _ _ _ c.args.word _ c.self.invariant.1 word.inside c.requires.forward (omega (arith, usage.0))
          (ap (λ (x : Seated). weigh (place_at place) x.done.won) me ∙ usage.1)),
    )
