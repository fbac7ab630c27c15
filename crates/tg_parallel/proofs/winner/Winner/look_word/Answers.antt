use Rattle.std.proofs.Common.{◌≡◌, subst, sym}
use Rattle.tg_word.specs.Word.{place_in}
use Rattle.tg_race.specs.Race.{with_seen}
use Rattle.tg_race.specs.Seats.{Seated}
use Rattle.tg_race.specs.Words.{place_of, place_word}
use Rattle.tg_parallel.proofs.winner.Winner.look_word.Goals as goal

pub returns-clause-some : goal.returns-clause-some
unfolding place_of
returns-clause-some c some =
    subst (λ (s : Seated). c.look_word.new.self ≡ record s { done = with_seen s.done (c.args.at.cell, place_in c.look_word.result) }) c.self.view_is (c.look_word.ensures.some some)

pub returns-clause-place : goal.returns-clause-place
unfolding place_of
returns-clause-place c some = (c.look_word.ensures.forward some).0

pub returns-clause-link : goal.returns-clause-link
unfolding place_of place_word
returns-clause-link c some = sym (c.look_word.ensures.forward some).1
