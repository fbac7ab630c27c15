use Rattle.std.proofs.Common.{◌≡◌, ◌*◌, ◌<◌, ◌≤◌, ℕ, ap, subst, sym, ◌∙◌}
use Rattle.std.specs.Prelude.{Ok}
use Rattle.tg_word.specs.Word.{place_in}
use Rattle.tg_race.specs.declared.record.Record.{Record}
use Rattle.tg_race.specs.Race.{with_seen}
use Rattle.tg_race.specs.Seats.{Seated}
use Rattle.tg_evac.specs.Walks.{ClaimsCell}
use Rattle.tg_parallel.specs.Parts.{HasClaimedPast, HasPlaces}
use Rattle.tg_parallel.specs.Seats.{Sitting, walked_at}
use Rattle.tg_parallel.proofs.Filled.{finds_seen, seen_known, seen_met}
use Rattle.tg_parallel.proofs.Seating.{claims_cell, which}
use Rattle.tg_parallel.proofs.seat.SeatClaimer.claim.Goals as goal

pub word_of-at-requires-clause-inside : goal.word_of-at-requires-clause-inside
word_of-at-requires-clause-inside c = subst (λ (x : Sitting). c.args.cell < x.board.counts.cells) (sym c.self.view_is) c.requires.inside

pub word_of-at-requires-clause-moved : goal.word_of-at-requires-clause-moved
word_of-at-requires-clause-moved c = subst (λ (x : Sitting). 64 * x.board.counts.kept ≤ c.args.cell) (sym c.self.view_is) c.requires.moved

pub returns-then-word-ne0 : goal.returns-then-word-ne0
returns-then-word-ne0 c =
    let s = c.self.inside in let v = s.winner.done in let at = c.word_of-at.result in let word = c.look_word-word.result in let some = c.if-word-ne0.true in
    let seen = with_seen v (at.cell, place_in word) in
    let done : c.look_word-word.new.self.done ≡ seen = ap (λ (x : Seated). x.done) (c.look_word-word.ensures.some some) in
    let a = which c.args.space c.requires.two in
    let here = claims_cell at.cell c.args.space s.kind s.limit s.table.now v seen c.args.self.now a.0 (Ok word) c.self.view_is a.1 (finds_seen at.cell a.0 v (place_in word))
    (seen_met v at.cell (place_in word)) (seen_known v at.cell (place_in word) (c.look_word-word.ensures.place some)) (c.look_word-word.ensures.link some) tt in
    subst (λ (cell : ℕ). ClaimsCell walked_at (λ (x : Sitting). HasPlaces x.done) (λ (x : Sitting). HasClaimedPast x.limit x.done) cell c.args.space c.args.self.now
    (record { kind = s.kind; limit = s.limit; board = s.table.now; done = c.look_word-word.new.self.done }) (Ok word)) c.word_of-at.ensures.cell
    (subst (λ (w : Record). ClaimsCell walked_at (λ (x : Sitting). HasPlaces x.done) (λ (x : Sitting). HasClaimedPast x.limit x.done) at.cell c.args.space c.args.self.now
    (record { kind = s.kind; limit = s.limit; board = s.table.now; done = w }) (Ok word)) (sym done) here)

pub give_word-requires-clause-unmet : goal.give_word-requires-clause-unmet
give_word-requires-clause-unmet c =
    let none = c.if-word-ne0.false in
    rw (ap (λ (x : Seated). x.done) (c.look_word-word.ensures.none none)) (c.look_word-word.ensures.unmet none)

pub returns : goal.returns
returns c =
    let s = c.self.inside in
    let done = ap (λ (x : Seated). x.done) (c.look_word-word.ensures.none c.if-word-ne0.false) in
    let was = ap (λ (v : Record). record { kind = s.kind; limit = s.limit; board = s.table.now; done = v }) done ∙ c.self.view_is in
    subst (λ (cell : ℕ). ClaimsCell walked_at (λ (x : Sitting). HasPlaces x.done) (λ (x : Sitting). HasClaimedPast x.limit x.done) cell c.args.space c.args.self.now c.give_word.new.self c.give_word.result) c.word_of-at.ensures.cell
    (subst (λ (before : Sitting). ClaimsCell walked_at (λ (x : Sitting). HasPlaces x.done) (λ (x : Sitting). HasClaimedPast x.limit x.done) c.word_of-at.result.cell c.args.space before c.give_word.new.self c.give_word.result) was c.give_word.ensures)
