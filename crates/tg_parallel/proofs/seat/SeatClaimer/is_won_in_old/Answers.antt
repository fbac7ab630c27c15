use Rattle.std.proofs.Common.{◌<◌, length, arith, sym, subst}
use Rattle.std.proofs.lemmas.List.{length-map}
use Rattle.tg_word.specs.Word.{place_in}
use Rattle.tg_evac.specs.Claims.{win_at}
use Rattle.tg_parallel.specs.Parts.{win_of, wins_of}
use Rattle.tg_parallel.specs.Seats.{Sitting}
use Rattle.tg_parallel.proofs.Seating.{pair_two}
use Rattle.tg_parallel.proofs.seat.SeatClaimer.is_won_in_old.Goals as goal

pub returns-clause-two : goal.returns-clause-two
returns-clause-two c =
    let s = c.self.inside in
    let won = c.args.self.now.done.won in let long = length-map won win_of in let under : c.args.k < length won = omega (arith, c.requires, long) in
    let low = subst (λ (x : Sitting). c.args.k < length x.done.won) (sym c.self.view_is) under in
    subst (λ (x : Sitting). (place_in (win_at (wins_of x.done.won) c.args.k).word).space < 2) c.self.view_is (pair_two s.limit s.table.now s.winner s.aged s.old c.self.invariant c.args.k low)

pub is_in_old-requires : goal.is_in_old-requires
is_in_old-requires c =
    let won = c.args.self.now.done.won in let long = length-map won win_of in let under : c.args.k < length won = omega (arith, c.requires, long) in
    record { low = subst (λ (x : Sitting). c.args.k < length x.done.won) (sym c.self.view_is) under; places = c.self.invariant.places }
