use Rattle.std.proofs.Common.{◌<◌, ℕ, length, arith, sym, subst}
use Rattle.std.proofs.lemmas.List.{length-map}
use Rattle.tg_parallel.specs.Parts.{win_of}
use Rattle.tg_parallel.specs.Seats.{Sitting}
use Rattle.tg_parallel.proofs.Seating.{pair_inside}
use Rattle.tg_parallel.proofs.seat.SeatClaimer.won_cell.Goals as goal

pub returns-clause-inside : goal.returns-clause-inside
returns-clause-inside c =
    let s = c.self.inside in
    let won = c.args.self.now.done.won in let long = length-map won win_of in let under : c.args.k < length won = omega (arith, c.requires, long) in
    let low = subst (λ (x : Sitting). c.args.k < length x.done.won) (sym c.self.view_is) under in
    subst (λ (x : Sitting). c.cell.result < x.board.counts.cells) c.self.view_is
    (subst (λ (n : ℕ). n < s.table.now.counts.cells) (sym c.cell.ensures) (pair_inside s.limit s.table.now s.winner s.aged s.old c.self.invariant c.args.k low))

pub cell-requires : goal.cell-requires
cell-requires c =
    let won = c.args.self.now.done.won in let long = length-map won win_of in let under : c.args.k < length won = omega (arith, c.requires, long) in
    record { low = subst (λ (x : Sitting). c.args.k < length x.done.won) (sym c.self.view_is) under; places = c.self.invariant.places }
