use Rattle.std.proofs.Common.{◌≡◌, ◌≤◌, ◌^◌, length, ap, subst, arith}
use Rattle.tg_evac.specs.Claims.{won_in}
use Rattle.tg_parallel.specs.Parts.{wins_of}
use Rattle.tg_parallel.specs.Seats.{Sitting}
use Rattle.tg_parallel.proofs.Seating.{won_few, won_room}
use Rattle.tg_parallel.proofs.seat.SeatClaimer.len.Goals as goal

pub returns-clause-few : goal.returns-clause-few
returns-clause-few c =
    let s = c.self.inside in
    let few : length c.args.self.now.done.won ≤ c.args.self.now.board.counts.cells = subst (λ (x : Sitting). length x.done.won ≤ x.board.counts.cells) c.self.view_is (won_few s.limit s.table.now s.winner s.aged s.old c.self.invariant) in
    let long : length s.winner.done.won ≡ length c.args.self.now.done.won = ap (λ (x : Sitting). length x.done.won) c.self.view_is in
    omega (arith, c.len.ensures)

pub returns-clause-room : goal.returns-clause-room
returns-clause-room c space two =
    let s = c.self.inside in
    subst (λ (x : Sitting). length (won_in space (wins_of x.done.won)) ≤ 2 ^ 26) c.self.view_is (won_room s.limit s.table.now s.winner s.aged s.old c.self.invariant space two)
