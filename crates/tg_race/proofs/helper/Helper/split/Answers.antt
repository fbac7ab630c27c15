use Rattle.std.proofs.Common.{arith, ◌≡◌, ◌∙◌, sym, ap}
use Rattle.tg_race.specs.declared.record.Record.{Record}
use Rattle.tg_race.specs.Race.{empty}
use Rattle.tg_race.specs.Seats.{Seated}
use Rattle.tg_race.proofs.Needs.{at_table, parted}
use Rattle.tg_race.proofs.Allowed.{cuts}
use Rattle.tg_race.proofs.helper.Helper.split.Goals as goal

pub split_seat-seat-requires : goal.split_seat-seat-requires
split_seat-seat-requires c =
    let me = c.self.view_is in
    let fresh = parted c.args.self.now.done c.requires.allowed in
    let many = fresh.0 in
    let share = ap (λ (x : Seated). x.done.share) me in
    let done : c.self.inside.seat.me.0.done ≡ c.args.self.now.done = ap (λ (x : Seated). x.done) me in (
      at_table _ _ _ _ me c.requires.own c.table.view_is,
      omega (arith, c.table.invariant.1, c.table.invariant.3),
      cuts _ _ _ (omega arith) (done ∙ (fresh.1 ∙ ap (λ (x : Record). empty x.share) (sym done))),
    )
