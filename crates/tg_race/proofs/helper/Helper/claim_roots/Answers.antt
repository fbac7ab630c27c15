use Rattle.std.proofs.Common.{arith, ap}
use Rattle.tg_race.specs.Seats.{Board, Seated}
use Rattle.tg_race.proofs.Needs.{at_table, none_past}
use Rattle.tg_race.proofs.Allowed.{draws_chunk}
use Rattle.tg_race.proofs.helper.Helper.claim_roots.Goals as goal

pub fetch_add-requires : goal.fetch_add-requires
fetch_add-requires c =
    let me = c.self.view_is in let board = c.table.view_is in (
      at_table _ _ _ _ me c.requires.own board,
      omega (arith, c.table.invariant.1, c.table.invariant.3),
      draws_chunk _ _ _ _ (rw (c.table.invariant.0, ap (λ (x : Board). x.counts) board, ap (λ (x : Seated). x.done) me) (none_past c.args.table.now.counts c.args.self.now.done c.requires.allowed)) c.self.invariant.1,
    )
