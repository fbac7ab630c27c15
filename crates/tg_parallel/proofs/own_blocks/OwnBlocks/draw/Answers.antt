use Rattle.std.proofs.Common.{◌++◌, ◌∷◌, [], ap, refl, arith}
use Rattle.tg_race.specs.Race.{with_claimed_block}
use Rattle.tg_race.specs.Seats.{Seated}
use Rattle.tg_parallel.specs.Seats.{cells_used}
use Rattle.tg_parallel.proofs.Filled.{filled_all, filled_grown, may_claim, only_claimed, other_claimed, used_few}
use Rattle.tg_parallel.proofs.own_blocks.OwnBlocks.draw.Goals as goal

pub claim_block-number-requires : goal.claim_block-number-requires
claim_block-number-requires c =
    let b = c.args.self.now in let v = c.args.winner.now.done in
    record { own = c.requires.held.own; allowed = may_claim b.aged v b.numbers.items (cells_used b.aged v) c.requires.held.filled c.requires.full }

pub push_reserved-requires : goal.push_reserved-requires
push_reserved-requires c =
    let b = c.args.self.now in let v = c.args.winner.now.done in
    let few = used_few b.aged v in let room = c.requires.held.room in let won = c.requires.room in let full = c.requires.full in omega arith

pub returns : goal.returns
returns c =
    let b = c.args.self.now in let v = c.args.winner.now.done in let number = c.claim_block-number.result in let used = cells_used b.aged v in
    let done = ap (λ (x : Seated). x.done) c.claim_block-number.ensures.drawn in
    let items = c.push_reserved.ensures.items in
    let grown = filled_grown b.aged v b.numbers.items used number c.requires.held.filled c.claim_block-number.ensures.fresh c.requires.full in
    record {
      stay = record {
        space = refl;
        seat = ap (λ (x : Seated). x.table) c.claim_block-number.ensures.drawn;
        filled = rw (done, items) (filled_all b.aged (with_claimed_block b.aged v number) (b.numbers.items ++ number ∷ []) used grown);
        other = rw done (other_claimed b.aged v number);
        room = c.push_reserved.ensures.capacity;
      };
      blocks = rw done (only_claimed b.aged v number);
      next = refl;
      end = refl;
      past = refl;
      drawn = items;
    }
