use Rattle.std.proofs.Common.{Bool, subst}
use Rattle.tg_parallel.specs.Seats.{Finds}
use Rattle.tg_parallel.proofs.Filled.{finds_after, knows_after, stay_both}
use Rattle.tg_parallel.proofs.own_blocks.OwnBlocks.word_of.Goals as goal

pub make_ready-requires : goal.make_ready-requires
make_ready-requires c = record { held = c.requires.held; room = c.requires.room.room; few = c.requires.limit; next = c.requires.next }

pub returns : goal.returns
returns c =
    let v = c.args.winner.now.done in let u = c.make_ready.new.winner.done in let w = c.claim_next.new.self.done in
    let finds = subst (λ (a : Bool). Finds c.args.at.cell a u w) c.make_ready.ensures.stay.space c.claim_next.ensures.finds in
    record {
      stay = stay_both c.make_ready.ensures.stay c.claim_next.ensures.stay;
      finds = finds_after c.args.at.cell c.args.self.now.aged v u w c.make_ready.ensures.blocks finds;
      next = knows_after c.claim_next.ensures c.make_ready.ensures.next c.in_ok-make_ready.ensures.some;
      met = c.claim_next.ensures.met;
      link = c.claim_next.ensures.link;
      known = c.claim_next.ensures.known;
      full = tt;
    }
