use Rattle.std.proofs.Common.{subst}
use Rattle.tg_word.specs.Word.{nursery_space}
use Rattle.tg_nursery.specs.Allocation.{HasRoomLeft}
use Rattle.tg_rows.specs.Spots.{CanPut, CanWrite}
use Rattle.tg_rows.specs.declared.rows.Spot.{Spot}
use Rattle.tg_rows.proofs.references.put.Goals as goal

pub widen-requires : goal.widen-requires
widen-requires c = subst (λ (s : Spot). CanPut c.args.spaces.now (nursery_space c.args.nursery) s) c.in-Reference.is c.requires.can

pub extend-requires : goal.extend-requires
extend-requires c =
    let t = c.args.spaces.now in
    let space = nursery_space c.args.nursery in
    let can : CanWrite t c.in-Full.last 7 × HasRoomLeft t space 1 = subst (λ (s : Spot). CanPut t space s) c.in-Full.is c.requires.can in
    record { few = c.requires.few; nursery = c.requires.nursery; last_can = can.0; left = can.1 }
