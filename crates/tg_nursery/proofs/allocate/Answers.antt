use Rattle.std.proofs.Common.{◌<◌, length, subst, sym}
use Rattle.tg_nursery.specs.Allocation.{Allocates}
use Rattle.tg_nursery.proofs.Allocating.{allocates}
use Rattle.tg_nursery.proofs.allocate.Goals as goal

pub returns-clause-fresh : goal.returns-clause-fresh
returns-clause-fresh c =
    let kept = c.in_ok-make_room.ensures in
    let is = c.nursery_space-space.ensures in
    subst (λ s. Allocates c.args.spaces.now c.hand_out.new.self s c.hand_out.result) is
    (allocates c.args.spaces.now c.make_room.new.spaces c.hand_out.new.self c.nursery_space-space.result c.hand_out.result (subst (λ s. s < length c.args.spaces.now.spaces) (sym is) c.requires.nursery)
    kept.counted kept.made c.hand_out.ensures.counted c.hand_out.ensures.place c.hand_out.ensures.held c.hand_out.ensures.free)
