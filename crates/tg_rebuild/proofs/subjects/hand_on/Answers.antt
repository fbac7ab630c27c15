use Rattle.std.proofs.Common.{ℕ, sym, subst}
use Rattle.tg_rebuild.specs.Inner.Raising.{CanSpawn}
use Rattle.tg_rebuild.proofs.RaisingLaws.{can_spawn_first, handed_on}
use Rattle.tg_rebuild.proofs.subjects.hand_on.Goals as goal

pub spawn-requires : goal.spawn-requires
spawn-requires g c =
    subst (λ (x : ℕ). CanSpawn c.args.snapshot.now x c.holder_of-first.result c.args.heap.now) (sym c.requires.zero)
    (can_spawn_first c.args.snapshot.now c.picture.ensures.accepted c.args.heap.now c.requires.raised c.requires.subjects c.holder_of-first.result c.holder_of-first.ensures c.if-first-eq0.false)

pub returns : goal.returns
returns g c =
    handed_on c.args.snapshot.now c.args.heap.now c.spawn.new.heap c.retire.new.self c.holder_of-first.result c.holder_of-first.ensures c.if-first-eq0.false c.requires.subjects c.in_ok-spawn.ensures
    c.retire.ensures.subjects c.retire.ensures.table c.retire.ensures.payloads
