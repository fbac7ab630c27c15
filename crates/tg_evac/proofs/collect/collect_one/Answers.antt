use Rattle.std.proofs.Common.{subst, sym}
use Rattle.tg_space.specs.declared.kind.Kind.{Kind}
use Rattle.tg_space.specs.declared.room_fault.RoomFault.TheVariants.{HeapFull}
use Rattle.tg_evac.specs.Collects.{CollectsRoots}
use Rattle.tg_evac.proofs.collect.collect_one.Goals as goal

pub returns-in-Full : goal.returns-in-Full
returns-in-Full c = subst (λ (k : Kind). CollectsRoots HeapFull k c.args.spaces.now c.args.roots.now 0 1 c.collect_full.result) (sym c.in-Full.is) c.collect_full.ensures

pub returns-in-Nursery : goal.returns-in-Nursery
returns-in-Nursery c = subst (λ (k : Kind). CollectsRoots HeapFull k c.args.spaces.now c.args.roots.now 0 1 c.collect.result) (sym c.in-Nursery.is) c.collect.ensures
