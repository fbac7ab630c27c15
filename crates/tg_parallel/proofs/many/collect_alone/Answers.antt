use Rattle.std.proofs.Common.{ℕ, ap, subst}
use Rattle.tg_space.specs.declared.kind.Kind.{Kind}
use Rattle.tg_race.specs.declared.record.Counts.{Counts}
use Rattle.tg_space.specs.declared.room_fault.RoomFault.TheVariants.{HeapFull}
use Rattle.tg_evac.specs.Collects.{CollectsRoots}
use Rattle.tg_evac.proofs.Passing.{collects_refused}
use Rattle.tg_parallel.proofs.Opening.{may_finish_at}
use Rattle.tg_parallel.proofs.many.collect_alone.Goals as goal

pub returns-in_err-table : goal.returns-in_err-table
returns-in_err-table g c = collects_refused c.from_residual.result _ c.from_residual.ensures.1 (λ is. absurd cc)

pub returns : goal.returns
returns g c =
    let t = c.args.task.now.spaces.now in let roots = c.args.task.now.roots.now in let helpers = c.in_ok-table.field-0.table.counts.helpers in
    subst (λ (n : ℕ). CollectsRoots HeapFull c.args.task.now.kind t roots n n c.finish.result) (ap (λ (k : Counts). k.helpers) c.in_ok-table.ensures.counts)
    (subst (λ (kind : Kind). CollectsRoots HeapFull kind t roots helpers helpers c.finish.result) c.of-plan.ensures.plan.same c.finish.ensures)

pub finish-requires-after_bounds : goal.finish-requires-after_bounds
finish-requires-after_bounds g c κs within =
    may_finish_at c.args.task.now.kind c.args.task.now.spaces.now c.args.task.now.roots.now c.of-plan.result c.in_ok-table.field-0.table c.cells-cells.result 1 c.help-helped.result
    c.requires c.cells-cells.ensures.table c.of-plan.ensures.plan c.of-plan.ensures.room c.of-plan.ensures.kept c.cells-cells.ensures.cells c.in_ok-table.ensures.counts c.help-helped.ensures.helped
