-- Lack of room for one helper is lack of room for several.
use Rattle.std.proofs.Common.{◌≡◌, ℕ, ◌≤◌, List, Ok, ap, arith, refl, subst}
use Rattle.tg_space.specs.declared.room_fault.RoomFault.{RoomFault}
use Rattle.tg_space.specs.declared.room_fault.RoomFault.TheVariants as no_room
use Rattle.tg_space.specs.SpaceTable.{SpaceTable, kept_blocks}
use Rattle.tg_space.specs.declared.copied.Copied.{Copied}
use Rattle.tg_space.specs.declared.kind.Kind.{Kind}
use Rattle.tg_space.specs.declared.root.Root.{Root}
use Rattle.tg_race.specs.declared.record.Counts.{Counts}
use Rattle.tg_evac.specs.Collects.{CollectsRoots}
use Rattle.tg_evac.specs.Room.{IsReachedFrom, LacksRoomFor}
use Rattle.tg_evac.proofs.Passing.{collects_refused}
use Rattle.tg_parallel.specs.declared.fault.HelpersFault.{HelpersFault}
use Rattle.tg_parallel.specs.declared.fault.HelpersFault.TheVariants.{HeapFull}
use Rattle.tg_parallel.specs.Faults.{helpers_fault_of}
use Rattle.tg_parallel.proofs.Opening.{may_finish_at, opened_counts}
use Rattle.tg_parallel.proofs.job.Task.collect.Goals as goal

was_full : (fault : RoomFault) → helpers_fault_of fault ≡ HeapFull → fault ≡ no_room.HeapFull
was_full no_room.OutOfMemory is = absurd cc
was_full no_room.HeapFull is = refl

lacks_more : (blocks helpers kept : ℕ) (reached : ℕ → Type 0) → 1 ≤ helpers → LacksRoomFor blocks 1 kept reached → LacksRoomFor blocks helpers kept reached
lacks_more blocks helpers kept reached some lacks = record {
  cells = lacks.cells;
  once = lacks.once;
  from = lacks.from;
  many = let many = lacks.many in omega arith;
}

pub returns-in_err-collect_alone-clause-collects : goal.returns-in_err-collect_alone-clause-collects
returns-in_err-collect_alone-clause-collects g c =
    collects_refused c.from_residual.result _ c.from_residual.ensures.1
    (λ is. lacks_more _ c.args.helpers _ _ c.requires.may.some (c.in_err-collect_alone.ensures.full (was_full _ is)))

-- what was made by a plan of this kind at a table of so many helpers
made_by : (by kind : Kind) (t : SpaceTable) (roots : List Root) (at helpers : ℕ) (copied : Copied) → by ≡ kind → at ≡ helpers → CollectsRoots {Fault = RoomFault} no_room.HeapFull by t roots at at (Ok copied) →
    CollectsRoots {Fault = HelpersFault} HeapFull kind t roots helpers helpers (Ok copied)
made_by by kind t roots at helpers copied same many made =
    let here : CollectsRoots {Fault = RoomFault} no_room.HeapFull kind t roots helpers helpers (Ok copied) =
    subst (λ (n : ℕ). CollectsRoots {Fault = RoomFault} no_room.HeapFull kind t roots n n (Ok copied)) many
    (subst (λ (k : Kind). CollectsRoots {Fault = RoomFault} no_room.HeapFull k t roots at at (Ok copied)) same made) in
    record { collected = here.collected; moved = here.moved; few = here.few; full = tt }

lacks_by : (by kind : Kind) (t : SpaceTable) (roots : List Root) (at helpers : ℕ) → by ≡ kind → at ≡ helpers → LacksRoomFor t.limits.space_blocks at (kept_blocks by t.spaces) (IsReachedFrom by t.spaces roots) →
    LacksRoomFor t.limits.space_blocks helpers (kept_blocks kind t.spaces) (IsReachedFrom kind t.spaces roots)
lacks_by by kind t roots at helpers same many lacks =
    subst (λ (n : ℕ). LacksRoomFor t.limits.space_blocks n (kept_blocks kind t.spaces) (IsReachedFrom kind t.spaces roots)) many
    (subst (λ (k : Kind). LacksRoomFor t.limits.space_blocks at (kept_blocks k t.spaces) (IsReachedFrom k t.spaces roots)) same lacks)

pub returns-clause-collects : goal.returns-clause-collects
returns-clause-collects g c =
    made_by c.of-plan.result.kind c.args.self.now.kind c.args.self.now.spaces.now c.args.self.now.roots.now c.in_ok-table.field-0.table.counts.helpers c.args.helpers c.in_ok-finish.field-0
    c.of-plan.ensures.plan.same (ap (λ (k : Counts). k.helpers) c.in_ok-table.ensures.counts) c.in_ok-finish.ensures

pub returns-in_err-finish-clause-collects : goal.returns-in_err-finish-clause-collects
returns-in_err-finish-clause-collects g c =
    collects_refused c.from_residual-in_err-finish.result _ c.from_residual-in_err-finish.ensures.1
    (λ is. lacks_by c.of-plan.result.kind c.args.self.now.kind c.args.self.now.spaces.now c.args.self.now.roots.now c.in_ok-table.field-0.table.counts.helpers c.args.helpers
    c.of-plan.ensures.plan.same (ap (λ (k : Counts). k.helpers) c.in_ok-table.ensures.counts) (c.in_err-finish.ensures.full (was_full _ is)))

pub work_all-requires-clause-table : goal.work_all-requires-clause-table
work_all-requires-clause-table g c κs within = record {
  sound = c.requires.may.sound;
  counts = opened_counts c.args.self.now.kind c.args.self.now.spaces.now c.args.self.now.roots.now c.of-plan.result c.cells-cells.result c.args.helpers c.in_ok-table.field-0.table.counts c.cells-cells.ensures.cells c.of-plan.ensures.plan c.in_ok-table.ensures.counts;
}

pub finish-requires-after_bounds : goal.finish-requires-after_bounds
finish-requires-after_bounds g c κs within =
    may_finish_at c.args.self.now.kind c.args.self.now.spaces.now c.args.self.now.roots.now c.of-plan.result c.in_ok-table.field-0.table c.cells-cells.result c.args.helpers c.in_ok-helped.helped
    c.requires.may.sound c.cells-cells.ensures.table c.of-plan.ensures.plan c.of-plan.ensures.room c.of-plan.ensures.kept c.cells-cells.ensures.cells c.in_ok-table.ensures.counts c.in_ok-helped.ensures.helped
