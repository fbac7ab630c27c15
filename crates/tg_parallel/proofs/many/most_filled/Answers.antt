use Rattle.std.proofs.Common.{ℕ, ◌+◌, ◌-◌, ◌*◌, ◌/◌, arith, length}
use Rattle.tg_space.specs.SpaceList.{cells_of}
use Rattle.tg_space.specs.SpaceTable.{kept_blocks}
use Rattle.tg_evac.proofs.Behind.{kept_within}
use Rattle.tg_parallel.proofs.many.most_filled.Goals as goal

pub returns : goal.returns
returns c =
    let h = c.args.spaces.now.spaces in
    let table = c.cells-cells.ensures.table in
    let within = kept_within c.args.kind h table.blocks (omega (arith, table.enough)) in
    let moved : ℕ = length (cells_of h) - 64 * kept_blocks c.args.kind h in
    let cells = c.cells-cells.ensures.cells in
    let kept = c.of-plan.ensures.plan.kept in
    record {
      may = record {
        aged_won = moved;
        old_won = 0;
        few = omega (arith, within);
        aged = moved / 64 + 1;
        old = 1;
        aged_full = omega arith;
        old_full = omega arith;
        all = omega (arith, within, cells, kept);
      };
      none_more = λ blocks fills. omega (arith, cells, kept, fills.few, fills.aged_full, fills.old_full, fills.all);
    }
