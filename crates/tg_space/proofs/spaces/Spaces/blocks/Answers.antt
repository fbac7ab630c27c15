use Rattle.std.proofs.Common.{arith}
use Rattle.std.proofs.lemmas.List.{get_or_read}
use Rattle.tg_space.proofs.Flat.{before_few}
use Rattle.tg_space.proofs.Tables.{table_list}
use Rattle.tg_space.specs.SpaceTable.{SpaceTable}
use Rattle.tg_space.proofs.spaces.Spaces.blocks.Goals as goal

pub returns-clause-few : goal.returns-clause-few
returns-clause-few c =
    let inside = c.self.inside in
    let t : SpaceTable = record { spaces = inside.spaces.items; used = inside.used.items; limits = inside.limits } in
    let counts = c.self.invariant.1 in
    let n = c.len.result in
    omega (
      arith,
      before_few t.spaces (table_list t c.self.invariant.0) n,
      counts.counts n (omega arith),
      get_or_read inside.starts.items n c.index.result.now (omega (arith, counts.long)) c.index.ensures 0,
    )
