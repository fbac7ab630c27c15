use Rattle.std.proofs.Common.{◌≡◌, ◌+◌, ◌/◌, ◌<◌, ◌≤◌, get_or, length, arith}
use Rattle.std.proofs.lemmas.List.{get_or_read}
use Rattle.tg_space.specs.SpaceTable.{SpaceTable}
use Rattle.tg_space.proofs.Tables.{search_goes_on}
use Rattle.tg_space.proofs.spaces.Spaces.unflat_from.Goals as goal

pub loop-space-preserved : goal.loop-space-preserved
loop-space-preserved c =
    let inside = c.self.inside in
    let space = c.loop-space.space in
    let t : SpaceTable = record { spaces = inside.spaces.items; used = inside.used.items; limits = inside.limits } in
    let low : space < length t.spaces = omega (arith, c.loop-space.invariant.inside) in
    let next : c.index.result.now ≡ get_or inside.starts.items (space + 1) 0 =
    get_or_read inside.starts.items (space + 1) c.index.result.now (omega (arith, c.self.invariant.1.long)) c.index.ensures 0 in
    let before : get_or inside.starts.items (space + 1) 0 ≤ c.args.number / 64 = omega arith in
    record {
      inside = omega (arith, search_goes_on t c.args.self.now inside.starts.items c.args.number space c.self.view_is c.self.invariant c.requires low before);
      before = before;
    }
