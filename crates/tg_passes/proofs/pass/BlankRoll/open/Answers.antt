use Rattle.std.proofs.Common.{arith}
use Rattle.tg_passes.proofs.Rolling.{splits_as}
use Rattle.tg_passes.proofs.pass.BlankRoll.open.Goals as goal

pub split_seat-keeper-requires : goal.split_seat-keeper-requires
split_seat-keeper-requires g c =
    let i = c.self.invariant in
    (i.1, omega (arith, i.0), splits_as _ _)
