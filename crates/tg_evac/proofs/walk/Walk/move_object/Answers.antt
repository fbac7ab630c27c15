use Rattle.std.proofs.Common.{arith, refl}
use Rattle.tg_evac.proofs.Walking.{imaged_moves, imaged_nothing}
use Rattle.tg_evac.proofs.walk.Walk.move_object.Goals as goal

pub returns-then-names_nothing : goal.returns-then-names_nothing
returns-then-names_nothing g c =
    let m = g.C.Claimer in let h = c.args.self.spaces.now.spaces in let cell = c.args.cell.now in
    imaged_moves m.walked m.knows m.is_full h c.args.straight 4 cell cell 8 (omega arith)
    (imaged_nothing h c.args.straight 4 cell (omega (arith, c.told-cell, c.fits-cell)) (omega arith) (c.if-names_nothing.ensures refl) (m.walked c.args.claimer.now) (m.knows c.args.claimer.now))
