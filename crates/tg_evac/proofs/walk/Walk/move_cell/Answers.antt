use Rattle.std.proofs.Common.{rules, arith, ◌≡◌, ℕ, Ok, drop, slice_index, ap, subst, sym}
use Rattle.tg_space.specs.Targets.{first_pointer}
use Rattle.tg_evac.specs.Walks.{MayMove, MovesFrom}
use Rattle.tg_evac.proofs.Walking.{imaged_moves, imaged_none}
use Rattle.tg_evac.proofs.walk.Walk.move_cell.Goals as goal

pub move_object-requires : goal.move_object-requires
move_object-requires g c =
    subst (λ (n : ℕ). MayMove c.args.self.kind c.args.self.spaces.now.spaces (drop n c.args.cell.now) (g.C.Claimer.walked c.args.claimer.now)) (ap first_pointer c.in-1.is) c.requires

pub returns-in-1 : goal.returns-in-1
returns-in-1 g c =
    let m = g.C.Claimer in
    subst (λ (n : ℕ). MovesFrom m.walked m.knows m.is_full c.args.self.spaces.now.spaces c.args.straight n c.args.cell.now c.move_object.new.cell c.args.claimer.now c.move_object.new.claimer c.move_object.result)
    (sym (ap first_pointer c.in-1.is)) c.move_object.ensures

pub move_from-requires-clause-may : goal.move_from-requires-clause-may
move_from-requires-clause-may g c =
    subst (λ (n : ℕ). MayMove c.args.self.kind c.args.self.spaces.now.spaces (drop n c.args.cell.now) (g.C.Claimer.walked c.args.claimer.now)) (ap first_pointer c.in-2.is) c.requires

pub returns-in-2 : goal.returns-in-2
returns-in-2 g c =
    let m = g.C.Claimer in
    subst (λ (n : ℕ). MovesFrom m.walked m.knows m.is_full c.args.self.spaces.now.spaces c.args.straight n c.args.cell.now c.move_from.new.cell c.args.claimer.now c.move_from.new.claimer c.move_from.result)
    (sym (ap first_pointer c.in-2.is)) c.move_from.ensures

-- no word of another cell is looked at
pub returns-in_default : goal.returns-in_default
returns-in_default g c =
    let m = g.C.Claimer in let h = c.args.self.spaces.now.spaces in let cell = c.args.cell.now in let table = c.args.claimer.now in
    let e : 8 ≡ first_pointer (slice_index cell 0) = search rules in
    subst (λ (n : ℕ). MovesFrom m.walked m.knows m.is_full h c.args.straight n cell cell table table (Ok (tt {0}))) e
    (imaged_moves m.walked m.knows m.is_full h c.args.straight 8 cell cell 8 (omega arith) (imaged_none h c.args.straight 8 cell (omega (arith, c.told-cell, c.fits-cell)) (omega arith) (m.walked table) (m.knows table)))
