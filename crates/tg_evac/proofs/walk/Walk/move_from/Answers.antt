use Rattle.std.proofs.Common.{arith, subst, sym, ◌∙◌}
use Rattle.std.proofs.lemmas.List.{length-set}
use Rattle.tg_space.specs.Soundness.{IsPointer}
use Rattle.tg_space.proofs.Moving.{pointer_at}
use Rattle.tg_evac.proofs.Walking.{imaged_added, imaged_more, imaged_moves, imaged_none}
use Rattle.tg_evac.proofs.Passing.{claims_refused, refused_always, table_still}
use Rattle.tg_evac.proofs.walk.Walk.move_from.Goals as goal

pub move_word-requires-clause-pointer : goal.move_word-requires-clause-pointer
move_word-requires-clause-pointer g c =
    subst (IsPointer c.args.self.spaces.now.spaces) (sym (c.loop-i.invariant.ahead c.loop-i.i (omega arith)))
    (pointer_at (IsPointer c.args.self.spaces.now.spaces) c.args.cell.now c.args.first c.loop-i.i c.loop-i.invariant.low (omega (arith, c.loop-i.invariant.wide, c.loop-i-test.true)) c.requires.may.pointers)

pub move_word-requires-clause-table : goal.move_word-requires-clause-table
move_word-requires-clause-table g c = table_still c.loop-i.invariant.added c.requires.may.table

pub returns-in_err-move_word : goal.returns-in_err-move_word
returns-in_err-move_word g c =
    let m = g.C.Claimer in
    record {
      claims = claims_refused m.walked m.knows m.is_full c.from_residual.result _ c.from_residual.ensures.1
          (imaged_added c.args.self.spaces.now.spaces c.args.straight c.args.first c.args.cell.now c.loop-i.cell c.loop-i.i c.loop-i-test.true c.loop-i.invariant c.move_word.ensures.claims.added)
          (λ to agrees. c.loop-i.invariant.grows to (c.move_word.ensures.claims.grows to agrees)) c.in_err-move_word.ensures.claims.full;
      long = length-set c.loop-i.cell c.loop-i.i c.move_word.new.word ∙ c.loop-i.invariant.long;
      image = refused_always c.from_residual.result _ _ c.from_residual.ensures.1;
    }

pub loop-i-preserved : goal.loop-i-preserved
loop-i-preserved g c =
    imaged_more c.args.self.spaces.now.spaces c.args.straight c.args.first c.args.cell.now c.loop-i.cell c.loop-i.i c.loop-i-test.true c.loop-i.invariant c.move_word.ensures.claims.added
    c.move_word.ensures.claims.grows c.in_ok-move_word.ensures.claims.met c.move_word.new.word c.in_ok-move_word.ensures.word

pub returns : goal.returns
returns g c =
    let m = g.C.Claimer in
    imaged_moves m.walked m.knows m.is_full c.args.self.spaces.now.spaces c.args.straight c.args.first c.args.cell.now c.loop-i.cell c.loop-i.i (omega (arith, c.loop-i-test.false)) c.loop-i.invariant

pub loop-i-init : goal.loop-i-init
loop-i-init g c =
    let m = g.C.Claimer in
    imaged_none c.args.self.spaces.now.spaces c.args.straight c.args.first c.args.cell.now (omega (arith, c.told-cell, c.fits-cell)) c.requires.inside (m.walked c.args.claimer.now) (m.knows c.args.claimer.now)
