use Rattle.std.proofs.Common.{ℕ, ◌+◌, ap, arith, ◌∙◌}
use Rattle.std.proofs.lemmas.List.{length-set}
use Rattle.tg_space.specs.Targets.{cell_numbered}
use Rattle.tg_evac.specs.Claims.{win_at}
use Rattle.tg_evac.proofs.Reading.{more_words}
use Rattle.tg_evac.proofs.copies.Ahead.read.Goals as goal

pub loop-i-preserved : goal.loop-i-preserved
loop-i-preserved g c =
    let h = c.args.spaces.now.spaces in let won = (g.C.Claimer.walked c.args.claimer.now).won in
    record {
      long = length-set c.loop-i.self.words c.loop-i.i c.words_near.result.now ∙ c.loop-i.invariant.long;
      words =
          more_words c.loop-i.self.words c.loop-i.i c.words_near.result.now (λ (j : ℕ). cell_numbered h (win_at won (c.args.k + j)).cell)
          (omega (arith, c.loop-i.invariant.long, c.loop-i-test.true, c.min-count.ensures))
          c.loop-i.invariant.words
          (c.words_near.ensures.words ∙ ap (cell_numbered h) c.won_cell.ensures.cell);
    }
