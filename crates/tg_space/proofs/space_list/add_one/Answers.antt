use Rattle.std.proofs.Common.{◌+◌, sym, get_or, arith}
use Rattle.std.proofs.lemmas.Grind.{get_or_default_zero}
use Rattle.std.proofs.lemmas.List.Edits.{map_over_more}
use Rattle.tg_space.proofs.space_list.add_one.Goals as goal

pub loop-number-preserved : goal.loop-number-preserved
loop-number-preserved c =
    let now = c.loop-number.numbers in
    let i = c.loop-number.number-index in
    map_over_more (λ n. n + 1) c.args.numbers.now now i (get_or now i 0) (omega (arith, c.loop-number-test.true)) c.loop-number.invariant
    (sym (get_or_default_zero now i (get_or now i 0) (omega (arith, c.loop-number-test.true, c.loop-number.auto.numbers))))
