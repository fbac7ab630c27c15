use Rattle.std.proofs.Common.{◌<◌, ◌^◌, arith}
use Rattle.std.proofs.lemmas.Nat.{trailing_le}
use Rattle.tg_index.proofs.BitLemmas.{first_from, word_inside}
use Rattle.tg_index.proofs.bits.Bits.first_in.Goals as goal

pub overflow_add-result : goal.overflow_add-result
overflow_add-result c =
    let inside = word_inside _ c.args.word c.requires.some in
    let few = c.requires.few in
    let short = trailing_le 64 c.index.result.now in
    omega (arith, inside, few, short)

pub returns : goal.returns
returns c =
    let fits : c.index.result.now < 2 ^ 64 = omega arith in
    first_from c.args.self.now.words.items c.args.word c.index.result.now c.requires.some c.index.ensures fits
