use Rattle.std.proofs.Common.{◌<◌, ◌/◌, ◌^◌, length, arith}
use Rattle.tg_index.proofs.NextLemmas.{next_here, next_later, next_none}
use Rattle.tg_index.proofs.bits.Bits.next.Goals as goal

pub returns-then-left-ne0-clause-some : goal.returns-then-left-ne0-clause-some
returns-then-left-ne0-clause-some c =
    let words = c.args.self.now.words.items in
    let inside : c.args.from / 64 < length words = omega (arith, c.if-word-len.false, c.len.ensures) in
    let fits : c.index.result.now < 2 ^ 64 = omega arith in
    next_here words c.args.from c.index.result.now inside c.index.ensures fits c.if-left-ne0.true

pub returns-then-later-len-clause-none : goal.returns-then-later-len-clause-none
returns-then-later-len-clause-none c = λ _ n above.
    let words = c.args.self.now.words.items in
    let inside : c.args.from / 64 < length words = omega (arith, c.if-word-len.false, c.len.ensures) in
    next_none words c.args.from c.index.result.now inside c.index.ensures c.if-left-ne0.false c.first_word-later.result c.first_word-later.ensures.before (omega (arith, c.if-later-len.true, c.len-2.ensures)) n above

pub returns-clause-some : goal.returns-clause-some
returns-clause-some c =
    let words = c.args.self.now.words.items in
    let inside : c.args.from / 64 < length words = omega (arith, c.if-word-len.false, c.len.ensures) in
    next_later words c.args.from c.index.result.now inside c.index.ensures c.if-left-ne0.false c.first_word-later.result c.first_word-later.ensures.before c.first_word-later.ensures.behind c.first_in.result c.first_in.ensures
