use Rattle.std.proofs.Common.{◌≤◌, ◌<◌, length, arith}
use Rattle.tg_space.specs.Numbering.{NamesNumbered}
use Rattle.tg_space.proofs.Moving.{pointer_at}
use Rattle.tg_space.proofs.moves.Moves.image_word.Goals as goal

pub renamed-requires : goal.renamed-requires
renamed-requires c =
    let from : c.args.first ≤ c.args.i = omega (arith, c.if-i-first.false) in
    let low : c.args.i < length c.args.words.now = omega (arith, c.type_inv.words, c.requires.inside) in
    pointer_at (NamesNumbered c.args.self.numbering.now.starts (length c.args.self.forward.now.words)) c.args.words.now c.args.first c.args.i from low c.requires.named
