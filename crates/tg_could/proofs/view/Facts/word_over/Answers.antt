use Rattle.std.proofs.Common.{bit_or}
use Rattle.tg_could.specs.Names.{number_in}
use Rattle.tg_could.specs.View.{bound_of}
use Rattle.tg_could.proofs.ViewLaws.{gathered-at, gathered-within}
use Rattle.tg_could.proofs.WordLaws.{within-more}
use Rattle.tg_could.proofs.view.Facts.word_over.Goals as goal

pub returns : goal.returns
returns c =
    let f = c.args.self.now in
    let q = c.args.question in
    let part = bound_of f.incoming (number_in f.names q.y) in
    record {
      gathered =
          gathered-within f.islands.reached.items (number_in f.names q.x) q.right f.incoming.holders.items part.0 part.1 c.in-Some.gathered c.with_later-word.result
          (λ a h. c.with_later-word.ensures a (within-more a c.in-Some.gathered (bit_or c.word_by.result c.word_by-2.result) h))
          (gathered-at f q.right q.x q.y c.as_slice.result.now c.in-Some.gathered c.as_slice.ensures.value c.number.ensures c.number-2.ensures c.in-Some.ensures);
      are_added = c.are_counted.ensures c.if-not-are_counted.false;
      are_supposed = c.are_counted-2.ensures c.if-not-are_counted-2.false;
    }
