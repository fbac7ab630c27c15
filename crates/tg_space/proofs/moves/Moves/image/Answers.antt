use Rattle.std.proofs.Common.{◌++◌, ◌∙◌, ap, arith, get_or, take}
use Rattle.tg_space.specs.Collection.{new_place}
use Rattle.tg_space.specs.Numbering.{renamed_word}
use Rattle.tg_space.specs.Targets.{first_pointer, from_space, pointers_of}
use Rattle.tg_space.proofs.Moving.{copy_is}
use Rattle.tg_space.proofs.Numbered.{renamed_are}
use Rattle.tg_space.proofs.moves.Moves.image.Goals as goal

pub returns : goal.returns
returns c = λ h before pointers.
    let moves = c.args.self in
    let from = from_space moves.kind in
    let to = new_place moves.forward.now.words in
    let starts = moves.numbering.now.starts in
    copy_is (renamed_word from starts to) c.args.words (omega arith) c.first_pointer-first.result c.first_pointer-first.ensures.word
    c.image_word.result c.image_word-2.result c.image_word-3.result c.image_word-4.result c.image_word-5.result c.image_word-6.result c.image_word-7.result
    c.image_word.ensures.below c.image_word.ensures.above c.image_word-2.ensures.below c.image_word-2.ensures.above c.image_word-3.ensures.below c.image_word-3.ensures.above c.image_word-4.ensures.below c.image_word-4.ensures.above c.image_word-5.ensures.below c.image_word-5.ensures.above c.image_word-6.ensures.below c.image_word-6.ensures.above c.image_word-7.ensures.below c.image_word-7.ensures.above
    ∙ ap (λ ws. take (first_pointer (get_or c.args.words 0 0)) c.args.words ++ ws) (renamed_are from h starts to before (pointers_of c.args.words) pointers)

-- The search doesn't find it after six words.
pub image_word-requires-7-clause-named : goal.image_word-requires-7-clause-named
image_word-requires-7-clause-named c = rw c.first_pointer-first.ensures.word c.requires
