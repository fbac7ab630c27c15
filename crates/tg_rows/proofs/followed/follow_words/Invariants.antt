use Rattle.std.proofs.Common.{◌≡◌, ◌++◌, take, drop, map}
use Rattle.tg_space.specs.Targets.{from_space}
use Rattle.tg_space.specs.Numbering.{followed_word}
use Rattle.tg_rows.proofs.followed.follow_words.Given as goal

abbrev pub invariant-loop-word : goal.invariant-loop-word
invariant-loop-word l = l.words ≡ map (followed_word (from_space l.moves.kind) l.moves.numbering.now.starts l.moves.forward.now.words) (take l.word-index l.fn.words) ++ drop l.word-index l.fn.words
