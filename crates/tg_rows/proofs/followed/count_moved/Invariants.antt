use Rattle.std.proofs.Common.{map, take}
use Rattle.std.specs.List.{All}
use Rattle.tg_word.specs.Word.{place_in}
use Rattle.tg_rows.specs.Index.{IsOldPlace}
use Rattle.tg_rows.proofs.followed.count_moved.Given as goal

abbrev pub invariant-loop-count : goal.invariant-loop-count
invariant-loop-count l = All IsOldPlace (take l.count (map place_in l.words))
