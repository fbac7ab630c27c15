use Rattle.std.proofs.Common.{map}
use Rattle.tg_word.specs.Word.{place_in}
use Rattle.tg_rows.proofs.Indexing.{IsListed}
use Rattle.tg_rows.proofs.rows.places_of.Given as goal

abbrev pub invariant-row : goal.invariant-row
invariant-row l = IsListed l.spaces.spaces l.fn.from (place_in l.word) l.left l.names.items (map place_in l.words.items)

abbrev pub decreases-row : goal.decreases-row
decreases-row l = l.left
