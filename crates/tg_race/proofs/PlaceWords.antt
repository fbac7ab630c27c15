-- The word of a place, and the place in it.
use Rattle.std.proofs.Common.{◌≡◌, ◌≢◌, ℕ, ◌+◌, ◌*◌, ◌^◌, ◌<◌, subst, sym, arith}
use Rattle.std.proofs.lemmas.Nat.{pow_pos}
use Rattle.tg_rights.specs.RightSet.{no_rights, bits_of}
use Rattle.tg_word.specs.declared.Place.{Place}
use Rattle.tg_word.specs.declared.TheConstants.{PRESENT_AT, SPACE_AT, BLOCK_AT, CELL_AT}
use Rattle.tg_word.specs.Word.{IsPlace}
use Rattle.tg_word.proofs.Packing.{place_in-word_at}
use Rattle.tg_race.specs.Words.{place_word, place_of, IsForward}

pub place_of-word_of : (p : Place) → IsPlace p → place_of (place_word p) ≡ p
unfolding place_of place_word
place_of-word_of p inside = place_in-word_at no_rights p inside

pub word_of-forward : (p : Place) → IsPlace p → IsForward (place_word p)
word_of-forward p inside = let back = place_of-word_of p inside in
    (subst IsPlace (sym back) inside, λ i. place_word (back i))

-- the word of a place is not 0
pub word_of-some : (p : Place) → place_word p ≢ 0
unfolding place_word
word_of-some p none =
    some_sum (2 ^ PRESENT_AT) (2 ^ SPACE_AT * p.space) (2 ^ BLOCK_AT * p.block) (2 ^ CELL_AT * p.cell) (bits_of no_rights) (pow_pos PRESENT_AT) none
  where
    some_sum : (high a b d e : ℕ) → 0 < high → high + a + b + d + e ≢ 0
    some_sum high a b d e above sum = omega arith
