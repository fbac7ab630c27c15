use Rattle.std.proofs.Common.{◌≡◌, length, arith}
use Rattle.tg_index.proofs.BitLemmas.{marks_wider}
use Rattle.tg_index.proofs.number_set.NumberSet.lengthen.Goals as goal

pub invariant_of-self : goal.invariant_of-self
invariant_of-self c =
    let len : length c.self.inside.places.words.items ≡ c.len-words.result = omega (arith, c.len-words.ensures) in
    c.reserve_mark.ensures.kept c.self.inside.places.words.items len c.self.invariant

pub invariant_of-self-2 : goal.invariant_of-self-2
invariant_of-self-2 c =
    let room = c.in_ok-reserve_mark.ensures.room in
    let few = c.self.invariant.few in
    let len : length c.self.inside.places.words.items ≡ c.len-words.result = omega (arith, c.len-words.ensures) in
    let are = c.reserve_mark.ensures.kept c.self.inside.places.words.items len c.self.invariant in
    rw c.in_ok-widen.ensures.ok (marks_wider _ _ _ are (omega (arith, room, len)) (omega (arith, few, c.if-words-eq-MOST_WORDS.false, len)))
