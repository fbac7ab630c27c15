use Rattle.std.proofs.Common.{◌≡◌, ◌∙◌, ◌<◌, ◌/◌, List, length, ℕ, arith, subst, sym}
use Rattle.tg_index.specs.Bits.{bit_in}
use Rattle.tg_index.proofs.BitLemmas.{bit_inside, marks_less, marks_same, word_read}
use Rattle.tg_index.proofs.number_set.NumberSet.remove.Goals as goal

pub invariant_of-self : goal.invariant_of-self
invariant_of-self c =
    let held = subst (λ (words : List ℕ). bit_in words c.args.place ≡ 1) (sym c.self.view_is) c.requires in
    let has = bit_inside _ c.args.place held in
    let inside : c.args.place / 64 < length c.remove.new.self.words.items = omega (arith, has, c.remove.ensures.len) in
    marks_same _ _ _ c.self.invariant _ c.args.place held c.remove.ensures (λ e. c.if-index-ne0.true (sym (word_read _ _ _ inside c.index.ensures) ∙ e))

pub invariant_of-self-2 : goal.invariant_of-self-2
invariant_of-self-2 c =
    let held = subst (λ (words : List ℕ). bit_in words c.args.place ≡ 1) (sym c.self.view_is) c.requires in
    let has = bit_inside _ c.args.place held in
    let inside : c.args.place / 64 < length c.remove.new.self.words.items = omega (arith, has, c.remove.ensures.len) in
    let next = c.first_word-self-inside.ensures in
    marks_less _ _ _ c.self.invariant _ _ c.args.place held c.remove.ensures (word_read _ _ _ inside c.index.ensures ∙ c.if-index-ne0.false) c.remove-2.ensures
    c.first_word-self-inside.result next.within next.before next.found
