use Rattle.std.proofs.Common.{◌≡◌, ◌∙◌, ◌∷◌, ◌+◌, ◌-◌, ◌≤◌, List, ℕ, arith, ap, drop}
use Rattle.std.proofs.lemmas.List.{drop-set, length-set}
use Rattle.tg_text.proofs.NumberLaws.{short_decimal}
use Rattle.tg_text.proofs.reply.spell_value.Goals as goal

pub write_digits-start-requires : goal.write_digits-start-requires
write_digits-start-requires c = (omega (arith, short_decimal c.args.value c.ranges.value.fits, c.requires.room), c.requires.inside)

pub overflow_sub-start : goal.overflow_sub-start
overflow_sub-start c = omega (arith, short_decimal c.args.value c.ranges.value.fits, c.requires.room, c.write_digits-start.ensures.start)

pub returns-clause-taken : goal.returns-clause-taken
returns-clause-taken c =
    let digits = c.write_digits-start in
    record {
      short = omega (arith, short_decimal c.args.value c.ranges.value.fits, digits.ensures.start);
      within = omega (arith, digits.ensures.start);
      long = length-set digits.new.buf (digits.result - 1) 32 ∙ digits.auto.buf;
    }

pub returns-clause-spelt : goal.returns-clause-spelt
returns-clause-spelt c =
    let digits = c.write_digits-start in
    let first : 1 ≤ digits.result = omega (arith, short_decimal c.args.value c.ranges.value.fits, c.requires.room, digits.ensures.start) in
    let next : digits.result - 1 + 1 ≡ digits.result = omega (arith, first) in
    drop-set digits.new.buf (digits.result - 1) 32 (omega (arith, first, digits.ensures.start, digits.auto.buf, c.requires.inside))
    ∙ ap (λ (at : ℕ). 32 ∷ drop at digits.new.buf) next
    ∙ ap (λ (text : List ℕ). 32 ∷ text) digits.ensures.written
