use Rattle.std.proofs.Common.{◌≡◌, ◌<◌, length, ℕ, ◌+◌, ◌-◌, ◌*◌, ◌^◌, ◌∙◌, List, true, get_or, drop, sym, ap, arith}
use Rattle.std.specs.Char.{is_ascii_digit}
use Rattle.std.proofs.lemmas.List.{drop_more}
use Rattle.tg_text.specs.Inner.Words.{digits_on}
use Rattle.tg_text.proofs.NumberLaws.{below_ten, digit_read, few_fit, more_small}
use Rattle.tg_text.proofs.word.few_digits_of.Goals as goal

module _ (word : List ℕ) (number i : ℕ) (few : length word < 20) (low : i < length word) (small : number < 10 ^ i) (digit : is_ascii_digit (get_or word i 0) ≡ true) where
  sum_fits : number * 10 + (get_or word i 0 - 48) < 2 ^ 64
  sum_fits = few_fit number i (get_or word i 0 - 48) (omega (arith, few, low)) small (below_ten (get_or word i 0) digit)

  read_more : digits_on number (drop i word) ≡ digits_on (number * 10 + (get_or word i 0 - 48)) (drop (i + 1) word)
  read_more = ap (digits_on number) (drop_more word i 0 low) ∙ digit_read number (get_or word i 0) (drop (i + 1) word) digit sum_fits

pub overflow_mul-number : goal.overflow_mul-number
overflow_mul-number c =
    omega (arith, sum_fits c.args.word.now c.loop-byte.number c.loop-byte.byte-index c.requires c.loop-byte-test.true c.loop-byte.invariant.small (sym c.is_ascii_digit.ensures.value ∙ c.if-not-is_ascii_digit.false))

pub overflow_add-number : goal.overflow_add-number
overflow_add-number c =
    omega (arith, c.from.ensures, sum_fits c.args.word.now c.loop-byte.number c.loop-byte.byte-index c.requires c.loop-byte-test.true c.loop-byte.invariant.small (sym c.is_ascii_digit.ensures.value ∙ c.if-not-is_ascii_digit.false))

pub loop-byte-preserved : goal.loop-byte-preserved
loop-byte-preserved c =
    let digit : is_ascii_digit (get_or c.args.word.now c.loop-byte.byte-index 0) ≡ true = sym c.is_ascii_digit.ensures.value ∙ c.if-not-is_ascii_digit.false in
    record {
      read = c.loop-byte.invariant.read
          ∙ read_more c.args.word.now c.loop-byte.number c.loop-byte.byte-index c.requires c.loop-byte-test.true c.loop-byte.invariant.small digit
          ∙ ap (λ d. digits_on (c.loop-byte.number * 10 + d) (drop (c.loop-byte.byte-index + 1) c.args.word.now)) (sym c.from.ensures);
      small = ap_small c.loop-byte.number c.loop-byte.byte-index (get_or c.args.word.now c.loop-byte.byte-index 0 - 48) c.from.result (sym c.from.ensures) c.loop-byte.invariant.small (below_ten (get_or c.args.word.now c.loop-byte.byte-index 0) digit);
    }
  where
    ap_small : (n i d e : ℕ) → d ≡ e → n < 10 ^ i → d < 10 → n * 10 + e < 10 ^ (i + 1)
    ap_small n i d e same small ten = omega (arith, same, more_small n i d small ten)
