use Rattle.std.proofs.Common.{◌≡◌, ◌≤◌, List, [], ◌∷◌, ℕ, decimal, drop, set, ◌+◌, ◌-◌, length, ◌++◌, arith, length-set, ap, ◌∙◌}
use Rattle.std.proofs.lemmas.List.{drop-set, drop_all}
use Rattle.tg_text.proofs.NumberLaws.{short_decimal}
use Rattle.tg_text.proofs.reply.spell_number_line.Goals as goal

-- three bytes in front of a text
in_front : (bytes text : List ℕ) (start at : ℕ) → start + 3 ≡ at → at ≤ length bytes → drop at bytes ≡ text →
    drop start (set (set (set bytes (start + 2) 32) (start + 1) 107) start 111) ≡ 111 ∷ 107 ∷ 32 ∷ text
in_front bytes text start at here within known =
    let two : start + 1 + 1 ≡ start + 2 = omega arith in
    let three : start + 2 + 1 ≡ at = omega (arith, here) in
    let space = set bytes (start + 2) 32 in
    let k = set space (start + 1) 107 in
    rw (
      drop-set k start 111 (omega (arith, here, within, length-set space (start + 1) 107, length-set bytes (start + 2) 32)),
      drop-set space (start + 1) 107 (omega (arith, here, within, length-set bytes (start + 2) 32)),
      two,
      drop-set bytes (start + 2) 32 (omega (arith, here, within)),
      three,
      known,
    )

-- the last byte alone
last_byte : (bytes : List ℕ) → length bytes ≡ 24 → drop 23 (set bytes 23 10) ≡ 10 ∷ []
last_byte bytes long = rw (drop-set bytes 23 10 (omega (arith, long)), drop_all 24 bytes (omega (arith, long)))

pub write_digits-start-requires : goal.write_digits-start-requires
write_digits-start-requires c = (omega (arith, short_decimal c.args.number c.ranges.number.fits), omega (arith, c.told-line, length-set c.args.line.now 23 10))

pub overflow_sub-start : goal.overflow_sub-start
overflow_sub-start c = omega (arith, short_decimal c.args.number c.ranges.number.fits, c.write_digits-start.ensures.start)

pub returns-clause-spelt : goal.returns-clause-spelt
returns-clause-spelt c =
    let digits = c.write_digits-start in
    in_front digits.new.buf (decimal c.args.number ++ 10 ∷ []) (digits.result - 3) digits.result
    (omega (arith, short_decimal c.args.number c.ranges.number.fits, digits.ensures.start))
    (omega (arith, digits.ensures.start, digits.auto.buf, c.told-line, length-set c.args.line.now 23 10))
    (digits.ensures.written ∙ ap (λ x. decimal c.args.number ++ x) (last_byte c.args.line.now c.told-line))
