use Rattle.std.proofs.Common.{◌≡◌, ◌∙◌, ◌∷◌, ◌++◌, ◌+◌, ◌-◌, ◌≤◌, [], List, ℕ, arith, ap, decimal, drop, length, set, sym, append_assoc, append-nil}
use Rattle.std.proofs.lemmas.List.{drop-set, drop_all, length-set}
use Rattle.tg_rights.specs.RightSet.{text_of}
use Rattle.tg_text.proofs.NumberLaws.{short_decimal}
use Rattle.tg_text.proofs.reply.spell_missing.Goals as goal

-- the texts one after another are the text of what is missing
joined : (a b r : List ℕ) → a ++ 45 ∷ 62 ∷ (b ++ 32 ∷ r) ≡ (((a ++ 45 ∷ 62 ∷ []) ++ b) ++ 32 ∷ []) ++ r
joined a b r =
    sym (append_assoc ((a ++ 45 ∷ 62 ∷ []) ++ b) (32 ∷ []) r ∙ append_assoc (a ++ 45 ∷ 62 ∷ []) b (32 ∷ r) ∙ append_assoc a (45 ∷ 62 ∷ []) (b ++ 32 ∷ r))

-- an arrow in front of a text
with_arrow : (bytes : List ℕ) (at : ℕ) → 2 ≤ at → at ≤ length bytes → drop (at - 2) (set (set bytes (at - 2 + 1) 62) (at - 2) 45) ≡ 45 ∷ 62 ∷ drop at bytes
with_arrow bytes at some within =
    let one = set bytes (at - 2 + 1) 62 in
    let two : at - 2 + 1 + 1 ≡ at = omega (arith, some) in
    drop-set one (at - 2) 45 (omega (arith, some, within, length-set bytes (at - 2 + 1) 62))
    ∙ ap (λ (text : List ℕ). 45 ∷ text) (drop-set bytes (at - 2 + 1) 62 (omega (arith, some, within)))
    ∙ ap (λ (n : ℕ). 45 ∷ 62 ∷ drop n bytes) two

-- a space in front of a text
with_space : (bytes : List ℕ) (at : ℕ) → 1 ≤ at → at ≤ length bytes → drop (at - 1) (set bytes (at - 1) 32) ≡ 32 ∷ drop at bytes
with_space bytes at some within =
    let one : at - 1 + 1 ≡ at = omega (arith, some) in
    drop-set bytes (at - 1) 32 (omega (arith, some, within)) ∙ ap (λ (n : ℕ). 32 ∷ drop n bytes) one

pub overflow_sub-space : goal.overflow_sub-space
overflow_sub-space c = omega (arith, c.spell_rights-space.ensures.taken.short)

pub write_digits-arrow-requires : goal.write_digits-arrow-requires
write_digits-arrow-requires c =
    let rights = c.spell_rights-space in (
      omega (arith, short_decimal c.args.to c.ranges.to.fits, rights.ensures.taken.short),
      omega (arith, rights.ensures.taken.within, rights.ensures.taken.long, c.told-text, length-set rights.new.text (rights.result - 1) 32),
    )

pub overflow_sub-arrow : goal.overflow_sub-arrow
overflow_sub-arrow c = omega (arith, short_decimal c.args.to c.ranges.to.fits, c.spell_rights-space.ensures.taken.short, c.write_digits-arrow.ensures.start)

pub write_digits-requires : goal.write_digits-requires
write_digits-requires c =
    let rights = c.spell_rights-space in
    let digits = c.write_digits-arrow in (
      omega (arith, short_decimal c.args.from c.ranges.from.fits, short_decimal c.args.to c.ranges.to.fits, rights.ensures.taken.short, digits.ensures.start),
      omega (
        arith,
        rights.ensures.taken.within,
        rights.ensures.taken.long,
        digits.ensures.start,
        digits.auto.buf,
        c.told-text,
        length-set rights.new.text (rights.result - 1) 32,
        length-set digits.new.buf (digits.result - 2 + 1) 62,
        length-set (set digits.new.buf (digits.result - 2 + 1) 62) (digits.result - 2) 45,
      ),
    )

pub returns-clause-spelt : goal.returns-clause-spelt
returns-clause-spelt c =
    let rights = c.spell_rights-space in
    let digits = c.write_digits-arrow in
    let letters : drop rights.result rights.new.text ≡ text_of c.args.rights =
    rights.ensures.spelt ∙ ap (λ (x : List ℕ). text_of c.args.rights ++ x) (drop_all 51 c.args.text.now (omega (arith, c.told-text))) ∙ append-nil (text_of c.args.rights) in
    let first = short_decimal c.args.to c.ranges.to.fits in
    let space = with_space rights.new.text rights.result (omega (arith, rights.ensures.taken.short)) (omega (arith, rights.ensures.taken.within, rights.ensures.taken.long, c.told-text)) in
    let arrow = with_arrow digits.new.buf digits.result (omega (arith, first, rights.ensures.taken.short, digits.ensures.start))
    (omega (arith, rights.ensures.taken.within, rights.ensures.taken.long, digits.ensures.start, digits.auto.buf, c.told-text, length-set rights.new.text (rights.result - 1) 32)) in
    c.write_digits.ensures.written
    ∙ ap (λ (x : List ℕ). decimal c.args.from ++ x) (arrow ∙ ap (λ (x : List ℕ). 45 ∷ 62 ∷ x) (digits.ensures.written ∙ ap (λ (x : List ℕ). decimal c.args.to ++ x) (space ∙ ap (λ (x : List ℕ). 32 ∷ x) letters)))
    ∙ joined (decimal c.args.from) (decimal c.args.to) (text_of c.args.rights)
