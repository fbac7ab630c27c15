-- Texts whose bytes can be printed: they have neither a zero byte nor a line feed.
use Rattle.std.proofs.Common.{◌≡◌, ◌∙◌, inl, inr, ℕ, zero, suc, ◌+◌, ◌/◌, ◌%◌, ◌<◌, ◌==◌, nat_lt, Bool, true, false, not, cond, ◌&&◌, ◌||◌, List, [], ◌∷◌, ◌++◌, refl, sym, ap, subst, arith}
use Rattle.std.specs.Prelude.{codes, decimal}
use Rattle.std.specs.Fmt.{digit_glyph, digits, digits_onto}
use Rattle.std.specs.List.{flat_map, list_all, list_any, starts_with}
use Rattle.std.proofs.lemmas.Bool.{and_from, and_parts, cases_Bool, lt-ltb, ltb-true, ne_eqb}
use Rattle.std.proofs.lemmas.List.Folds.{list_all-append}
use Rattle.tg_keep.specs.Lines.{is_entry, is_mark, is_text}
use Rattle.tg_rights.specs.declared.Right.{Right}
use Rattle.tg_rights.specs.declared.Right.TheVariants.{R, W, T, G, A, L, U, V}
use Rattle.tg_rights.specs.RightSet.{RightSet, all_rights, has, letter_if, letter_of, letters_in, text_of}

-- a byte that is above all controls
abbrev pub is_printed : ℕ → Bool
is_printed byte = nat_lt 31 byte

abbrev pub ArePrinted : List ℕ → Type 0
ArePrinted text = list_all is_printed text ≡ true

-- ---- texts in a row

pub printed_both : (a b : List ℕ) → ArePrinted a → ArePrinted b → ArePrinted (a ++ b)
printed_both a b p q = list_all-append is_printed a b ∙ and_from (list_all is_printed a) (list_all is_printed b) p q

pub printed_more : (byte : ℕ) (text : List ℕ) → is_printed byte ≡ true → ArePrinted text → ArePrinted (byte ∷ text)
printed_more byte text p q = and_from (is_printed byte) (list_all is_printed text) p q

pub printed_each : {X : Type 0} (f : X → List ℕ) → ((x : X) → ArePrinted (f x)) → (xs : List X) → ArePrinted (flat_map f xs)
printed_each f each [] = refl
printed_each f each (x ∷ xs) = printed_both (f x) (flat_map f xs) (each x) (printed_each f each xs)

-- ---- numbers

below_ten : (d : ℕ) → d < 10 → digit_glyph false d ≡ 48 + d
below_ten d small = ap (λ b. cond b (48 + d) (87 + d)) (lt-ltb d 10 small)

glyph_is : (n : ℕ) → digit_glyph false (n % 10) ≡ 48 + n % 10
glyph_is n = below_ten (n % 10) (omega arith)

glyph_printed : (n : ℕ) → is_printed (digit_glyph false (n % 10)) ≡ true
glyph_printed n = lt-ltb 31 (digit_glyph false (n % 10)) (omega (arith, glyph_is n))

printed_digits : (k n : ℕ) (after : List ℕ) → ArePrinted after → ArePrinted (digits_onto k 10 false n after)
printed_digits zero n after p = p
printed_digits (suc k) n after p =
    let glyph = digit_glyph false (n % 10) in
    let more : ArePrinted (glyph ∷ after) = printed_more glyph after (glyph_printed n) p in
    elim (cases_Bool (n / 10 == 0)) [
      | inl last ↦
          let P : Bool → Type 0 = λ b. ArePrinted (cond b (glyph ∷ after) (digits_onto k 10 false (n / 10) (glyph ∷ after))) in
          subst P (sym last) more
      | inr other ↦
          let P : Bool → Type 0 = λ b. ArePrinted (cond b (glyph ∷ after) (digits_onto k 10 false (n / 10) (glyph ∷ after))) in
          subst P (sym other) (printed_digits k (n / 10) (glyph ∷ after) more)
    ]

pub printed_number : (n : ℕ) → ArePrinted (decimal n)
unfolding digits
printed_number n = printed_digits 64 n [] refl

-- ---- the first byte

-- The text begins with a digit.
pub record BeginsByDigit (text : List ℕ) : Type 0 where
  pub byte : ℕ
  pub rest : List ℕ
  pub is : text ≡ byte ∷ rest
  pub small : byte < 58

pub digit_before : (a b : List ℕ) → BeginsByDigit a → BeginsByDigit (a ++ b)
digit_before a b d = record { byte = d.byte; rest = d.rest ++ b; is = ap (λ l. l ++ b) d.is; small = d.small }

digit_first : (k n byte : ℕ) (after : List ℕ) → byte < 58 → BeginsByDigit (digits_onto k 10 false n (byte ∷ after))
digit_first zero n byte after small = record { byte = byte; rest = after; is = refl; small = small }
digit_first (suc k) n byte after small =
    let glyph = digit_glyph false (n % 10) in
    let low : glyph < 58 = omega (arith, glyph_is n) in
    let P : Bool → Type 0 = λ b. BeginsByDigit (cond b (glyph ∷ byte ∷ after) (digits_onto k 10 false (n / 10) (glyph ∷ byte ∷ after))) in
    elim (cases_Bool (n / 10 == 0)) [
      | inl last ↦
          let it : BeginsByDigit (glyph ∷ byte ∷ after) = record { byte = glyph; rest = byte ∷ after; is = refl; small = low } in
          subst P (sym last) it
      | inr other ↦ subst P (sym other) (digit_first k (n / 10) glyph (byte ∷ after) low)
    ]

pub digit_of_number : (n : ℕ) → BeginsByDigit (decimal n)
unfolding digits
digit_of_number n =
    let glyph = digit_glyph false (n % 10) in
    let low : glyph < 58 = omega (arith, glyph_is n) in
    let P : Bool → Type 0 = λ b. BeginsByDigit (cond b (glyph ∷ []) (digits_onto 63 10 false (n / 10) (glyph ∷ []))) in
    elim (cases_Bool (n / 10 == 0)) [
      | inl last ↦
          let it : BeginsByDigit (glyph ∷ []) = record { byte = glyph; rest = []; is = refl; small = low } in
          subst P (sym last) it
      | inr other ↦ subst P (sym other) (digit_first 63 (n / 10) glyph [] low)
    ]

-- ---- rights

letter_printed : (right : Right) → is_printed (letter_of right) ≡ true
letter_printed R = refl
letter_printed W = refl
letter_printed T = refl
letter_printed G = refl
letter_printed A = refl
letter_printed L = refl
letter_printed U = refl
letter_printed V = refl

printed_if : (b : Bool) (right : Right) → ArePrinted (letter_if b (letter_of right))
printed_if true right = printed_more (letter_of right) [] (letter_printed right) refl
printed_if false right = refl

printed_letters : (s : RightSet) (rights : List Right) → ArePrinted (letters_in s rights)
printed_letters s [] = refl
printed_letters s (right ∷ rights) = printed_both (letter_if (has s right) (letter_of right)) (letters_in s rights) (printed_if (has s right) right) (printed_letters s rights)

pub printed_rights : (s : RightSet) → ArePrinted (text_of s)
printed_rights s = printed_letters s all_rights

-- ---- what a line may have

not_byte : (test text : List ℕ) (n : ℕ) → n < 32 → ArePrinted text → list_any (λ byte. byte == n) text ≡ false
not_byte test [] n low printed = refl
not_byte test (byte ∷ text) n low printed =
    let parts = and_parts (is_printed byte) (list_all is_printed text) printed in
    let other : (byte == n) ≡ false = ne_eqb byte n (λ e. omega (arith, e, ltb-true 31 byte parts.0)) in
    ap (λ b. b || list_any (λ x. x == n) text) other ∙ not_byte test text n low parts.1

pub printed_is_text : (text : List ℕ) → ArePrinted text → is_text text ≡ true
printed_is_text text printed =
    ap (λ b. not b && not (list_any (λ byte. byte == 10) text)) (not_byte [] text 0 (omega arith) printed)
    ∙ ap not (not_byte [] text 10 (omega arith) printed)

-- a text that begins with a digit is no mark
pub digit_is_no_mark : (text : List ℕ) → BeginsByDigit text → is_mark text ≡ false
digit_is_no_mark text d =
    let other : (101 == d.byte) ≡ false = ne_eqb 101 d.byte (λ e. omega (arith, e, d.small)) in
    ap is_mark d.is ∙ ap (λ b. b && starts_with (λ x y. x == y) d.rest (codes "ntries ")) other

-- a text that is printed, and no mark, may be an entry's
pub printed_is_entry : (text : List ℕ) → ArePrinted text → is_mark text ≡ false → is_entry text ≡ true
printed_is_entry text printed other = ap (λ b. b && not (is_mark text)) (printed_is_text text printed) ∙ ap not other
