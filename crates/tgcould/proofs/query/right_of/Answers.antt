use Rattle.std.proofs.Common.{◌≡◌, ◌∙◌, ◌<◌, ◌≤◌, List, [], ◌∷◌, ℕ, Option, Some, None, IfSome, ap, arith, length, refl, slice_index_or, subst, sym}
use Rattle.tg_rights.specs.RightSet.{letter_of, right_of_letter}
use Rattle.tg_rights.specs.declared.Right.{Right}
use Rattle.tg_rights.proofs.RightNames.{letter_of-right_of_letter}
use Rattle.tgcould.proofs.query.right_of.Goals as goal

-- a text of one byte
one_byte : (bytes : List ℕ) → 1 ≤ length bytes → length bytes < 2 → bytes ≡ slice_index_or bytes 0 0 ∷ []
one_byte [] some few = absurd (omega (arith, some))
one_byte (x ∷ []) some few = refl
one_byte (x ∷ y ∷ bytes) some few = absurd (omega (arith, few))

-- a word that is one letter, and the right of the letter
written : (found : Option Right) (word : List ℕ) (letter : ℕ) → word ≡ letter ∷ [] → found ≡ right_of_letter letter → IfSome found (λ right. word ≡ letter_of right ∷ [])
written None word letter one is = tt
written (Some right) word letter one is = one ∙ ap (λ n. n ∷ []) letters
  where
    letters : letter ≡ letter_of right
    letters = subst (λ r. IfSome r (λ x. letter ≡ letter_of x)) (sym is) (letter_of-right_of_letter letter)

pub returns-in-len1 : goal.returns-in-len1
returns-in-len1 c =
    written c.of_letter.result c.args.word.now (slice_index_or c.as_bytes.result.now 0 0)
    (sym c.as_bytes.ensures.value ∙ one_byte c.as_bytes.result.now c.in-len1.len_at_least c.in-len1.len_below) c.of_letter.ensures
