-- A line more in a batch.
use Rattle.std.proofs.Common.{◌≡◌, ℕ, ◌+◌, Bool, true, false, List, [], ◌∷◌, ◌++◌, length, sym, ◌∙◌, ap, arith, length-append}
use Rattle.std.specs.List.{list_any}
use Rattle.tg_keep.specs.Sums.{sum_after}
use Rattle.tg_keep.specs.Lines.{is_mark, is_text, last_sum_after, length_after, sealed_line, line_of, texts_after}
use Rattle.tg_keep.proofs.Joined.{AreWhole, last_sum_joined, length_joined, texts_joined}
use Rattle.tg_keep.proofs.LineLaws.{length-line_of}
use Rattle.tg_keep.proofs.Saying.{ArePlain, one_more_plain}
use Rattle.tg_keep.proofs.Writing.{own_length, own_sum, own_text}

module _ (before bytes last text : List ℕ) (begins : Bool) (whole : AreWhole before bytes) (is_last : last ≡ last_sum_after before bytes) (is : is_text text ≡ true) where
  pub adds_text : texts_after before (bytes ++ sealed_line last begins text) ≡ texts_after before bytes ++ text ∷ []
  adds_text =
      texts_joined before bytes (sealed_line last begins text) whole
      ∙ ap (λ s. texts_after before bytes ++ texts_after s (sealed_line last begins text)) (sym is_last)
      ∙ ap (λ l. texts_after before bytes ++ l) (own_text last text begins is)

  pub adds_length : length_after before (bytes ++ sealed_line last begins text) ≡ length (bytes ++ sealed_line last begins text)
  adds_length =
      length_joined before bytes (sealed_line last begins text) whole
      ∙ ap (λ s. length_after before bytes + length_after s (sealed_line last begins text)) (sym is_last)
      ∙ omega (arith, whole, own_length last text begins is, length-append bytes (sealed_line last begins text), length-append (line_of last begins text) (10 ∷ []), length-line_of last begins text)

  pub adds_sum : sum_after last text ≡ last_sum_after before (bytes ++ sealed_line last begins text)
  adds_sum = sym (last_sum_joined before bytes (sealed_line last begins text) whole ∙ ap (λ s. last_sum_after s (sealed_line last begins text)) (sym is_last) ∙ own_sum last text begins is)

-- a line more that says something
pub adds_plain : (before bytes last text : List ℕ) (begins : Bool) → AreWhole before bytes → last ≡ last_sum_after before bytes → is_text text ≡ true → is_mark text ≡ false → ArePlain (texts_after before bytes)
    → ArePlain (texts_after before (bytes ++ sealed_line last begins text))
adds_plain before bytes last text begins whole is_last is none plain =
    ap (list_any (λ t. is_mark t)) (adds_text before bytes last text begins whole is_last is) ∙ one_more_plain (texts_after before bytes) text plain none
