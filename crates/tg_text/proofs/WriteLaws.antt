-- Words that are joined.
use Rattle.std.proofs.Common.{◌≡◌, ℕ, List, [], ◌∷◌, ◌++◌, refl, ap, ◌∙◌, append_assoc, append-nil}
use Rattle.std.specs.List.{join_with_byte}
use Rattle.tg_text.specs.Inner.Words.{words_behind}

join_behind : (word : List ℕ) (words : List (List ℕ)) → word ++ words_behind words ≡ join_with_byte 32 (word ∷ words)
join_behind word [] = append-nil word
join_behind word (w ∷ ws) = refl

-- two words, and others after them
pub words_join : (first word : List ℕ) (words : List (List ℕ)) → (first ++ 32 ∷ word) ++ words_behind words ≡ join_with_byte 32 (first ∷ word ∷ words)
words_join first word words = append_assoc first (32 ∷ word) (words_behind words) ∙ ap (λ (text : List ℕ). first ++ 32 ∷ text) (join_behind word words)
