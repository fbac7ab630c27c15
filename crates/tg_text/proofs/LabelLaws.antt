-- Labels and their texts.
use Rattle.std.proofs.Common.{◌≡◌, ℕ, Bool, true, false, List, Option, option_and_then, Some, None, IfSome, if◌then◌else◌, refl, sym, ap, ◌∙◌}
use Rattle.std.proofs.lemmas.Option.{option_and_then_some}
use Rattle.tg_rights.specs.RightSet.{RightSet, text_of, is_none_held, label_of as some_label}
use Rattle.tg_rights.specs.Inner.RightText.{read_of}
use Rattle.tg_rights.proofs.RightText.{read_of-text_of, text_of-read_of}
use Rattle.tg_text.specs.Inner.Words.{label_read}

labelled : (s : RightSet) → is_none_held s ≡ false → some_label s ≡ Some s
labelled s some = rw some refl

labelled_some : (s l : RightSet) (b : Bool) → (if b then None else Some s) ≡ Some l → (b ≡ false) × (s ≡ l)
labelled_some s l true h = let no : ⊥ = cc in absurd no
labelled_some s l false h = (refl, cc)

pub label_of-text_of : (l : RightSet) → is_none_held l ≡ false → label_read (text_of l) ≡ Some l
label_of-text_of l some = ap (option_and_then some_label) (read_of-text_of l) ∙ labelled l some

pub label_text : (word : List ℕ) (l : RightSet) → label_read word ≡ Some l → (word ≡ text_of l) × (is_none_held l ≡ false)
label_text word l h =
    option_and_then_some some_label (read_of word) l h
    (λ s is some.
    let k = labelled_some s l (is_none_held s) some in
    (sym (text_of-read_of word s is) ∙ ap text_of k.1, ap is_none_held (sym k.1) ∙ k.0))

-- the two things that `read_text` promises of a word make what it answers
pub read_same : (word : List ℕ) (found : Option RightSet) → ((s : RightSet) → text_of s ≡ word → found ≡ Some s) → IfSome found (λ s. text_of s ≡ word) → found ≡ read_of word
read_same word (Some s) reads known = sym (read_of-text_of s) ∙ ap read_of known
read_same word None reads known = no_read (read_of word) (λ s e. reads s (text_of-read_of word s e))
  where
    no_read : (read : Option RightSet) → ((s : RightSet) → read ≡ Some s → ◌≡◌ {A = Option RightSet} None (Some s)) → None ≡ read
    no_read None none = refl
    no_read (Some s) none = none s refl
