-- Texts that grow.
use Rattle.std.proofs.Common.{◌≡◌, ◌∙◌, ℕ, ◌+◌, ◌<◌, List, [], ◌∷◌, ◌++◌, sym, ap, take, length, get_or, append_assoc}
use Rattle.std.proofs.lemmas.List.{take_more, flat_map_more}
use Rattle.std.specs.List.{flat_map}
use Rattle.tg_plain.specs.declared.text.PlainText.{PlainText}
use Rattle.tg_plain.specs.Grown.{Appends}

-- a text that has grown by the texts of all before this one grew by its text
pub grew : {X : Type 0} (text_of : X → List ℕ) (xs : List X) (i : ℕ) (x : X) (front old new : List ℕ) → i < length xs → x ≡ get_or xs i x →
    old ≡ front ++ flat_map text_of (take i xs) → new ≡ old ++ text_of x → new ≡ front ++ flat_map text_of (take (i + 1) xs)
grew {X} text_of xs i x front old new inside is before now =
    let more : take (i + 1) xs ≡ take i xs ++ x ∷ [] = take_more xs i x inside ∙ ap (λ (y : X). take i xs ++ y ∷ []) (sym is) in
    now ∙ ap (λ (ys : List ℕ). ys ++ text_of x) before ∙ flat_map_more text_of front (take i xs) x
    ∙ ap (λ (ys : List X). front ++ flat_map text_of ys) (sym more)

-- the same of a text that may be short
pub adds_next : {X : Type 0} (text_of : X → List ℕ) (xs : List X) (i : ℕ) (x : X) (front old new : PlainText) → i < length xs → x ≡ get_or xs i x →
    Appends front (flat_map text_of (take i xs)) old → Appends old (text_of x) new → Appends front (flat_map text_of (take (i + 1) xs)) new
adds_next {X} text_of xs i x front old new inside is before now =
    λ full. let last = now full in let first = before (last.0) in
    (first.0, grew text_of xs i x front.bytes.items old.bytes.items new.bytes.items inside is (first.1) (last.1))

-- one text and then another
pub adds_both : (a b c : PlainText) (s t : List ℕ) → Appends a s b → Appends b t c → Appends a (s ++ t) c
adds_both a b c s t one other =
    λ full. let last = other full in let first = one (last.0) in
    (first.0, last.1 ∙ ap (λ (ys : List ℕ). ys ++ t) (first.1) ∙ append_assoc a.bytes.items s t)
