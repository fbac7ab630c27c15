-- Texts that are written one after another.
use Rattle.std.proofs.Common.{◌≡◌, ◌∙◌, ℕ, ◌+◌, ◌<◌, List, [], ◌∷◌, ◌++◌, length, take, get_or, Option, Result, ap, sym, subst}
use Rattle.std.proofs.lemmas.List.{take_more, flat_map_more}
use Rattle.std.specs.List.{flat_map}
use Rattle.std.specs.Result.{IsErr}
use Rattle.tg_text.specs.Sinks.{Wrote, WroteSome, Writes}
use Rattle.tg_text.proofs.SinkLaws.{Sofar, wrote_more, writes_cut_at}

-- the texts of all before this one were written, and then its own
pub sofar_more : {X : Type 0} (text : X → List ℕ) (xs : List X) (i : ℕ) (x : X) (old now after : Option (List ℕ)) (f g h : ℕ) →
    i < length xs → x ≡ get_or xs i x → Sofar old f (flat_map text (take i xs)) now g → Sofar now g (text x) after h →
    Sofar old f (flat_map text (take (i + 1) xs)) after h
sofar_more {X} text xs i x old now after f g h inside is was k =
    let more : take (i + 1) xs ≡ take i xs ++ x ∷ [] = take_more xs i x inside ∙ ap (λ (y : X). take i xs ++ y ∷ []) (sym is) in (
      subst (λ (t : List ℕ). Wrote old t after) (flat_map_more text [] (take i xs) x ∙ ap (flat_map text) (sym more))
          (wrote_more old now after (flat_map text (take i xs)) (text x) was.0 k.0),
      k.1 ∙ was.1,
    )

-- the text of this one was cut short
pub cut_more : {T E X : Type 0} (text : X → List ℕ) (xs : List X) (i : ℕ) (x : X) (old now after : Option (List ℕ)) (f g h : ℕ) (r : Result T E) →
    i < length xs → x ≡ get_or xs i x → IsErr r → Sofar old f (flat_map text (take i xs)) now g → WroteSome now (text x) after × (h ≡ g + 1) →
    Writes old f (flat_map text xs) r after h
cut_more {T} {E} {X} text xs i x old now after f g h r inside is failed was k =
    writes_cut_at text xs i x [] old now after f g h r inside failed was (subst (λ (y : X). WroteSome now (text y) after) is k.0, k.1)
