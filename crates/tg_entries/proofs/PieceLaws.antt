-- Pieces of a line that are read one after another.
use Rattle.std.proofs.Common.{◌≡◌, ◌∙◌, ℕ, ◌+◌, ◌<◌, List, [], ◌∷◌, ◌++◌, length, take, drop, get_or, Option, Some, None, OnSome, ap, sym, subst, append-nil, append_assoc}
use Rattle.std.proofs.lemmas.List.{take-append-drop, take_more, flat_map_more}
use Rattle.std.proofs.KnownBytes.{Consumes-nil, Consumes-kept, Consumes-trans}
use Rattle.std.specs.Io.KnownBytes.{Consumes, IsAtEnd, Keeps}
use Rattle.std.specs.List.{flat_map}
use Rattle.std.specs.Prelude.{codes}
use Rattle.tg_rights.specs.RightSet.{RightSet}
use Rattle.tg_model.specs.declared.reply.Reply.TheVariants.{Edges}
use Rattle.tg_text.specs.declared.answer.Answer.TheVariants as answer
use Rattle.tg_text.specs.Texts.{answer_text, edge_text}
use Rattle.tg_entries.specs.Pieces.{FetchesPiece, Loses}

-- no piece
pub fetches_none : (held : List ℕ) (a b : Option (List ℕ)) → Keeps a b → FetchesPiece held a held b
fetches_none held a b kept = record {
  piece = [];
  taken = Consumes-kept a a b [] (Consumes-nil a) kept;
  held_is = sym (append-nil held);
}

-- a piece after others
pub fetches_more : (held now new : List ℕ) (a b c : Option (List ℕ)) → FetchesPiece held a now b → FetchesPiece now b new c → FetchesPiece held a new c
fetches_more held now new a b c f g = record {
  piece = f.piece ++ g.piece;
  taken = Consumes-trans a b c f.piece g.piece f.taken g.taken;
  held_is = g.held_is ∙ ap (λ (x : List ℕ). x ++ g.piece) f.held_is ∙ append_assoc held f.piece g.piece;
}

-- the end that is met after a piece is the end of what there was before it
pub ended_more : (a b c : Option (List ℕ)) (piece : List ℕ) → Consumes a b piece → OnSome b (IsAtEnd c) → OnSome a (IsAtEnd c)
ended_more None b c piece taken end = tt
ended_more (Some xs) None c piece taken end = absurd taken
ended_more (Some xs) (Some ys) c piece taken end = end

-- ---- texts that come next

pub loses_none : (held : List ℕ) (a : Option (List ℕ)) → Loses held a [] held a
loses_none held a = record { piece = []; taken = Consumes-nil a; same = append-nil held }

-- a text that the bytes at hand begin with, once more of them were read
pub loses_read : (held now new text : List ℕ) (a b : Option (List ℕ)) → FetchesPiece held a now b → now ≡ text ++ new → Loses held a text new b
loses_read held now new text a b f is = record { piece = f.piece; taken = f.taken; same = sym f.held_is ∙ is }

-- the same, where they are shown to begin with it, and it is dropped from their front
pub loses_front : (held now shown new text : List ℕ) (a b : Option (List ℕ)) → FetchesPiece held a now b → shown ≡ now → take (length text) shown ≡ text →
    new ≡ drop (length text) now → Loses held a text new b
loses_front held now shown new text a b f is begins left =
    let front : take (length text) now ≡ text = ap (take (length text)) (sym is) ∙ begins in
    loses_read held now new text a b f
    (sym (take-append-drop (length text) now) ∙ ap (λ (x : List ℕ). x ++ drop (length text) now) front ∙ ap (λ (x : List ℕ). text ++ x) (sym left))

-- a text after another
pub loses_more : (held now new first second : List ℕ) (a b c : Option (List ℕ)) → Loses held a first now b → Loses now b second new c → Loses held a (first ++ second) new c
loses_more held now new first second a b c f g = record {
  piece = f.piece ++ g.piece;
  taken = Consumes-trans a b c f.piece g.piece f.taken g.taken;
  same =
      sym (append_assoc held f.piece g.piece) ∙ ap (λ (x : List ℕ). x ++ g.piece) f.same ∙ append_assoc first now g.piece
      ∙ ap (λ (x : List ℕ). first ++ x) g.same ∙ sym (append_assoc first second new);
}

-- the texts of all before this one came next, and then its own
pub loses_each : {X : Type 0} (text : X → List ℕ) (xs : List X) (i : ℕ) (x : X) (held now new : List ℕ) (a b c : Option (List ℕ)) →
    i < length xs → x ≡ get_or xs i x → Loses held a (flat_map text (take i xs)) now b → Loses now b (text x) new c →
    Loses held a (flat_map text (take (i + 1) xs)) new c
loses_each {X} text xs i x held now new a b c inside is f g =
    let more : take (i + 1) xs ≡ take i xs ++ x ∷ [] = take_more xs i x inside ∙ ap (λ (y : X). take i xs ++ y ∷ []) (sym is) in
    subst (λ (t : List ℕ). Loses held a t new c) (flat_map_more text [] (take i xs) x ∙ ap (flat_map text) (sym more))
    (loses_more held now new (flat_map text (take i xs)) (text x) a b c f g)

-- a listing after what was written, to the end of its line
pub loses_listing : (held first second third written : List ℕ) (edges : List (ℕ × RightSet)) (a b c d : Option (List ℕ)) →
    Loses held a (written ++ codes " = ok") first b → Loses first b (flat_map edge_text edges) second c → Loses second c (codes "\n") third d → third ≡ [] →
    Loses held a (written ++ (codes " = " ++ answer_text (answer.Reply (Edges edges)))) [] d
loses_listing held first second third written edges a b c d f g h none =
    let listed = flat_map edge_text edges in
    subst (λ (rest : List ℕ). Loses held a (written ++ (codes " = " ++ answer_text (answer.Reply (Edges edges)))) rest d) none
    (subst (λ (t : List ℕ). Loses held a t third d)
    (ap (λ (x : List ℕ). x ++ codes "\n") (append_assoc written (codes " = ok") listed) ∙ append_assoc written (codes " = ok" ++ listed) (codes "\n"))
    (loses_more held second third ((written ++ codes " = ok") ++ listed) (codes "\n") a c d
    (loses_more held first second (written ++ codes " = ok") listed a b c f g) h))
