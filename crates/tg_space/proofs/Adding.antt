-- The pieces of a list that a loop claims one after the other.
use Rattle.std.proofs.Common.{◌≡◌, ℕ, ◌<◌, ◌+◌, List, ◌∷◌, ◌++◌, length, get_or, sym, ap, subst, ◌∙◌}
use Rattle.std.specs.List.{All, Contains}
use Rattle.std.proofs.lemmas.List.{drop_more, take-append-drop}
use Rattle.std.proofs.lemmas.List.Elements.{All-weaker, Contains-append_left, Contains-append_right, All-contains_itself}
use Rattle.std.specs.List.{flat_map}
use Rattle.std.proofs.lemmas.List.Concat.{flat_map-append}
use Rattle.std.proofs.Common.{take, drop}

-- a loop that claims the pieces of a list, one after the other
module _ {X : Type 0} (f : X → List ℕ) (xs : List X) (i : ℕ) (d : X) (inside : i < length xs) where
  pub piece : All (Contains (flat_map f xs)) (f (get_or xs i d))
  piece =
      let x = get_or xs i d in
      let split : xs ≡ take i xs ++ x ∷ drop (i + 1) xs = sym (take-append-drop i xs) ∙ ap (λ ys. take i xs ++ ys) (drop_more xs i d inside) in
      let parts : flat_map f xs ≡ flat_map f (take i xs) ++ (f x ++ flat_map f (drop (i + 1) xs)) =
      ap (flat_map f) split ∙ flat_map-append f (take i xs) (x ∷ drop (i + 1) xs) in
      let here : All (Contains (flat_map f (take i xs) ++ (f x ++ flat_map f (drop (i + 1) xs)))) (f x) =
      All-weaker (Contains (f x)) (Contains (flat_map f (take i xs) ++ (f x ++ flat_map f (drop (i + 1) xs))))
      (λ y h. Contains-append_right (flat_map f (take i xs)) (f x ++ flat_map f (drop (i + 1) xs)) y (Contains-append_left (f x) (flat_map f (drop (i + 1) xs)) y h))
      (f x) (All-contains_itself (f x)) in
      subst (λ ys. All (Contains ys) (f x)) (sym parts) here
