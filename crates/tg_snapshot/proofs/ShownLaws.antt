-- Which names a list of vertices shows, and what a search by halves finds.
use Rattle.std.proofs.Common.{◌≡◌, ◌↔◌, ℕ, zero, suc, ◌+◌, ◌<◌, ◌≤◌, ◌==◌, true, List, [], ◌∷◌, length, get_or, Result, Ok, Err, Some, refl, sym, ap, subst, arith}
use Rattle.std.specs.Prelude.{EachIndex, IsSome, is_some, is_ok}
use Rattle.std.specs.List.Sorted.{IsSearchInRange, IsBinarySearchResult, IsNonDecreasingBy}
use Rattle.std.specs.Ordering.{nat_cmp, ordering_index}
use Rattle.std.proofs.lemmas.Cmp.{ranked}
use Rattle.std.proofs.lemmas.Bool.{eqb-true, eq-eqb, cond-true, cond_both, false≢true}
use Rattle.std.proofs.lemmas.Bool.Decides.{nat_tests}
use Rattle.std.proofs.lemmas.List.Sorted.{IsNonDecreasingBy-from_all_adjacent}
use Rattle.tg_snapshot.specs.declared.vertex.ShownVertex.{ShownVertex}
use Rattle.tg_snapshot.specs.Snapshot.{value_shown, ShowsName, ComesAfter, NamePrecedes, unreached_value}

abbrev pub nobody : ShownVertex
nobody = record { name = 0; value = unreached_value }

-- ---- what is shown has a place, and what has a place is shown

shown_here : (v : ShownVertex) (vs : List ShownVertex) (y : ℕ) → y ≡ v.name → ShowsName (v ∷ vs) y
shown_here v vs y same = ap is_some (cond-true (y == v.name) (Some v.value) (value_shown vs y) (eq-eqb y v.name same))

shown_later : (v : ShownVertex) (vs : List ShownVertex) (y : ℕ) → ShowsName vs y → ShowsName (v ∷ vs) y
shown_later v vs y shown = cond_both (y == v.name) (Some v.value) (value_shown vs y) (λ o. IsSome o) (λ is. refl) (λ is. shown)

pub shown_at : (vs : List ShownVertex) (k : ℕ) (d : ShownVertex) → k < length vs → ShowsName vs (get_or vs k d).name
shown_at [] k d inside = absurd (omega (arith, inside))
shown_at (v ∷ vs) zero d inside = shown_here v vs v.name refl
shown_at (v ∷ vs) (suc k) d inside = shown_later v vs (get_or vs k d).name (shown_at vs k d (omega (arith, inside)))

-- the place of a name that is shown
pub record StandsAt (vs : List ShownVertex) (y : ℕ) : Type 0 where
  pub at : ℕ
  pub inside : at < length vs
  pub named : (d : ShownVertex) → (get_or vs at d).name ≡ y

further : (v : ShownVertex) (vs : List ShownVertex) (y : ℕ) → StandsAt vs y → StandsAt (v ∷ vs) y
further v vs y place = record { at = suc place.at; inside = omega (arith, place.inside); named = place.named }

pub place_of : (vs : List ShownVertex) (y : ℕ) → ShowsName vs y → StandsAt vs y
place_of [] y shown = absurd (false≢true shown)
place_of (v ∷ vs) y shown =
    cond_both (y == v.name) (Some v.value) (value_shown vs y) (λ o. IsSome o → StandsAt (v ∷ vs) y)
    (λ is some. record { at = 0; inside = omega arith; named = λ d. sym (eqb-true y v.name is) })
    (λ is some. further v vs y (place_of vs y some)) shown

-- ---- a search by halves

module _ (vs : List ShownVertex) (rise : EachIndex vs (ComesAfter NamePrecedes vs)) where
  pub names_rise : IsNonDecreasingBy (λ (v : ShownVertex). v.name) vs
  names_rise =
      IsNonDecreasingBy-from_all_adjacent (λ (v : ShownVertex). v.name) vs
      (λ k d inside. let less = rise (k + 1) inside k d refl in omega (arith, less))

  comparisons_rise : (x : ℕ) → IsNonDecreasingBy (λ (v : ShownVertex). ordering_index (nat_cmp v.name x)) vs
  comparisons_rise x i j d le inside = let rises = names_rise i j d le inside in grind (arith, nat_tests, rises)

  pub found : (x : ℕ) (r : Result ℕ ℕ) → IsSearchInRange r (length vs) → IsBinarySearchResult (λ v. nat_cmp v.name x) vs r → (is_ok r ≡ true) ↔ ShowsName vs x
  found x (Ok at) inside equal = (
    λ ok. subst (ShowsName vs) (ranked _ x _ (sym (equal nobody))) (shown_at vs at nobody inside),
    λ shown. refl,
  )
  found x (Err at) inside parted = (
    λ ok. absurd (false≢true ok),
    λ shown.
        let place = place_of vs x shown in
        let parts = parted (comparisons_rise x) in
        absurd (none place.at place.inside (place.named nobody)
        (λ before. ranked _ x _ (sym (parts.0 place.at nobody (omega arith) before)))
        (λ from. ranked _ x _ (sym (parts.1 place.at nobody from place.inside)))),
  )
    where
      none : (k : ℕ) → k < length vs → (get_or vs k nobody).name ≡ x → (k < at → (get_or vs k nobody).name < x) → (at ≤ k → x < (get_or vs k nobody).name) → ⊥
      none k inside named smaller greater = grind (arith, named, smaller, greater)
