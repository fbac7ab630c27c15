-- A list of keys as the list of their places.
use Rattle.std.proofs.Common.{◌≡◌, ◌≢◌, ◌⊎◌, ◌↔◌, ◌∙◌, ℕ, Bool, true, false, ◌&&◌, ◌||◌, ◌==◌, if◌then◌else◌, IsTrue, IsOk, OnErr, Result, Ok, Err, List, [], ◌∷◌, ◌++◌, map, Contains, ap, sym, subst, refl, inl, inr}
use Rattle.std.specs.Bool.{Decides}
use Rattle.std.specs.Cmp.{IsEquivalence}
use Rattle.std.specs.List.{list_any, AllPairs, AllByRecursion, IsDistinct}
use Rattle.std.proofs.lemmas.Bool.{false≢true}
use Rattle.std.proofs.lemmas.Bool.Decides.{Decides-eqb, Decides-and, Decides-like, same_from_decides}
use Rattle.std.proofs.lemmas.List.Elements.{Contains-push, Contains-append_left, Contains-push_cases}
use Rattle.std.proofs.lemmas.Map.Made.{AllPairs-from_IsDistinct}
use Rattle.std.proofs.lemmas.Map.Views.{Contains-from_any, list_any-from_Contains}
use Rattle.tg_word.specs.declared.Place.{Place}
use Rattle.tg_remember.specs.Notes.{equal_places, noted, place_of_key}

-- ---- the test of two places

pub same_place-Decides : (p q : Place) → Decides (equal_places p q) (p ≡ q)
same_place-Decides p q =
    Decides-like _
    (λ h i. record { space = h.0.0 i; block = h.0.1 i; cell = h.1 i })
    (λ same. ((ap (λ r. r.space) same, ap (λ r. r.block) same), ap (λ r. r.cell) same))
    (Decides-and _ _ (Decides-and _ _ (Decides-eqb p.space q.space) (Decides-eqb p.block q.block)) (Decides-eqb p.cell q.cell))

same_place-IsEquivalence : IsEquivalence equal_places
same_place-IsEquivalence = record {
  refl = λ x. (same_place-Decides x x).1 refl;
  symm = λ x y. same_from_decides _ _ (same_place-Decides x y) (Decides-like _ sym sym (same_place-Decides y x));
  congr = λ x y z same. ap (λ w. equal_places w z) ((same_place-Decides x y).0 same);
}

-- the test finds a place exactly where it is in the list
pub list_any-Decides : (p : Place) (places : List Place) → Decides (list_any (equal_places p) places) (Contains places p)
list_any-Decides p places = (
  Contains-from_any (λ x y. (same_place-Decides x y).0) p places,
  list_any-from_Contains same_place-IsEquivalence p places,
)

-- ---- keys and their places

abbrev Key : Type 0
Key = ℕ × ℕ × ℕ

abbrev same_key : Key → Key → Bool
same_key a b = ((a.0 == b.0) && (a.1 == b.1)) && (a.2 == b.2)

list_any-map : (key : Key) (keys : List Key) → list_any (equal_places (place_of_key key)) (map place_of_key keys) ≡ list_any (same_key key) keys
list_any-map key [] = refl
list_any-map key (k ∷ keys) = ap (λ b. same_key key k || b) (list_any-map key keys)

-- looking for a key is looking for its place
pub list_any-keys : (keys : List Key) (places : List Place) (key : Key) (place : Place) → place_of_key key ≡ place → map place_of_key keys ≡ places → list_any (same_key key) keys ≡ list_any (equal_places place) places
list_any-keys keys places key place named listed =
    sym (list_any-map key keys)
    ∙ ap (λ p. list_any (equal_places p) (map place_of_key keys)) named
    ∙ ap (λ ps. list_any (equal_places place) ps) listed

map-push : (keys : List Key) (key : Key) → map place_of_key (keys ++ key ∷ []) ≡ map place_of_key keys ++ place_of_key key ∷ []
map-push [] key = refl
map-push (k ∷ keys) key = ap (λ ps. place_of_key k ∷ ps) (map-push keys key)

map-if : (found : Bool) (keys : List Key) (key : Key) → map place_of_key (if found then keys else keys ++ key ∷ []) ≡ (if found then map place_of_key keys else map place_of_key keys ++ place_of_key key ∷ [])
map-if true keys key = refl
map-if false keys key = map-push keys key

-- inserting a key notes its place
pub noted-keys : (keys : List Key) (places : List Place) (key : Key) (place : Place) → place_of_key key ≡ place → map place_of_key keys ≡ places → map place_of_key (if list_any (same_key key) keys then keys else keys ++ key ∷ []) ≡ noted places place
noted-keys keys places key place named listed =
    map-if (list_any (same_key key) keys) keys key
    ∙ ap (λ found. if found then map place_of_key keys else map place_of_key keys ++ place_of_key key ∷ []) (list_any-keys keys places key place named listed)
    ∙ ap (λ ps. if list_any (equal_places place) places then ps else ps ++ place_of_key key ∷ []) listed
    ∙ ap (λ p. if list_any (equal_places place) places then places else places ++ p ∷ []) named

AllByRecursion-map : (key : Key) (keys : List Key) → AllByRecursion (λ k. same_key key k ≡ false) keys → AllByRecursion (λ q. equal_places (place_of_key key) q ≡ false) (map place_of_key keys)
AllByRecursion-map key [] all = tt
AllByRecursion-map key (k ∷ keys) all = (all.0, AllByRecursion-map key keys all.1)

IsDistinct-map : (keys : List Key) → IsDistinct same_key keys → IsDistinct equal_places (map place_of_key keys)
unfolding IsDistinct
IsDistinct-map [] distinct = tt
IsDistinct-map (k ∷ keys) distinct = (AllByRecursion-map k keys distinct.0, IsDistinct-map keys distinct.1)

-- keys that differ have places that differ
pub AllPairs-map : (keys : List Key) → IsDistinct same_key keys → AllPairs (λ p q. p ≢ q) (map place_of_key keys)
AllPairs-map keys distinct = AllPairs-from_IsDistinct same_place-Decides (map place_of_key keys) (IsDistinct-map keys distinct)

-- ---- the members after a note

members_if : (found : Bool) (places : List Place) (p q : Place) → Decides found (Contains places p) → Contains (if found then places else places ++ p ∷ []) q ↔ (Contains places q ⊎ (q ≡ p))
members_if true places p q there =
    (inl, λ h. elim h [ inl is ↦ is | inr same ↦ subst (λ x. Contains places x) (sym same) (there.0 refl) ])
members_if false places p q there = (
  λ h. elim (Contains-push_cases places p q h) [ inl is ↦ inl is | inr same ↦ inr (sym same) ],
  λ h. elim h [ inl is ↦ Contains-append_left places _ q is | inr same ↦ subst (λ x. Contains (places ++ p ∷ []) x) (sym same) (Contains-push places p) ],
)

pub Contains-noted : (places : List Place) (p q : Place) → Contains (noted places p) q ↔ (Contains places q ⊎ (q ≡ p))
Contains-noted places p q = members_if (list_any (equal_places p) places) places p q (list_any-Decides p places)

-- what is refused only where a test fails, isn't where it passes
pub IsOk-where_found : {T E : Type 0} (r : Result T E) (found : Bool) → IsTrue found → OnErr r (found ≡ false) → IsOk r
IsOk-where_found (Ok x) found there refused = refl
IsOk-where_found (Err e) found there refused = absurd (false≢true (sym refused ∙ there))
