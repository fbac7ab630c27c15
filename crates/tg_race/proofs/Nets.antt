-- A chunk of roots, as the code finds it.
use Rattle.std.proofs.Common.{◌≡◌, ℕ, ◌+◌, ◌-◌, ◌*◌, Bool, ◌||◌, List, [], ◌∷◌, length, map, take, drop, Vec, sym, refl, ap, ◌∙◌, arith}
use Rattle.std.specs.List.{list_any}
use Rattle.std.proofs.lemmas.List.{length-map, take-map, drop-map, drop-take}
use Rattle.tg_race.specs.Race.{chunk_of, has_number}
use Rattle.tg_race.specs.Course.{lists}

pub any-map : {X Y : Type 0} (f : Y → Bool) (g : X → Y) (l : List X) → list_any f (map g l) ≡ list_any (λ x. f (g x)) l
any-map f g [] = refl
any-map f g (x ∷ l) = ap (λ (b : Bool). f (g x) || b) (any-map f g l)

-- it is between these two places
pub chunk_at : {X : Type 0} (l : List X) (c first last : ℕ) → first ≡ length l - 8 * (c + 1) → last ≡ length l - 8 * c → take (last - first) (drop first l) ≡ chunk_of l c
chunk_at l c first last begins ends =
    let whole : last ≡ first + (last - first) = omega (arith, begins, ends) in
    sym (drop-take first (last - first) l) ∙ (ap (λ (n : ℕ). drop first (take n l)) (sym whole)
    ∙ (ap (λ (n : ℕ). drop n (take last l)) begins ∙ ap (λ (n : ℕ). drop (length l - 8 * (c + 1)) (take n l)) ends))

module _ {A : Type 0} (cell chunk : ℕ) (roots : List (Vec ℕ A)) where
  pub in_lists : list_any (λ (v : Vec ℕ A). has_number cell v.items) (chunk_of roots chunk) ≡ list_any (has_number cell) (chunk_of (lists roots) chunk)
  in_lists =
      let as_long = length-map roots (λ (v : Vec ℕ A). v.items) in
      let first : ℕ = length roots - 8 * (chunk + 1) in let last : ℕ = length roots - 8 * chunk in
      sym (any-map (has_number cell) (λ (v : Vec ℕ A). v.items) (chunk_of roots chunk))
      ∙ ap (list_any (has_number cell)) (sym (drop-map (λ (v : Vec ℕ A). v.items) first (take last roots))
      ∙ (ap (drop first) (sym (take-map (λ (v : Vec ℕ A). v.items) last roots))
      ∙ ap (λ (n : ℕ). drop (n - 8 * (chunk + 1)) (take (n - 8 * chunk) (lists roots))) (sym as_long)))
