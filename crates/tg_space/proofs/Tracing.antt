-- A traced and complete list of cells is the closure.
use Rattle.std.proofs.Common.{◌≡◌, ℕ, zero, suc, ◌<◌, List, length, get_or, subst, arith, ⊎_elim, ◌∙◌, ◌↔◌}
use Rattle.std.specs.List.{All, Contains}
use Rattle.std.proofs.lemmas.List.{get_or_default}
use Rattle.std.proofs.lemmas.List.Elements.{All-contains}
use Rattle.tg_model.specs.Walks.{begins, goes}
use Rattle.tg_space.specs.Closure.{IsInClosure, IsTraced, IsComplete}

module _ (roots : List ℕ) (targets : ℕ → List ℕ) (won : List ℕ) where
  -- each won cell is reached, by induction on a bound of its place
  reached_below : IsTraced roots targets won → (n k : ℕ) → k < n → k < length won → IsInClosure roots targets (get_or won k 0)
  reached_below traced zero k low inside = absurd (omega arith)
  reached_below traced (suc n) k low inside =
      ⊎_elim (λ root. begins root) (λ (j, below, target). goes (reached_below traced n j (omega arith) (omega arith)) target)
      (traced k inside)

  pub reached_from_won : IsTraced roots targets won → (c : ℕ) → Contains won c → IsInClosure roots targets c
  reached_from_won traced c (k, inside, is) =
      let e : get_or won k 0 ≡ c = get_or_default won k 0 c inside ∙ is in
      subst (λ d. IsInClosure roots targets d) e (reached_below traced (suc k) k (omega arith) inside)

  pub won_from_reached : IsComplete roots targets won → (c : ℕ) → IsInClosure roots targets c → Contains won c
  won_from_reached complete c (begins root) = All-contains (Contains won) roots c complete.0 root
  won_from_reached complete c (goes {b = d} reached target) =
      let held = won_from_reached complete d reached in
      let e : get_or won held.0 0 ≡ d = get_or_default won held.0 0 d held.1 ∙ held.2 in
      All-contains (Contains won) (targets d) c (subst (λ x. All (Contains won) (targets x)) e (complete.1 held.0 held.1)) target

  pub closure_is_won : IsTraced roots targets won → IsComplete roots targets won → (c : ℕ) → Contains won c ↔ IsInClosure roots targets c
  closure_is_won traced complete c = (reached_from_won traced c, won_from_reached complete c)
