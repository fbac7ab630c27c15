-- Lists, and the numbers below a bound, as sums of weights. Two lists have the same sum under every weight exactly
-- where they hold the same items, each as often: so 'however the items are weighed, the sums agree' says 'the same
-- items, each as often', with no word on their order. The weight `one_at x` counts how often x is in a list.
use Rattle.std.specs.Prelude.{ℕ, zero, suc, ◌+◌, ◌==◌, List, [], ◌∷◌, if◌then◌else◌}

-- the weights of the items, added up
abbrev pub weigh : {A : Type 0} → (A → ℕ) → List A → ℕ
weigh h [] = 0
weigh h (x ∷ xs) = h x + weigh h xs

-- the weights of the numbers below n, added up
abbrev pub weigh_below : (ℕ → ℕ) → ℕ → ℕ
weigh_below h zero = 0
weigh_below h (suc n) = h n + weigh_below h n

-- the weight under which a list weighs as often as it holds x
abbrev pub one_at : ℕ → ℕ → ℕ
one_at x y = if y == x then 1 else 0
