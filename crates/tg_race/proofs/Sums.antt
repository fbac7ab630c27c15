-- Sums of weights: over a list that changes at one place, and over numbers and words.
use Rattle.std.proofs.Common.{◌≡◌, ◌≢◌, ℕ, zero, suc, ◌+◌, ◌*◌, ◌<◌, ◌≤◌, List, [], ◌∷◌, ◌++◌, length, replicate, get_or, set, Bool, true, false, ◌||◌, if◌then◌else◌, eqb, eqb-true, eq-eqb, ne_eqb, sym, refl, ap, ◌∙◌, ⊎_elim, All, add-one, arith}
use Rattle.std.specs.List.{list_any}
use Rattle.std.proofs.lemmas.Bool.{cond-true, cond-false, cond_both, or_cases, or_parts, eqb-false, false≢true, true_from_ne_false}
use Rattle.std.proofs.lemmas.List.Elements.{All-head, All-tail}
use mathlib.Core.Option.{some, some-injective, some-ne-none}
use lib.ListN.{get_elem?}
use Rattle.tg_word.specs.declared.Place.{Place}
use Rattle.tg_race.specs.Words.{place_of}
use Rattle.tg_race.specs.Weights.{weigh, weigh_below, one_at}
use Rattle.tg_race.specs.Words.{weigh_words}

module _ {A : Type 0} where
  pub weigh-append : (h : A → ℕ) (xs ys : List A) → weigh h (xs ++ ys) ≡ weigh h xs + weigh h ys
  weigh-append h [] ys = omega arith
  weigh-append h (x ∷ xs) ys = omega (arith, weigh-append h xs ys)

  pub weigh_push : (h : A → ℕ) (xs : List A) (y : A) → weigh h (xs ++ y ∷ []) ≡ weigh h xs + h y
  weigh_push h xs y = omega (arith, weigh-append h xs (y ∷ []))

  pub weigh-set : (g : A → ℕ) (l : List A) (j : ℕ) (v w : A) → get_elem? l j ≡ some v → weigh g (set l j w) + g v ≡ weigh g l + g w
  weigh-set g [] j v w e = absurd (some-ne-none v (sym e))
  weigh-set g (x ∷ xs) zero v w e = omega (arith, ap g (some-injective x v e))
  weigh-set g (x ∷ xs) (suc j) v w e = omega (arith, weigh-set g xs j v w e)

  pub weigh_one_le : (g : A → ℕ) (l : List A) (j : ℕ) (v : A) → get_elem? l j ≡ some v → g v ≤ weigh g l
  weigh_one_le g [] j v e = absurd (some-ne-none v (sym e))
  weigh_one_le g (x ∷ xs) zero v e = omega (arith, ap g (some-injective x v e))
  weigh_one_le g (x ∷ xs) (suc j) v e = omega (arith, weigh_one_le g xs j v e)

  -- the weights of one place of a list, and of two
  pub weigh_at : (f : A → ℕ) (l : List A) (i : ℕ) (d : A) → i < length l → f (get_or l i d) ≤ weigh f l
  weigh_at f [] i d low = absurd (omega arith)
  weigh_at f (x ∷ xs) zero d low = omega arith
  weigh_at f (x ∷ xs) (suc i) d low = omega (arith, weigh_at f xs i d (omega arith))

  pub weigh_two : (f : A → ℕ) (l : List A) (i j : ℕ) (d : A) → i < j → j < length l → f (get_or l i d) + f (get_or l j d) ≤ weigh f l
  weigh_two f (x ∷ xs) zero (suc j) d lt low = omega (arith, weigh_at f xs j d (omega arith))
  weigh_two f (x ∷ xs) (suc i) (suc j) d lt low = omega (arith, weigh_two f xs i j d (omega arith) (omega arith))
  weigh_two f xs i j d lt low = absurd (omega arith)

  pub weigh-le : (f g : A → ℕ) → ((x : A) → f x ≤ g x) → (l : List A) → weigh f l ≤ weigh g l
  weigh-le f g below [] = omega arith
  weigh-le f g below (x ∷ xs) = omega (arith, below x, weigh-le f g below xs)

  -- the same where the weights are compared at the list's elements alone
  pub weigh-le_at : (f g : A → ℕ) (l : List A) → ((j : ℕ) (x : A) → get_elem? l j ≡ some x → f x ≤ g x) → weigh f l ≤ weigh g l
  weigh-le_at f g [] below = omega arith
  weigh-le_at f g (x ∷ xs) below = omega (arith, below zero x refl, weigh-le_at f g xs (λ j y e. below (suc j) y e))

  -- where no other element has any of f, and an element without f has no g, all of g is that element's
  pub weigh_alone : (f g : A → ℕ) (l : List A) (j : ℕ) (v : A) → get_elem? l j ≡ some v → weigh f l ≤ f v
      → ((i : ℕ) (x : A) → get_elem? l i ≡ some x → f x ≡ 0 → g x ≡ 0) → weigh g l ≡ g v
  weigh_alone f g [] j v e most follows = absurd (some-ne-none v (sym e))
  weigh_alone f g (x ∷ xs) zero v e most follows =
      let same = some-injective x v e in
      let f_is = ap f same in
      let none = all_none f g xs (omega arith) (λ i y at. follows (suc i) y at) in
      omega (arith, ap g same)
    where
      all_none : (f g : A → ℕ) (l : List A) → weigh f l ≡ 0 → ((i : ℕ) (x : A) → get_elem? l i ≡ some x → f x ≡ 0 → g x ≡ 0) → weigh g l ≡ 0
      all_none f g [] none follows = refl
      all_none f g (x ∷ xs) none follows = omega (arith, follows zero x refl (omega arith), all_none f g xs (omega arith) (λ i y at. follows (suc i) y at))
  weigh_alone f g (x ∷ xs) (suc j) v e most follows =
      let part = weigh_one_le f xs j v e in
      omega (arith, follows zero x refl (omega arith), weigh_alone f g xs j v e (omega arith) (λ i y at. follows (suc i) y at))

pub weigh_below_more : (h : ℕ → ℕ) (n : ℕ) → weigh_below h (n + 1) ≡ h n + weigh_below h n
weigh_below_more h n = rw add-one refl

-- a number at or above n is not below n, one below n is, and once
pub one_past : (x n : ℕ) → n ≤ x → weigh_below (one_at x) n ≡ 0
one_past x zero h = refl
one_past x (suc n) h = let ne : n ≢ x = (λ e. omega arith) in omega (arith, one_past x n (omega arith), cond-false {A = ℕ} (eqb n x) 1 0 (ne_eqb n x ne))

pub one_here : (x n : ℕ) → x < n → 0 < weigh_below (one_at x) n
one_here x zero h = absurd (omega arith)
one_here x (suc n) h = cond_both (eqb n x) 1 0 (λ y. 0 < y + weigh_below (one_at x) n) (λ _. omega arith) (λ e. let ne = eqb-false n x e in omega (arith, one_here x n (omega arith)))

pub one_below : (x n : ℕ) → weigh_below (one_at x) n ≤ 1
one_below x zero = omega arith
one_below x (suc n) = cond_both (eqb n x) 1 0 (λ y. y + weigh_below (one_at x) n ≤ 1) (λ e. let same = eqb-true n x e in omega (arith, one_past x n (omega arith))) (λ _. omega (arith, one_below x n))

pub weigh_words-set : (h : ℕ × Place → ℕ) (i : ℕ) (ws : List ℕ) (c n w : ℕ) → n ≡ i + c → c < length ws → get_or ws c 0 ≡ 0 → w ≢ 0
    → weigh_words h i (set ws c w) ≡ weigh_words h i ws + h (n, place_of w)
weigh_words-set h i [] c n p is inside free some_ = absurd (omega arith)
weigh_words-set h i (w ∷ ws) zero n p is inside free some_ =
    let same : n ≡ i = omega arith in
    omega (arith, cond-true (eqb w 0) 0 (h (i, place_of w)) (eq-eqb w 0 free), cond-false (eqb p 0) 0 (h (i, place_of p)) (ne_eqb p 0 some_), ap (λ (m : ℕ). h (m, place_of p)) same)
weigh_words-set h i (w ∷ ws) (suc c) n p is inside free some_ =
    omega (arith, weigh_words-set h (suc i) ws c n p (omega arith) (omega arith) free some_)

-- as many words as are not 0 are at most all
pub weigh_words_le : (i : ℕ) (ws : List ℕ) → weigh_words (λ _. 1) i ws ≤ length ws
weigh_words_le i [] = omega arith
weigh_words_le i (w ∷ ws) = cond_both (eqb w 0) 0 1 (λ x. x + weigh_words (λ _. 1) (suc i) ws ≤ suc (length ws)) (λ e. omega (arith, weigh_words_le (suc i) ws)) (λ e. omega (arith, weigh_words_le (suc i) ws))

pub count_below : (n : ℕ) → weigh_below (λ _. 1) n ≡ n
count_below zero = refl
count_below (suc n) = omega (arith, count_below n)

pub weigh-scale : {A : Type 0} (f : A → ℕ) (l : List A) → weigh (λ x. 64 * f x) l ≡ 64 * weigh f l
weigh-scale f [] = refl
weigh-scale f (x ∷ xs) = omega (arith, weigh-scale f xs)

pub weigh-add : {A : Type 0} (f g : A → ℕ) (l : List A) → weigh (λ x. f x + g x) l ≡ weigh f l + weigh g l
weigh-add f g [] = refl
weigh-add f g (x ∷ xs) = omega (arith, weigh-add f g xs)

pub weigh-zero : {A : Type 0} (l : List A) → weigh (λ x. 0) l ≡ 0
weigh-zero [] = refl
weigh-zero (x ∷ xs) = omega (arith, weigh-zero xs)

pub no_words : (h : ℕ × Place → ℕ) (i n : ℕ) → weigh_words h i (replicate n 0) ≡ 0
no_words h i zero = refl
no_words h i (suc n) = omega (arith, no_words h (suc i) n)

-- ---- tests of a list, as weights

module _ {A : Type 0} where
  -- some item passes a test exactly where the weight that counts those which pass it isn't 0
  pub any_weighs : (f : A → Bool) (l : List A) → list_any f l ≡ true → 0 < weigh (λ x. if f x then 1 else 0) l
  any_weighs f [] h = absurd (false≢true h)
  any_weighs f (x ∷ l) h = ⊎_elim (λ e. omega (arith, cond-true {A = ℕ} (f x) 1 0 e)) (λ e. omega (arith, any_weighs f l e)) (or_cases (f x) (list_any f l) h)

  pub weighs_any : (f : A → Bool) (l : List A) → 0 < weigh (λ x. if f x then 1 else 0) l → list_any f l ≡ true
  weighs_any f [] h = absurd (omega arith)
  weighs_any f (x ∷ l) h = true_from_ne_false (f x || list_any f l) (λ none. let a = or_parts (f x) (list_any f l) none in false≢true (sym a.1 ∙ weighs_any f l (omega (arith, cond-false {A = ℕ} (f x) 1 0 a.0))))

  pub any_all : (P : A → Type 0) (f : A → Bool) (l : List A) → All P l → list_any f l ≡ true → (x : A) × (f x ≡ true) × P x
  any_all P f [] all h = absurd (false≢true h)
  any_all P f (x ∷ l) all h = ⊎_elim (λ e. (x, e, All-head P x l all)) (λ e. any_all P f l (All-tail P x l all) e) (or_cases (f x) (list_any f l) h)

  pub none_weighs : (f : A → Bool) (l : List A) → list_any f l ≡ false → weigh (λ x. if f x then 1 else 0) l ≡ 0
  none_weighs f [] h = refl
  none_weighs f (x ∷ l) h = let a = or_parts (f x) (list_any f l) h in omega (arith, cond-false {A = ℕ} (f x) 1 0 a.0, none_weighs f l a.1)

-- as many as there are items
pub weigh_ones : {A : Type 0} (l : List A) → weigh (λ _. 1) l ≡ length l
weigh_ones [] = refl
weigh_ones (x ∷ l) = omega (arith, weigh_ones l)
