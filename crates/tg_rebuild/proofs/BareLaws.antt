-- An edge that is added and dropped leaves none.
use Rattle.std.proofs.Common.{◌≡◌, ◌==◌, ◌&&◌, ℕ, Bool, true, false, not, cond, refl, ap, ◌∙◌}
use Rattle.std.proofs.lemmas.Bool.{eq-eqb}
use Rattle.tg_rights.specs.RightSet.{RightSet, has, is_none_held, minus, no_rights, set_where, union}
use Rattle.tg_model.specs.Graph.{HasEdge, with_rights, without_rights}
use Rattle.tg_rows.specs.Content.{Content}
use Rattle.tg_rebuild.specs.Inner.Bare.{HasOneEdge, IsBare}

and_not_self : (b : Bool) → (b && not b) ≡ false
and_not_self true = refl
and_not_self false = refl

minus_self : (a : RightSet) → minus a a ≡ no_rights
minus_self a = λ i. set_where (λ x. and_not_self (has a x) i)

dropped_at : (v : Bool) (rights : RightSet) → cond v (minus (cond v (union no_rights rights) no_rights) rights) (cond v (union no_rights rights) no_rights) ≡ no_rights
dropped_at true rights = minus_self rights
dropped_at false rights = refl

pub dropped : (c : Content) (x y : ℕ) (rights : RightSet) → HasOneEdge c x y rights → (a b : ℕ) → without_rights c.label x y rights a b ≡ no_rights
dropped c x y rights one a b =
    ap (λ (s : RightSet). cond ((a == x) && (b == y)) (minus s rights) s) (one a b) ∙ dropped_at ((a == x) && (b == y)) rights

pub one_added : (c new : Content) (x y : ℕ) (rights : RightSet) → IsBare c → ((a b : ℕ) → new.label a b ≡ with_rights c.label x y rights a b) → HasOneEdge new x y rights
one_added c new x y rights bare added a b =
    added a b ∙ ap (λ (s : RightSet). cond ((a == x) && (b == y)) (union s rights) s) (bare a b)

-- so there is an edge
pub there : (c : Content) (x y : ℕ) (rights : RightSet) → HasOneEdge c x y rights → is_none_held rights ≡ false → HasEdge c.label x y
there c x y rights one some =
    ap is_none_held (one x y ∙ ap (λ (v : Bool). cond v (union no_rights rights) no_rights) (both x y)) ∙ some
  where
    both : (x y : ℕ) → ((x == x) && (y == y)) ≡ true
    both x y = ap (λ (v : Bool). v && (y == y)) (eq-eqb x x refl) ∙ eq-eqb y y refl
