-- Sums of rights, from which others are taken away.
use Rattle.std.proofs.Common.{◌≡◌, ℕ, ◌==◌, ◌&&◌, ◌||◌, not, Bool, true, false, cond, refl, sym, ap, ap₂, ◌∙◌}
use Rattle.std.proofs.lemmas.Bool.{eqb-true, and_parts}
use Rattle.tg_rights.specs.RightSet.{RightSet, no_rights, has, union, minus}
use Rattle.tg_rights.proofs.RightLaws.{has-no_rights, has-union, has-minus, same_rights, none_union, union_assoc, union_comm, union_none}
use Rattle.tg_rights.specs.declared.Right.{Right}

-- what is added to a first part, and then less, is added less to the rest
added_less : (l r g e : Bool) → ((l && not g) || (e || (r && not g))) ≡ (((l || r) && not g) || e)
added_less true true true true = refl
added_less true true true false = refl
added_less true true false true = refl
added_less true true false false = refl
added_less true false true true = refl
added_less true false true false = refl
added_less true false false true = refl
added_less true false false false = refl
added_less false true true true = refl
added_less false true true false = refl
added_less false true false true = refl
added_less false true false false = refl
added_less false false true true = refl
added_less false false true false = refl
added_less false false false true = refl
added_less false false false false = refl

-- what is taken away, and then more, is taken away together
taken_twice : (l r g : Bool) → ((l && not r) && not g) ≡ (l && not (g || r))
taken_twice true true true = refl
taken_twice true true false = refl
taken_twice true false true = refl
taken_twice true false false = refl
taken_twice false r g = refl

-- the rights l that are left where g is taken away, and e
abbrev pub left_of : RightSet → RightSet → RightSet → RightSet
left_of l g e = union (minus l g) e

has-left : (l g e : RightSet) (x : Right) → has (left_of l g e) x ≡ ((has l x && not (has g x)) || has e x)
has-left l g e x = has-union (minus l g) e x ∙ ap (λ b. b || has e x) (has-minus l g x)

pub left_added : (l r g e : RightSet) → left_of l g (union e (minus r g)) ≡ left_of (union l r) g e
left_added l r g e =
    same_rights (left_of l g (union e (minus r g))) (left_of (union l r) g e)
    (λ x.
    has-left l g (union e (minus r g)) x
    ∙ ap (λ b. (has l x && not (has g x)) || b) (has-union e (minus r g) x ∙ ap (λ b. has e x || b) (has-minus r g x))
    ∙ added_less (has l x) (has r x) (has g x) (has e x)
    ∙ ap (λ b. (b && not (has g x)) || has e x) (sym (has-union l r x))
    ∙ sym (has-left (union l r) g e x))

pub left_taken : (l r g e : RightSet) → left_of l (union g r) e ≡ left_of (minus l r) g e
left_taken l r g e =
    same_rights (left_of l (union g r) e) (left_of (minus l r) g e)
    (λ x.
    has-left l (union g r) e x
    ∙ ap (λ b. (has l x && not b) || has e x) (has-union g r x)
    ∙ ap (λ b. b || has e x) (sym (taken_twice (has l x) (has r x) (has g x)))
    ∙ ap (λ b. (b && not (has g x)) || has e x) (sym (has-minus l r x))
    ∙ sym (has-left (minus l r) g e x))

none_less : (g : Bool) → (false && not g) ≡ false
none_less g = refl

pub minus_of_none : (g : RightSet) → minus no_rights g ≡ no_rights
minus_of_none g =
    same_rights (minus no_rights g) no_rights
    (λ x. has-minus no_rights g x ∙ ap (λ b. b && not (has g x)) (has-no_rights x) ∙ sym (has-no_rights x))

less_none : (a : Bool) → (a && true) ≡ a
less_none true = refl
less_none false = refl

-- nothing is taken away
pub minus_none : (a g : RightSet) → g ≡ no_rights → minus a g ≡ a
minus_none a g none =
    same_rights (minus a g) a
    (λ x. has-minus a g x ∙ ap (λ s. has a x && not (has s x)) none ∙ ap (λ b. has a x && not b) (has-no_rights x) ∙ less_none (has a x))

-- what is left of nothing is what is added
pub left_of_none : (g e : RightSet) → left_of no_rights g e ≡ e
left_of_none g e = ap (λ s. union s e) (minus_of_none g) ∙ none_union e

-- where nothing is taken away and nothing added, all is left
pub left_of_all : (a g : RightSet) → g ≡ no_rights → left_of a g no_rights ≡ a
left_of_all a g none = union_none (minus a g) ∙ minus_none a g none

-- one edge more of a sum of two
pub added_between : (t : Bool) (l r m : RightSet) → union (cond t (union l r) l) m ≡ union l (cond t (union m r) m)
added_between true l r m = union_assoc l r m ∙ ap (union l) (union_comm r m)
added_between false l r m = refl
