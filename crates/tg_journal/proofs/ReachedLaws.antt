-- The names that a search collects: what a set has after more are added, and that a search ends with all that can be reached.
use Rattle.std.proofs.Common.{◌≡◌, ◌↔◌, ◌⊎◌, ⊎_elim, inl, inr, ◌+◌, ◌<◌, ◌≤◌, ℕ, zero, suc, List, [], ◌∷◌, ◌++◌, length, get_or, nat_eq, refl, sym, subst, ◌∙◌, arith, length-append}
use Rattle.std.proofs.lemmas.List.{get_or_append_left, get_or_default}
use Rattle.std.proofs.lemmas.List.Elements.{Contains-append_left, Contains-append_right, Contains-get_or, Contains-push, Contains-push_cases}
use Rattle.std.specs.Prelude.{IsTrue}
use Rattle.std.specs.Bool.{Decides}
use Rattle.std.specs.Cmp.{nat_eq_equiv}
use Rattle.std.specs.List.{Contains, IsDistinct, range_with_len}
use Rattle.std.specs.Set.{is_member}
use Rattle.std.proofs.lemmas.Bool.{cases_eq, cond_both}
use Rattle.std.proofs.lemmas.Bool.Decides.{Decides-eqb}
use Rattle.std.proofs.lemmas.Map.Made.{is_member-Decides, length-le_from_is_member}
use Rattle.indexmap.specs.IndexSet.{insert_key, insert_all}
use Rattle.tg_model.specs.Graph.{ProtectionGraph, IsSubject, HasEdge, IsReachable}
use Rattle.tg_model.specs.Walks.{begins, goes, Walk-within}
use Rattle.tg_model.proofs.PlainLaws.{is_subject}

member : (ks : List ℕ) (y : ℕ) → Decides (is_member nat_eq ks y) (Contains ks y)
member = is_member-Decides Decides-eqb

-- ---- more names

-- the first names stay
abbrev Extends : List ℕ → List ℕ → Type 0
Extends ks new = (length ks ≤ length new) × ((i : ℕ) → i < length ks → get_or new i 0 ≡ get_or ks i 0)

module _ (ks : List ℕ) (k : ℕ) where
  one_extends : Extends ks (insert_key nat_eq ks k)
  one_extends =
      cond_both (is_member nat_eq ks k) _ _ (Extends ks) (λ _. (omega arith, λ i inside. refl))
      (λ _. (omega (arith, length-append ks (k ∷ [])), λ i inside. get_or_append_left ks (k ∷ []) 0 i inside))

  one_added : (y : ℕ) → Contains (insert_key nat_eq ks k) y ↔ (Contains ks y ⊎ (k ≡ y))
  one_added y =
      cond_both (is_member nat_eq ks k) _ _ (λ (new : List ℕ). Contains new y ↔ (Contains ks y ⊎ (k ≡ y)))
      (λ there. (λ has. inl has, ⊎_elim (λ was. was) (λ same. subst (Contains ks) same ((member ks k).0 there))))
      (λ _. (Contains-push_cases ks k y, ⊎_elim (Contains-append_left ks (k ∷ []) y) (λ same. subst (Contains (ks ++ k ∷ [])) same (Contains-push ks k))))

all_extend : (xs ks : List ℕ) → Extends ks (insert_all nat_eq ks xs)
all_extend [] ks = (omega arith, λ i inside. refl)
all_extend (x ∷ xs) ks =
    let one = one_extends ks x in
    let rest = all_extend xs (insert_key nat_eq ks x) in
    (omega (arith, one.0, rest.0), λ i inside. rest.1 i (omega (arith, inside, one.0)) ∙ one.1 i inside)

first_or_later : (x y : ℕ) (xs : List ℕ) → Contains (x ∷ xs) y → (x ≡ y) ⊎ Contains xs y
first_or_later x y xs (zero, inside, is) = inl is
first_or_later x y xs (suc k, inside, is) = inr (k, omega (arith, inside), is)

all_added : (xs ks : List ℕ) (y : ℕ) → Contains (insert_all nat_eq ks xs) y ↔ (Contains ks y ⊎ Contains xs y)
all_added [] ks y = (λ has. inl has, ⊎_elim (λ was. was) (λ (k, inside, is). absurd (omega (arith, inside))))
all_added (x ∷ xs) ks y =
    let one = one_added ks x y in
    let rest = all_added xs (insert_key nat_eq ks x) y in (
      λ has. ⊎_elim
          (λ was. ⊎_elim (λ before. inl before) (λ this. inr (0, omega arith, this)) (one.0 was))
          (λ later. inr (Contains-append_right (x ∷ []) xs y later)) (rest.0 has),
      ⊎_elim (λ was. rest.1 (inl (one.1 (inl was))))
          (λ new. rest.1 (⊎_elim (λ this. inl (one.1 (inr this))) (λ later. inr later) (first_or_later x y xs new))),
    )

-- ---- the search

-- what holds of the names before one is looked at: subjects are there, all can be reached, and the targets of those before are there
pub record Searches (g : ProtectionGraph) (ks : List ℕ) (next : ℕ) : Type 0 where
  pub low : next ≤ length ks
  pub subjects : (y : ℕ) → IsSubject g y → Contains ks y
  pub only : (y : ℕ) → Contains ks y → IsReachable g y
  pub done : (i y : ℕ) → i < next → HasEdge g.label (get_or ks i 0) y → Contains ks y

module _ (g : ProtectionGraph) where
  pub search_begins : (ks : List ℕ) → ks ≡ insert_all nat_eq [] g.subjects → Searches g ks 0
  search_begins ks is = rw is (record {
    low = omega arith;
    subjects = λ y there. (all_added g.subjects [] y).1 (inr there);
    only = λ y has. ⊎_elim (λ (k, inside, at). absurd (omega (arith, inside))) (λ there. begins there) ((all_added g.subjects [] y).0 has);
    done = λ i y early. absurd (omega (arith, early));
  })

  pub search_goes_on : (ks new row : List ℕ) (next : ℕ) → Searches g ks next → next < length ks → ((y : ℕ) → IsTrue (is_member nat_eq row y) ↔ HasEdge g.label (get_or ks next 0) y) → new ≡ insert_all nat_eq ks row → Searches g new (next + 1)
  search_goes_on ks new row next was inside targets is =
      let more = all_extend row ks in
      let old = λ (y : ℕ) (has : Contains ks y). (all_added row ks y).1 (inl has) in
      rw is (record {
        low = omega (arith, inside, more.0);
        subjects = λ y there. old y (was.subjects y there);
        only = λ y has. ⊎_elim (was.only y)
            (λ target. goes (was.only (get_or ks next 0) (Contains-get_or ks next 0 inside)) ((targets y).0 ((member row y).1 target)))
            ((all_added row ks y).0 has);
        done = λ i y early edge.
            let from : HasEdge g.label (get_or ks i 0) y = subst (λ (x : ℕ). HasEdge g.label x y) (more.1 i (omega (arith, early, inside))) edge in
            ⊎_elim
            (λ this. (all_added row ks y).1 (inr ((member row y).0 ((targets y).1 (subst (λ (i : ℕ). HasEdge g.label (get_or ks i 0) y) this from)))))
            (λ other. old y (was.done i y (omega (arith, early, other)) from))
            (cases_eq i next);
      })

  -- a search that has looked at all names has found what can be reached
  pub search_ends : (ks : List ℕ) (next : ℕ) → Searches g ks next → length ks ≤ next → (y : ℕ) → IsTrue (is_member nat_eq ks y) ↔ IsReachable g y
  search_ends ks next was all y = (
    λ has. was.only y ((member ks y).0 has),
    λ reached. (member ks y).1 (Walk-within (Contains ks) was.subjects
        (λ b c (i, inside, is) edge.
        was.done i c (omega (arith, inside, all)) (subst (λ (x : ℕ). HasEdge g.label x c) (sym (sym (get_or_default ks i b 0 inside) ∙ is)) edge)) y reached),
  )

-- ---- the search ends

-- the subjects, and all names that were made
abbrev pub known : List ℕ → ℕ → List ℕ
known subjects made = subjects ++ range_with_len 0 made

module _ (g : ProtectionGraph) (targets : (x y : ℕ) → HasEdge g.label x y → y < g.made) where
  reached_known : (y : ℕ) → IsReachable g y → Contains (known g.subjects g.made) y
  reached_known y (begins there) = Contains-append_left g.subjects (range_with_len 0 g.made) y there
  reached_known y (goes {b = b} walk edge) = Contains-append_right g.subjects (range_with_len 0 g.made) y (is_subject g.made y (targets b y edge))

  -- there are no more names than these
  pub few_names : (ks : List ℕ) (next : ℕ) → Searches g ks next → IsDistinct nat_eq ks → length ks ≤ length (known g.subjects g.made)
  few_names ks next was distinct =
      length-le_from_is_member nat_eq_equiv ks (known g.subjects g.made) distinct
      (λ y has. (member (known g.subjects g.made) y).1 (reached_known y (was.only y ((member ks y).0 has))))
