-- The table of subjects, with one more and with one less.
use Rattle.std.proofs.Common.{◌≡◌, ◌≢◌, ℕ, zero, suc, ◌+◌, ◌<◌, ◌≤◌, ◌==◌, eqb, eq-eqb, ne_eqb, List, [], ◌∷◌, ◌++◌, length, get_or, map, take, drop, refl, sym, ap, ◌∙◌, subst, arith}
use Rattle.std.specs.Prelude.{◌↔◌, Option, None, Some, IfSome, IsSome, not, slice_set}
use Rattle.std.specs.Cmp.{nat_eq_equiv}
use Rattle.std.specs.List.{All, AllPairs, Contains}
use Rattle.std.proofs.lemmas.Bool.{cond-true, cond-false}
use Rattle.std.proofs.lemmas.List.{get_or-map, length-map, map-set}
use Rattle.std.proofs.lemmas.List.Quantifiers.{all_pairs_push}
use Rattle.std.proofs.Math.Seq.{map-set_same}
use Rattle.tg_word.specs.declared.Place.{Place}
use Rattle.std.proofs.lemmas.List.Elements.{All-head, All-tail, All-filter, All-push, All-contains}
use Rattle.std.proofs.lemmas.List.Kept.{AllPairs-filter}
use Rattle.std.proofs.lemmas.Map.Steps.{le-length_from_below}
use Rattle.std.proofs.lemmas.Map.Views.{list_any-from_Contains}
use Rattle.tg_subjects.specs.declared.subject.Subject.{Subject}
use Rattle.tg_word.specs.declared.TheConstants.{MAX_NURSERIES}
use Rattle.tg_subjects.specs.Subjects.{AreSubjects, IsHeld, IsLeastFree, IsSubjectNamed, names_of, nurseries_of, nursery_held, subject_places, without}

-- ---- the columns of the table

pub not_in_column : (f : Subject → ℕ) (ss : List Subject) (n : ℕ) → All (λ t. f t ≢ n) ss → ¬ Contains (map f ss) n
not_in_column f [] n others (k, inside, at) = omega (arith, inside)
not_in_column f (t ∷ ss) n others (zero, inside, at) = All-head (λ u. f u ≢ n) t ss others at
not_in_column f (t ∷ ss) n others (suc k, inside, at) = not_in_column f ss n (All-tail (λ u. f u ≢ n) t ss others) (k, omega (arith, inside), at)

pub others_in_column : (f : Subject → ℕ) (ss : List Subject) (n : ℕ) → ¬ Contains (map f ss) n → All (λ t. f t ≢ n) ss
others_in_column f ss n none = λ i d low same. none (i, omega (arith, low, length-map ss f), get_or-map f ss i d n low ∙ same)

pub in_column : (f : Subject → ℕ) (ss : List Subject) (s : Subject) → Contains ss s → Contains (map f ss) (f s)
in_column f ss s (k, inside, at) = (k, omega (arith, inside, length-map ss f), get_or-map f ss k s (f s) inside ∙ ap f at)

-- ---- one less

pub keeps_all : (ss : List Subject) (name : ℕ) → All (λ s. s.name ≢ name) ss → without ss name ≡ ss
keeps_all [] name others = refl
keeps_all (s ∷ ss) name others =
    cond-true (not (s.name == name)) (s ∷ without ss name) (without ss name) (ap not (ne_eqb s.name name (All-head (λ t. t.name ≢ name) s ss others)))
    ∙ ap (λ l. s ∷ l) (keeps_all ss name (All-tail (λ t. t.name ≢ name) s ss others))

rising_tail : (s : Subject) (ss : List Subject) → AllPairs (λ a b. a.name < b.name) (s ∷ ss) → AllPairs (λ a b. a.name < b.name) ss
rising_tail s ss rising = λ i j d lt low. rising (suc i) (suc j) d (omega (arith, lt)) (omega (arith, low))

rising_head : (s : Subject) (ss : List Subject) → AllPairs (λ a b. a.name < b.name) (s ∷ ss) → All (λ t. s.name < t.name) ss
rising_head s ss rising = λ i d low. rising 0 (suc i) d (omega arith) (omega (arith, low))

-- where names rise, taking out the one with the name leaves all others
pub without_at : (ss : List Subject) (name at : ℕ) → AllPairs (λ a b. a.name < b.name) ss → at < length ss → ((d : Subject) → (get_or ss at d).name ≡ name) → take at ss ++ drop (at + 1) ss ≡ without ss name
without_at [] name at rising inside named = absurd (omega (arith, inside))
without_at (s ∷ ss) name zero rising inside named =
    let above = rising_head s ss rising in
    let is : s.name ≡ name = named s in
    sym (cond-false (not (s.name == name)) (s ∷ without ss name) (without ss name) (ap not (eq-eqb s.name name is))
    ∙ keeps_all ss name (λ i d low same. let more = above i d low in omega (arith, more, same, is)))
without_at (s ∷ ss) name (suc k) rising inside named =
    let rest = without_at ss name k (rising_tail s ss rising) (omega (arith, inside)) named in
    let above : s.name < (get_or ss k s).name = rising_head s ss rising k s (omega (arith, inside)) in
    let other : s.name ≢ name = λ same. omega (arith, above, same, named s) in
    let next : suc k + 1 ≡ suc (k + 1) = omega arith in
    ap (λ n. s ∷ take k ss ++ drop n (s ∷ ss)) next
    ∙ (ap (λ l. s ∷ l) rest ∙ sym (cond-true (not (s.name == name)) (s ∷ without ss name) (without ss name) (ap not (ne_eqb s.name name other))))

pub subjects_without : (ss : List Subject) (name : ℕ) → AreSubjects ss → AreSubjects (without ss name)
subjects_without ss name are = record {
  rising = AllPairs-filter (λ a b. a.name < b.name) (λ s. not (s.name == name)) ss are.rising;
  nurseries = All-filter (λ s. not (s.name == name)) (λ s. s.nursery < MAX_NURSERIES) ss are.nurseries;
  apart = AllPairs-filter (λ a b. a.nursery ≢ b.nursery) (λ s. not (s.name == name)) ss are.apart;
}

-- ---- one more

pub subjects_push : (ss : List Subject) (s : Subject) → AreSubjects ss → IsLeastFree ss s.nursery → All (λ t. t.name < s.name) ss → AreSubjects (ss ++ s ∷ [])
subjects_push ss s are free above = record {
  rising = all_pairs_push (λ a b. a.name < b.name) ss s are.rising above;
  nurseries = All-push (λ t. t.nursery < MAX_NURSERIES) ss s are.nurseries free.few;
  apart = all_pairs_push (λ a b. a.nursery ≢ b.nursery) ss s are.apart (others_in_column (λ t. t.nursery) ss s.nursery free.free);
}

-- ---- a number is free

pub all_held : (ss : List Subject) → ((number : ℕ) → number < 64 → IsHeld ss number) → 64 ≤ length ss
all_held ss held =
    let many = le-length_from_below (nurseries_of ss) 64 (λ q low. list_any-from_Contains {eq = eqb} nat_eq_equiv q (nurseries_of ss) (held q low)) in
    omega (arith, many, length-map ss (λ (s : Subject). s.nursery))

-- ---- the nursery of a name

held_by : (ss : List Subject) (name : ℕ) (s : Subject) → AllPairs (λ a b. a.name < b.name) ss → Contains ss s → s.name ≡ name → nursery_held ss name ≡ s.nursery
held_by [] name s rising (k, inside, at) is = absurd (omega (arith, inside))
held_by (t ∷ ss) name s rising (zero, inside, at) is =
    cond-true (t.name == name) t.nursery (nursery_held ss name) (eq-eqb t.name name (ap (λ (u : Subject). u.name) at ∙ is))
    ∙ ap (λ (u : Subject). u.nursery) at
held_by (t ∷ ss) name s rising (suc k, inside, at) is =
    let there : Contains ss s = (k, omega (arith, inside), at) in
    let above : t.name < s.name = All-contains (λ u. t.name < u.name) ss s (rising_head t ss rising) there in
    cond-false (t.name == name) t.nursery (nursery_held ss name) (ne_eqb t.name name (λ same. omega (arith, above, same, is)))
    ∙ held_by ss name s (rising_tail t ss rising) there is

-- ---- what a look-up found

pub found_by : (ss : List Subject) (name : ℕ) (found : Option Subject) → IfSome found (IsSubjectNamed ss name) → (found ≡ None → All (λ s. s.name ≢ name) ss) → IsSome found ↔ Contains (names_of ss) name
found_by ss name None there none = (λ some. let f : ⊥ = cc some in absurd f, λ held. absurd (not_in_column (λ s. s.name) ss name (none refl) held))
found_by ss name (Some s) there none = (λ some. subst (Contains (names_of ss)) there.named (in_column (λ s. s.name) ss s there.there), λ held. refl)

pub nursery_found : (ss : List Subject) (name : ℕ) (found : Option Subject) → AreSubjects ss → IfSome found (IsSubjectNamed ss name) → IfSome found (λ s. s.nursery ≡ nursery_held ss name)
nursery_found ss name None are there = tt
nursery_found ss name (Some s) are there = sym (held_by ss name s are.rising there.there there.named)

-- ---- where objects are

-- a table with the same names and nurseries is one as well
pub subjects_same : (old new : List Subject) → names_of new ≡ names_of old → nurseries_of new ≡ nurseries_of old → AreSubjects old → AreSubjects new
subjects_same old new names nurseries are = record {
  rising = λ i j d lt low.
      let before = are.rising i j d lt (omega (arith, low, many)) in
      let first = column (λ s. s.name) names i d (omega (arith, lt, low)) in
      let second = column (λ s. s.name) names j d low in
      omega (arith, before, first, second);
  nurseries = λ i d low.
      let before = are.nurseries i d (omega (arith, low, many)) in
      let here = column (λ s. s.nursery) nurseries i d low in
      omega (arith, before, here);
  apart = λ i j d lt low same. are.apart i j d lt (omega (arith, low, many))
      (sym (column (λ s. s.nursery) nurseries i d (omega (arith, lt, low))) ∙ same ∙ column (λ s. s.nursery) nurseries j d low);
}
  where
    many : length new ≡ length old
    many = sym (length-map new (λ (s : Subject). s.name)) ∙ ap length names ∙ length-map old (λ (s : Subject). s.name)

    column : (f : Subject → ℕ) → map f new ≡ map f old → (i : ℕ) (d : Subject) → i < length new → f (get_or new i d) ≡ f (get_or old i d)
    column f same i d low = sym (get_or-map f new i d (f d) low) ∙ ap (λ l. get_or l i (f d)) same ∙ get_or-map f old i d (f d) (omega (arith, low, many))

-- only the place of one subject changes
pub record Moves (old new : List Subject) (at : ℕ) (place : Place) : Type 0 where
  pub names : names_of new ≡ names_of old
  pub nurseries : nurseries_of new ≡ nurseries_of old
  pub places : subject_places new ≡ slice_set (subject_places old) at place

pub moved : (ss : List Subject) (at : ℕ) (place : Place) (s : Subject) → s ≡ get_or ss at s → Moves ss (slice_set ss at (record { name = s.name; nursery = s.nursery; place = place })) at place
moved ss at place s is = record {
  names = map-set_same (λ (t : Subject). t.name) ss at now s (ap (λ (t : Subject). t.name) is);
  nurseries = map-set_same (λ (t : Subject). t.nursery) ss at now s (ap (λ (t : Subject). t.nursery) is);
  places = map-set (λ (t : Subject). t.place) ss at now;
}
  where
    now : Subject
    now = record { name = s.name; nursery = s.nursery; place = place }
