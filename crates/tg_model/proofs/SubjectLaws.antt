-- Lists of subjects: one more, and one less.
use Rattle.std.proofs.Common.{◌≡◌, ◌≢◌, ◌↔◌, ℕ, zero, suc, ◌+◌, ◌<◌, ◌≤◌, ◌==◌, Bool, true, false, List, [], ◌∷◌, ◌++◌, length, get_or, refl, sym, ap, ◌∙◌, subst, arith}
use Rattle.std.proofs.lemmas.Bool.{eqb-false, ne_eqb, cond_both, cond-true}
use Rattle.std.specs.Prelude.{not}
use Rattle.std.specs.List.{Contains}
use Rattle.std.specs.List.Sorted.{IsStrictlyIncreasing}
use Rattle.std.proofs.lemmas.List.Elements.{All-contains, All-contains_itself, All-filter, Contains-append_right, Contains-get_or, filter_passes}
use Rattle.std.proofs.lemmas.List.Filters.{length-filter_both}
use Rattle.std.proofs.lemmas.List.Kept.{IsStrictlyIncreasing-filter}
use Rattle.tg_model.specs.declared.command.Command.{Command}
use Rattle.tg_model.specs.declared.command.Command.TheVariants.{Retire}
use Rattle.tg_rights.specs.RightSet.{RightSet}
use Rattle.tg_model.specs.declared.law.Law.{Law}
use Rattle.tg_model.specs.declared.command.Deed.TheVariants.{Spawn}
use Rattle.tg_model.specs.declared.reply.Reply.TheVariants.{Name}
use Rattle.tg_model.specs.Graph.{ProtectionGraph, without_subject}
use Rattle.tg_model.specs.Rules.{subjects_after, answer_of, step}
use Rattle.tg_model.proofs.NameLaws.{name_is_next}

-- ---- one less

pub length-without : (subjects : List ℕ) (x : ℕ) → length (without_subject subjects x) ≤ length subjects
length-without subjects x = let both = length-filter_both (λ s. not (s == x)) (λ s. not (not (s == x))) (λ s. refl) subjects in omega (arith, both)

pub before_without : (subjects : List ℕ) (x y : ℕ) → Contains (without_subject subjects x) y → Contains subjects y
before_without subjects x y is =
    All-contains (Contains subjects) (without_subject subjects x) y (All-filter (λ s. not (s == x)) (Contains subjects) subjects (All-contains_itself subjects)) is

other_passes : (s x : ℕ) → s ≢ x → not (s == x) ≡ true
other_passes s x other = ap not (ne_eqb s x other)

passed : (b : Bool) → not b ≡ true → b ≡ false
passed true is = sym is
passed false is = refl

gone : (subjects : List ℕ) (x : ℕ) → Contains (without_subject subjects x) x → ⊥
gone subjects x is =
    eqb-false x x (passed (x == x) (All-contains (λ s. not (s == x) ≡ true) (without_subject subjects x) x (filter_passes (λ s. not (s == x)) subjects) is)) refl

after_without : (subjects : List ℕ) (x y : ℕ) → Contains subjects y → y ≢ x → Contains (without_subject subjects x) y
after_without [] x y (k, inside, at) other = absurd (omega (arith, inside))
after_without (s ∷ subjects) x y (zero, inside, at) other =
    subst (λ l. Contains l y) (sym (cond-true (not (s == x)) (s ∷ without_subject subjects x) (without_subject subjects x) (other_passes s x (λ same. other (sym at ∙ same))))) (0, omega arith, at)
after_without (s ∷ subjects) x y (suc k, inside, at) other =
    let rest = after_without subjects x y (k, omega (arith, inside), at) other in
    cond_both (not (s == x)) (s ∷ without_subject subjects x) (without_subject subjects x) (λ l. Contains l y) (λ _. Contains-append_right (s ∷ []) (without_subject subjects x) y rest) (λ _. rest)

-- exactly the others stay
pub is_without : (subjects : List ℕ) (x y : ℕ) → Contains (without_subject subjects x) y ↔ (Contains subjects y × (y ≢ x))
is_without subjects x y = (
  λ is. (before_without subjects x y is, λ same. gone subjects x (subst (Contains (without_subject subjects x)) same is)),
  λ (was, other). after_without subjects x y was other,
)

-- ---- one more

pub rising_push : (subjects : List ℕ) (n : ℕ) → IsStrictlyIncreasing subjects → ((s : ℕ) → Contains subjects s → s < n) → IsStrictlyIncreasing (subjects ++ n ∷ [])
rising_push [] n rising below k inside = absurd (omega (arith, inside))
rising_push (s ∷ []) n rising below zero inside = below s (0, omega arith, refl)
rising_push (s ∷ []) n rising below (suc k) inside = absurd (omega (arith, inside))
rising_push (s ∷ t ∷ subjects) n rising below zero inside = rising 0 (omega arith)
rising_push (s ∷ t ∷ subjects) n rising below (suc k) inside =
    let all : List ℕ = s ∷ t ∷ subjects ++ n ∷ [] in
    let next : (i : ℕ) → suc (i + 1) ≡ suc i + 1 = λ i. omega arith in
    subst (λ m. get_or all (suc k) 0 < get_or all m 0) (next k)
    (rising_push (t ∷ subjects) n
    (λ i within. subst (λ m. get_or (t ∷ subjects) i 0 < get_or (s ∷ t ∷ subjects) m 0) (sym (next i)) (rising (suc i) (omega (arith, within))))
    (λ u (i, within, at). below u (suc i, omega (arith, within), at)) k (omega (arith, inside)))

-- each number is at least as great as its place
at_least : (xs : List ℕ) → IsStrictlyIncreasing xs → (k : ℕ) → k < length xs → k ≤ get_or xs k 0
at_least xs rising zero inside = omega arith
at_least xs rising (suc k) inside =
    let next : k + 1 ≡ suc k = omega arith in
    let earlier = at_least xs rising k (omega (arith, inside)) in
    let more : get_or xs k 0 < get_or xs (suc k) 0 = subst (λ m. get_or xs k 0 < get_or xs m 0) next (rising k (omega (arith, inside))) in
    omega (arith, earlier, more)

-- rising numbers below n are no more than n
pub few_from_rising : (xs : List ℕ) (n : ℕ) → IsStrictlyIncreasing xs → ((x : ℕ) → Contains xs x → x < n) → length xs ≤ n
few_from_rising [] n rising below = omega arith
few_from_rising (x ∷ xs) n rising below =
    let last = at_least (x ∷ xs) rising (length xs) (omega arith) in
    let low = below (get_or (x ∷ xs) (length xs) 0) (Contains-get_or (x ∷ xs) (length xs) 0 (omega arith)) in
    omega (arith, last, low)

-- a spawn that answers a name makes a vertex
pub made-spawned : (g : ProtectionGraph) (x : ℕ) (label : RightSet) (law : Law) (state : List ℕ) (name : ℕ) → answer_of g x (Spawn label law state) ≡ Name name → (step g x (Spawn label law state)).made ≡ g.made + 1
made-spawned g x label law state name answer = let next = name_is_next g x (Spawn label law state) name answer in next.1 ∙ ap (λ n. n + 1) next.0

-- ---- by a command

-- who is a subject after a command was one before it
pub subject_before : (subjects : List ℕ) (x : ℕ) (command : Command) (y : ℕ) → Contains (subjects_after subjects x command) y → Contains subjects y
subject_before subjects x Retire s is = before_without subjects x s is
subject_before subjects x command s is = is

pub rising_after : (subjects : List ℕ) (x : ℕ) (command : Command) → IsStrictlyIncreasing subjects → IsStrictlyIncreasing (subjects_after subjects x command)
rising_after subjects x Retire rising = IsStrictlyIncreasing-filter (λ s. not (s == x)) subjects rising
rising_after subjects x command rising = rising

pub few_after : (subjects : List ℕ) (x : ℕ) (command : Command) → length (subjects_after subjects x command) ≤ length subjects
few_after subjects x Retire = length-without subjects x
few_after subjects x command = omega arith
