-- Lists of references: what they say of a name, and what one more reference changes.
use Rattle.std.proofs.Common.{◌≡◌, ◌≢◌, ℕ, ◌⊎◌, inl, inr, true, false, cond, not, ◌&&◌, ◌==◌, if◌then◌else◌, List, [], ◌∷◌, ◌++◌, map, refl, sym, ap, subst, ◌∙◌, ⊎_elim}
use Rattle.std.specs.List.{All, IsDistinct, AllByRecursion, filter}
use Rattle.std.proofs.lemmas.Bool.{cases_Bool, eqb-false}
use Rattle.std.proofs.lemmas.Bool.Decides.{eqb_tells}
use Rattle.std.proofs.lemmas.List.{append-nil, map-append}
use Rattle.std.proofs.lemmas.List.Elements.{All-nil, All-cons, All-head, All-tail, All-append, All-weaker, All-from_recursion, recursion_from_All, filter-append}
use Rattle.std.proofs.lemmas.Map.Keys.{IsDistinct-head, IsDistinct-tail, IsDistinct-cons}
use Rattle.tg_rights.specs.RightSet.{RightSet, is_none_held, no_rights}
use Rattle.tg_word.specs.Word.{rights_in}
use Rattle.tg_space.specs.SpaceList.{SpaceList}
use Rattle.tg_space.specs.Soundness.{IsReference}
use Rattle.tg_rows.specs.Rows.{name_in, names_in, rights_to}
use Rattle.tg_rows.proofs.Members.{All-left, All-right}

-- ---- distinct numbers

abbrev IsApart : List ℕ → Type 0
IsApart ns = IsDistinct (λ a b. a == b) ns

apart_head : (n : ℕ) (ns : List ℕ) → All (λ m. m ≢ n) ns → AllByRecursion (λ m. (n == m) ≡ false) ns
apart_head n ns all =
    recursion_from_All (λ m. (n == m) ≡ false) ns
    (All-weaker (λ m. m ≢ n) (λ m. (n == m) ≡ false) (λ m ne. ⊎_elim (λ t. absurd (ne (sym t.1))) (λ f. f.0) (eqb_tells n m)) ns all)

head_apart : (n : ℕ) (ns : List ℕ) → AllByRecursion (λ m. (n == m) ≡ false) ns → All (λ m. m ≢ n) ns
head_apart n ns all =
    All-weaker (λ m. (n == m) ≡ false) (λ m. m ≢ n) (λ m f e. eqb-false n m f (sym e)) ns
    (All-from_recursion (λ m. (n == m) ≡ false) ns all)

-- one more number among distinct ones, and one fewer
put_apart : (ns ms : List ℕ) (n : ℕ) → All (λ m. m ≢ n) (ns ++ ms) → IsApart (ns ++ ms) → IsApart (ns ++ n ∷ ms)
put_apart [] ms n others apart = IsDistinct-cons (λ a b. a == b) n ms (apart_head n ms others) apart
put_apart (a ∷ ns) ms n others apart =
    let first = head_apart a (ns ++ ms) (IsDistinct-head (λ x y. x == y) a (ns ++ ms) apart) in
    let differ : n ≢ a = λ e. All-head (λ m. m ≢ n) a (ns ++ ms) others (sym e) in
    let more = All-append (λ m. m ≢ a) ns (n ∷ ms) (All-left (λ m. m ≢ a) ns ms first) (All-cons (λ m. m ≢ a) n ms differ (All-right (λ m. m ≢ a) ns ms first)) in
    IsDistinct-cons (λ x y. x == y) a (ns ++ n ∷ ms) (apart_head a (ns ++ n ∷ ms) more)
    (put_apart ns ms n (All-tail (λ m. m ≢ n) a (ns ++ ms) others) (IsDistinct-tail (λ x y. x == y) a (ns ++ ms) apart))

taken_apart : (ns ms : List ℕ) (n : ℕ) → IsApart (ns ++ n ∷ ms) → All (λ m. m ≢ n) (ns ++ ms) × IsApart (ns ++ ms)
taken_apart [] ms n apart =
    (head_apart n ms (IsDistinct-head (λ x y. x == y) n ms apart), IsDistinct-tail (λ x y. x == y) n ms apart)
taken_apart (a ∷ ns) ms n apart =
    let first = head_apart a (ns ++ n ∷ ms) (IsDistinct-head (λ x y. x == y) a (ns ++ n ∷ ms) apart) in
    let rest = taken_apart ns ms n (IsDistinct-tail (λ x y. x == y) a (ns ++ n ∷ ms) apart) in
    let right = All-right (λ m. m ≢ a) ns (n ∷ ms) first in
    let fewer = All-append (λ m. m ≢ a) ns ms (All-left (λ m. m ≢ a) ns (n ∷ ms) first) (All-tail (λ m. m ≢ a) n ms right) in
    let differ : a ≢ n = λ e. All-head (λ m. m ≢ a) n ms right (sym e) in
    (All-cons (λ m. m ≢ n) a (ns ++ ms) differ rest.0, IsDistinct-cons (λ x y. x == y) a (ns ++ ms) (apart_head a (ns ++ ms) fewer) rest.1)

-- ---- references

-- the word doesn't refer to the name
abbrev pub IsOther : SpaceList → ℕ → ℕ → Type 0
IsOther h name word = word ≢ 0 → name_in h word ≢ name

module _ (h : SpaceList) where
  pub names_in-append : (xs ys : List ℕ) → names_in h (xs ++ ys) ≡ names_in h xs ++ names_in h ys
  names_in-append xs ys =
      ap (map (name_in h)) (filter-append (λ (word : ℕ). not (word == 0)) xs ys) ∙ map-append (name_in h) (filter (λ (word : ℕ). not (word == 0)) xs) (filter (λ (word : ℕ). not (word == 0)) ys)

  pub names_in-some : (word : ℕ) (words : List ℕ) → word ≢ 0 → names_in h (word ∷ words) ≡ name_in h word ∷ names_in h words
  names_in-some word words some =
      let test : (word == 0) ≡ false = ⊎_elim (λ t. absurd (some t.1)) (λ f. f.0) (eqb_tells word 0) in rw test refl

  pub names_in-zero : (xs ys : List ℕ) → names_in h (xs ++ 0 ∷ ys) ≡ names_in h (xs ++ ys)
  names_in-zero xs ys = names_in-append xs (0 ∷ ys) ∙ sym (names_in-append xs ys)

  -- a test of a word, for a name
  other_test : (name word : ℕ) → IsOther h name word → (not (word == 0) && (name_in h word == name)) ≡ false
  other_test name word other = by_tests (eqb_tells word 0) (eqb_tells (name_in h word) name)
    where
      by_tests : (((word == 0) ≡ true) × (word ≡ 0)) ⊎ (((word == 0) ≡ false) × (word ≢ 0)) → (((name_in h word == name) ≡ true) × (name_in h word ≡ name)) ⊎ (((name_in h word == name) ≡ false) × (name_in h word ≢ name)) → (not (word == 0) && (name_in h word == name)) ≡ false
      by_tests (inl z) _ = rw (z.0) refl
      by_tests (inr some) (inl same) = absurd (other some.1 same.1)
      by_tests (inr some) (inr differ) = rw (some.0, differ.0) refl

  pub same_test : (name word : ℕ) → word ≢ 0 → name_in h word ≡ name → (not (word == 0) && (name_in h word == name)) ≡ true
  same_test name word some same =
      let one : (word == 0) ≡ false = ⊎_elim (λ t. absurd (some t.1)) (λ f. f.0) (eqb_tells word 0) in
      let two : (name_in h word == name) ≡ true = ⊎_elim (λ t. t.0) (λ f. absurd (f.1 same)) (eqb_tells (name_in h word) name) in
      rw (one, two) refl

  pub rights_past : (name : ℕ) (xs ys : List ℕ) → All (IsOther h name) xs → rights_to h name (xs ++ ys) ≡ rights_to h name ys
  rights_past name [] ys others = refl
  rights_past name (x ∷ xs) ys others =
      let test = other_test name x (All-head (IsOther h name) x xs others) in
      rw test (rights_past name xs ys (All-tail (IsOther h name) x xs others))

  pub rights_none : (name : ℕ) (xs : List ℕ) → All (IsOther h name) xs → rights_to h name xs ≡ no_rights
  rights_none name [] others = refl
  rights_none name (x ∷ xs) others =
      let test = other_test name x (All-head (IsOther h name) x xs others) in
      rw test (rights_none name xs (All-tail (IsOther h name) x xs others))

  pub rights_at : (name word : ℕ) (xs ys : List ℕ) → All (IsOther h name) xs → word ≢ 0 → name_in h word ≡ name → rights_to h name (xs ++ word ∷ ys) ≡ rights_in word
  rights_at name word xs ys others some same =
      let test = same_test name word some same in
      rights_past name xs (word ∷ ys) others ∙ rw test refl

  -- a word that doesn't refer to the name may be left out
  pub rights_skip : (name word : ℕ) (xs ys : List ℕ) → IsOther h name word → rights_to h name (xs ++ word ∷ ys) ≡ rights_to h name (xs ++ ys)
  rights_skip name word [] ys other = let test = other_test name word other in rw test refl
  rights_skip name word (x ∷ xs) ys other =
      ap (λ (r : RightSet). cond (not (x == 0) && (name_in h x == name)) (rights_in x) r) (rights_skip name word xs ys other)

  pub rights_zero : (name : ℕ) (xs ys : List ℕ) → rights_to h name (xs ++ 0 ∷ ys) ≡ rights_to h name (xs ++ ys)
  rights_zero name xs ys = rights_skip name 0 xs ys (λ some. absurd (some refl))

  pub others_from_none : (name : ℕ) (xs : List ℕ) → All (IsReference h) xs → is_none_held (rights_to h name xs) ≡ true → All (IsOther h name) xs
  others_from_none name [] references none = All-nil (IsOther h name)
  others_from_none name (x ∷ xs) references none =
      by_test (cases_Bool (not (x == 0) && (name_in h x == name))) (All-head (IsReference h) x xs references) (others_from_none name xs (All-tail (IsReference h) x xs references))
    where
      by_test : ((not (x == 0) && (name_in h x == name)) ≡ true) ⊎ ((not (x == 0) && (name_in h x == name)) ≡ false) → IsReference h x → (is_none_held (rights_to h name xs) ≡ true → All (IsOther h name) xs) → All (IsOther h name) (x ∷ xs)
      by_test (inl t) (inl z) rest =
          let no : false ≡ true = subst (λ (w : ℕ). (not (w == 0) && (name_in h w == name)) ≡ true) z t in absurd cc
      by_test (inl t) (inr refers) rest =
          let held : is_none_held (rights_in x) ≡ true = rw t at none in
          let no : false ≡ true = sym refers.rights ∙ held in absurd cc
      by_test (inr f) _ rest =
          All-cons (IsOther h name) x xs (λ some same. let t = same_test name x some same in let no : true ≡ false = sym t ∙ f in absurd cc) (rest (rw f at none))

  -- the names of a list, and whether one is among them
  others_from_names : (name : ℕ) (xs : List ℕ) → All (λ m. m ≢ name) (names_in h xs) → All (IsOther h name) xs
  others_from_names name [] all = All-nil (IsOther h name)
  others_from_names name (x ∷ xs) all = by_test (eqb_tells x 0) (others_from_names name xs)
    where
      by_test : (((x == 0) ≡ true) × (x ≡ 0)) ⊎ (((x == 0) ≡ false) × (x ≢ 0)) → (All (λ m. m ≢ name) (names_in h xs) → All (IsOther h name) xs) → All (IsOther h name) (x ∷ xs)
      by_test (inl z) rest = All-cons (IsOther h name) x xs (λ some. absurd (some z.1)) (rest (rw (z.0) at all))
      by_test (inr some) rest =
          let both : All (λ m. m ≢ name) (name_in h x ∷ names_in h xs) = subst (All (λ m. m ≢ name)) (names_in-some x xs some.1) all in
          All-cons (IsOther h name) x xs (λ _. All-head (λ m. m ≢ name) (name_in h x) (names_in h xs) both) (rest (All-tail (λ m. m ≢ name) (name_in h x) (names_in h xs) both))

  names_from_others : (name : ℕ) (xs : List ℕ) → All (IsOther h name) xs → All (λ m. m ≢ name) (names_in h xs)
  names_from_others name [] all = All-nil (λ m. m ≢ name)
  names_from_others name (x ∷ xs) all =
      by_test (eqb_tells x 0) (All-head (IsOther h name) x xs all) (names_from_others name xs (All-tail (IsOther h name) x xs all))
    where
      by_test : (((x == 0) ≡ true) × (x ≡ 0)) ⊎ (((x == 0) ≡ false) × (x ≢ 0)) → IsOther h name x → All (λ m. m ≢ name) (names_in h xs) → All (λ m. m ≢ name) (names_in h (x ∷ xs))
      by_test (inl z) other rest = rw (z.0) rest
      by_test (inr some) other rest =
          subst (All (λ m. m ≢ name)) (sym (names_in-some x xs some.1)) (All-cons (λ m. m ≢ name) (name_in h x) (names_in h xs) (other some.1) rest)

  -- one more reference in a list, and one fewer
  module _ (xs ys : List ℕ) (word : ℕ) (some : word ≢ 0) where
    names_with : names_in h (xs ++ word ∷ ys) ≡ names_in h xs ++ name_in h word ∷ names_in h ys
    names_with =
        names_in-append xs (word ∷ ys) ∙ ap (λ (ns : List ℕ). names_in h xs ++ ns) (names_in-some word ys some)

    pub put_distinct : All (IsOther h (name_in h word)) (xs ++ ys) → IsDistinct (λ a b. a == b) (names_in h (xs ++ ys)) → IsDistinct (λ a b. a == b) (names_in h (xs ++ word ∷ ys))
    put_distinct others apart =
        let parts = names_in-append xs ys in
        let all : All (λ m. m ≢ name_in h word) (names_in h xs ++ names_in h ys) = subst (All (λ m. m ≢ name_in h word)) parts (names_from_others (name_in h word) (xs ++ ys) others) in
        subst (IsDistinct (λ a b. a == b)) (sym names_with) (put_apart (names_in h xs) (names_in h ys) (name_in h word) all (subst (IsDistinct (λ a b. a == b)) parts apart))

    pub taken_distinct : IsDistinct (λ a b. a == b) (names_in h (xs ++ word ∷ ys)) → IsDistinct (λ a b. a == b) (names_in h (xs ++ ys))
    taken_distinct apart =
        subst (IsDistinct (λ a b. a == b)) (sym (names_in-append xs ys)) (taken_apart (names_in h xs) (names_in h ys) (name_in h word) (subst (IsDistinct (λ a b. a == b)) names_with apart)).1

    pub taken_others : IsDistinct (λ a b. a == b) (names_in h (xs ++ word ∷ ys)) → All (IsOther h (name_in h word)) (xs ++ ys)
    taken_others apart =
        others_from_names (name_in h word) (xs ++ ys)
        (subst (All (λ m. m ≢ name_in h word)) (sym (names_in-append xs ys)) (taken_apart (names_in h xs) (names_in h ys) (name_in h word) (subst (IsDistinct (λ a b. a == b)) names_with apart)).0)

    pub put_rights : All (IsOther h (name_in h word)) (xs ++ ys) → (name : ℕ) → rights_to h name (xs ++ word ∷ ys) ≡ (if name == name_in h word then rights_in word else rights_to h name (xs ++ ys))
    put_rights others name = by_name (eqb_tells name (name_in h word))
      where
        by_name : (((name == name_in h word) ≡ true) × (name ≡ name_in h word)) ⊎ (((name == name_in h word) ≡ false) × (name ≢ name_in h word)) → rights_to h name (xs ++ word ∷ ys) ≡ (if name == name_in h word then rights_in word else rights_to h name (xs ++ ys))
        by_name (inl same) =
            rw (same.0) (rights_at name word xs ys (subst (λ (n : ℕ). All (IsOther h n) xs) (sym same.1) (All-left (IsOther h (name_in h word)) xs ys others)) some (sym same.1))
        by_name (inr differ) = rw (differ.0) (rights_skip name word xs ys (λ _ e. differ.1 (sym e)))

-- ---- what a change of one reference does to a list

-- the new references refer to each vertex at most once, and give the old rights but for those over one name
pub record Puts (h : SpaceList) (old new : List ℕ) (name : ℕ) (rights : RightSet) : Type 0 where
  pub distinct : IsDistinct (λ a b. a == b) (names_in h new)
  pub gives : (y : ℕ) → rights_to h y new ≡ (if y == name then rights else rights_to h y old)

module _ (h : SpaceList) (xs ys : List ℕ) (word : ℕ) (some : word ≢ 0) where
  -- an empty place gets a reference
  pub puts_filled : All (IsOther h (name_in h word)) (xs ++ 0 ∷ ys) → IsDistinct (λ a b. a == b) (names_in h (xs ++ 0 ∷ ys)) → Puts h (xs ++ 0 ∷ ys) (xs ++ word ∷ ys) (name_in h word) (rights_in word)
  puts_filled others apart =
      let fewer = All-append (IsOther h (name_in h word)) xs ys (All-left (IsOther h (name_in h word)) xs (0 ∷ ys) others) (All-tail (IsOther h (name_in h word)) 0 ys (All-right (IsOther h (name_in h word)) xs (0 ∷ ys) others)) in
      record {
        distinct = put_distinct h xs ys word some fewer (subst (IsDistinct (λ a b. a == b)) (names_in-zero h xs ys) apart);
        gives = λ y. put_rights h xs ys word some fewer y ∙ ap (λ (r : RightSet). cond (y == name_in h word) (rights_in word) r) (sym (rights_zero h y xs ys));
      }

  -- a reference goes
  pub puts_cleared : IsDistinct (λ a b. a == b) (names_in h (xs ++ word ∷ ys)) → Puts h (xs ++ word ∷ ys) (xs ++ 0 ∷ ys) (name_in h word) no_rights
  puts_cleared apart = record {
    distinct = subst (IsDistinct (λ a b. a == b)) (sym (names_in-zero h xs ys)) (taken_distinct h xs ys word some apart);
    gives = λ y. rights_zero h y xs ys ∙ by_name y (eqb_tells y (name_in h word));
  }
    where
      by_name : (y : ℕ) → (((y == name_in h word) ≡ true) × (y ≡ name_in h word)) ⊎ (((y == name_in h word) ≡ false) × (y ≢ name_in h word)) → rights_to h y (xs ++ ys) ≡ (if y == name_in h word then no_rights else rights_to h y (xs ++ word ∷ ys))
      by_name y (inl same) =
          rw (same.0) (rights_none h y (xs ++ ys) (subst (λ (n : ℕ). All (IsOther h n) (xs ++ ys)) (sym same.1) (taken_others h xs ys word some apart)))
      by_name y (inr differ) = rw (differ.0) (sym (rights_skip h y word xs ys (λ _ e. differ.1 (sym e))))

  -- a reference is replaced by one to the same vertex
  pub puts_changed : (other : ℕ) → other ≢ 0 → name_in h other ≡ name_in h word → IsDistinct (λ a b. a == b) (names_in h (xs ++ word ∷ ys)) → Puts h (xs ++ word ∷ ys) (xs ++ other ∷ ys) (name_in h other) (rights_in other)
  puts_changed other some_other same apart =
      let others = subst (λ (n : ℕ). All (IsOther h n) (xs ++ ys)) (sym same) (taken_others h xs ys word some apart) in
      record {
        distinct = put_distinct h xs ys other some_other others (taken_distinct h xs ys word some apart);
        gives = λ y. put_rights h xs ys other some_other others y ∙ by_name y (eqb_tells y (name_in h other));
      }
    where
      by_name : (y : ℕ) → (((y == name_in h other) ≡ true) × (y ≡ name_in h other)) ⊎ (((y == name_in h other) ≡ false) × (y ≢ name_in h other)) →
          (if y == name_in h other then rights_in other else rights_to h y (xs ++ ys)) ≡ (if y == name_in h other then rights_in other else rights_to h y (xs ++ word ∷ ys))
      by_name y (inl same_name) = rw (same_name.0) refl
      by_name y (inr differ) = rw (differ.0) (sym (rights_skip h y word xs ys (λ _ e. differ.1 (sym e ∙ sym same))))

-- empty places at the end say nothing
module _ (h : SpaceList) where
  pub names_empties : (xs zs : List ℕ) → All (λ z. z ≡ 0) zs → names_in h (xs ++ zs) ≡ names_in h xs
  names_empties xs [] all = ap (names_in h) (append-nil xs)
  names_empties xs (z ∷ zs) all =
      ap (λ (w : ℕ). names_in h (xs ++ w ∷ zs)) (All-head (λ w. w ≡ 0) z zs all) ∙ names_in-zero h xs zs ∙ names_empties xs zs (All-tail (λ w. w ≡ 0) z zs all)

  pub rights_empties : (xs zs : List ℕ) → All (λ z. z ≡ 0) zs → (y : ℕ) → rights_to h y (xs ++ zs) ≡ rights_to h y xs
  rights_empties xs [] all y = ap (rights_to h y) (append-nil xs)
  rights_empties xs (z ∷ zs) all y =
      ap (λ (w : ℕ). rights_to h y (xs ++ w ∷ zs)) (All-head (λ w. w ≡ 0) z zs all) ∙ rights_zero h y xs zs ∙ rights_empties xs zs (All-tail (λ w. w ≡ 0) z zs all) y

  others_empties : (name : ℕ) (xs zs : List ℕ) → All (IsOther h name) xs → All (λ z. z ≡ 0) zs → All (IsOther h name) (xs ++ zs)
  others_empties name xs zs others all =
      All-append (IsOther h name) xs zs others (All-weaker (λ z. z ≡ 0) (IsOther h name) (λ z e some. absurd (some e)) zs all)

  -- references are put at the end, the first to a new vertex and the rest empty
  pub puts_appended : (xs zs : List ℕ) (word : ℕ) → word ≢ 0 → All (λ z. z ≡ 0) zs → All (IsOther h (name_in h word)) xs → IsDistinct (λ a b. a == b) (names_in h xs) → Puts h xs (xs ++ word ∷ zs) (name_in h word) (rights_in word)
  puts_appended xs zs word some all others apart =
      let others' = others_empties (name_in h word) xs zs others all in
      record {
        distinct = put_distinct h xs zs word some others' (subst (IsDistinct (λ a b. a == b)) (sym (names_empties xs zs all)) apart);
        gives = λ y. put_rights h xs zs word some others' y ∙ ap (λ (r : RightSet). cond (y == name_in h word) (rights_in word) r) (rights_empties xs zs all y);
      }
