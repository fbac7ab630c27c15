-- Texts of sets of rights, as they are read.
--
-- All is proved over any list of rights whose letters differ, by going through the list; that the letters of `all_rights`
-- differ is computed.
use Rattle.std.proofs.Common.{◌≡◌, ◌∙◌, sym, ap, ap₂, ℕ, ◌≤◌, ◌==◌, length, arith, length-append, Bool, true, false, ◌&&◌, ◌||◌, not, List, [], ◌∷◌, ◌++◌, Some, None, refl}
use Rattle.std.proofs.lemmas.Bool.Decides.{Decides-eqb}
use Rattle.tg_rights.specs.RightSet.{RightSet, has, set_where, is_right, all_rights, letters_in, text_of, text_bound, letter_of, letter_if, add_if, no_rights}
use Rattle.tg_rights.specs.Inner.RightText.{strip_first, strip_letter, read_in, read_of}
use Rattle.tg_rights.specs.declared.Right.{Right}
use Rattle.tg_rights.specs.declared.Right.TheVariants.{R, W, T, G, A, L, U, V}
use Rattle.tg_rights.proofs.RightLaws.{has-set_where, same_rights}

-- ---- rights that a list doesn't have

-- no right of the list has this one's letter
abbrev pub is_fresh : Right → List Right → Bool
is_fresh x [] = true
is_fresh x (y ∷ ys) = not (is_right y x) && is_fresh x ys

abbrev pub are_distinct : List Right → Bool
are_distinct [] = true
are_distinct (x ∷ xs) = is_fresh x xs && are_distinct xs

-- the set has none of the rights of the list
abbrev pub Lacks : RightSet → List Right → Type 0
Lacks s [] = Unit {0}
Lacks s (x ∷ xs) = (has s x ≡ false) × Lacks s xs

not_true : (x : Bool) → not x ≡ true → x ≡ false
not_true true h = sym h
not_true false h = refl

and_first : (x y : Bool) → x && y ≡ true → x ≡ true
and_first true y h = refl
and_first false y h = h

and_second : (x y : Bool) → x && y ≡ true → y ≡ true
and_second true y h = h
and_second false true h = refl
and_second false false h = h

itself : (n : ℕ) → (n == n) ≡ true
itself n = (Decides-eqb n n).1 refl

-- equality of letters goes both ways
turned : (m n : ℕ) → (m == n) ≡ (n == m)
turned m n = one_answer (m == n) (n == m) (λ e. eq n m (sym (known m n e))) (λ e. eq m n (sym (known n m e)))
  where
    known : (m n : ℕ) → (m == n) ≡ true → m ≡ n
    known m n = (Decides-eqb m n).0

    eq : (m n : ℕ) → m ≡ n → (m == n) ≡ true
    eq m n = (Decides-eqb m n).1

    one_answer : (x y : Bool) → (x ≡ true → y ≡ true) → (y ≡ true → x ≡ true) → x ≡ y
    one_answer true y there back = sym (there refl)
    one_answer false true there back = back refl
    one_answer false false there back = refl

or_none : (x y b : Bool) → y ≡ false → (x || (y && b)) ≡ x
or_none true y b h = refl
or_none false y b h = ap (λ z. z && b) h

or_this : (x y b : Bool) → x ≡ false → y ≡ true → (x || (y && b)) ≡ b
or_this x y b h k = ap₂ (λ z c. z || (c && b)) h k

-- a right that is added is there then, and every other right is as it was
has-added : (s : RightSet) (b : Bool) (x : Right) → has s x ≡ false → has (add_if s b x) x ≡ b
has-added s b x none = has-set_where (λ y. has s y || (is_right y x && b)) x ∙ or_this (has s x) _ b none (itself (letter_of x))

has-other : (s : RightSet) (b : Bool) (x y : Right) → not (is_right y x) ≡ true → has (add_if s b x) y ≡ has s y
has-other s b x y apart =
    has-set_where (λ y. has s y || (is_right y x && b)) y ∙ or_none (has s y) _ b (not_true (is_right y x) apart)

Lacks-added : (s : RightSet) (b : Bool) (x : Right) (xs : List Right) → is_fresh x xs ≡ true → Lacks s xs → Lacks (add_if s b x) xs
Lacks-added s b x [] fresh none = tt
Lacks-added s b x (y ∷ ys) fresh none = (
  has-other s b x y (and_first _ (is_fresh x ys) fresh) ∙ none.0,
  Lacks-added s b x ys (and_second (not (is_right y x)) _ fresh) none.1,
)

-- ---- the text of a set is read as that set

strip_own : (b : Bool) (letter : ℕ) (rest : List ℕ) → strip_letter letter rest ≡ (false, rest) → strip_letter letter (letter_if b letter ++ rest) ≡ (b, rest)
strip_own true letter rest none = ap (λ t. strip_first t letter rest) (itself letter)
strip_own false letter rest none = none

strip_other : (b : Bool) (letter other : ℕ) (rest : List ℕ) → not (other == letter) ≡ true → strip_letter letter rest ≡ (false, rest) → strip_letter letter (letter_if b other ++ rest) ≡ (false, letter_if b other ++ rest)
strip_other true letter other rest apart none = ap (λ t. strip_first t other rest) (not_true (other == letter) apart)
strip_other false letter other rest apart none = none

strip_fresh : (s : RightSet) (x : Right) (xs : List Right) → is_fresh x xs ≡ true → strip_letter (letter_of x) (letters_in s xs) ≡ (false, letters_in s xs)
strip_fresh s x [] fresh = refl
strip_fresh s x (y ∷ ys) fresh =
    strip_other (has s y) (letter_of x) (letter_of y) (letters_in s ys) (and_first _ (is_fresh x ys) fresh)
    (strip_fresh s x ys (and_second (not (is_right y x)) _ fresh))

-- the set with those of these rights that s has
add_all : RightSet → RightSet → List Right → RightSet
add_all u s [] = u
add_all u s (x ∷ xs) = add_all (add_if u (has s x) x) s xs

read_letters : (u s : RightSet) (xs : List Right) → are_distinct xs ≡ true → read_in xs u (letters_in s xs) ≡ Some (add_all u s xs)
unfolding add_all
read_letters u s [] distinct = refl
read_letters u s (x ∷ xs) distinct =
    ap (λ (first : Bool × List ℕ). read_in xs (add_if u first.0 x) first.1)
    (strip_own (has s x) (letter_of x) (letters_in s xs) (strip_fresh s x xs (and_first _ (are_distinct xs) distinct)))
    ∙ read_letters (add_if u (has s x) x) s xs (and_second (is_fresh x xs) _ distinct)

all_of : (s : RightSet) → add_all no_rights s all_rights ≡ s
unfolding add_all
all_of s = same_rights (add_all no_rights s all_rights) s each
  where
    seven : (b : Bool) → (((((((b || false) || false) || false) || false) || false) || false) || false) ≡ b
    seven true = refl
    seven false = refl

    six : (b : Bool) → ((((((b || false) || false) || false) || false) || false) || false) ≡ b
    six true = refl
    six false = refl

    five : (b : Bool) → (((((b || false) || false) || false) || false) || false) ≡ b
    five true = refl
    five false = refl

    four : (b : Bool) → ((((b || false) || false) || false) || false) ≡ b
    four true = refl
    four false = refl

    three : (b : Bool) → (((b || false) || false) || false) ≡ b
    three true = refl
    three false = refl

    two : (b : Bool) → ((b || false) || false) ≡ b
    two true = refl
    two false = refl

    one : (b : Bool) → (b || false) ≡ b
    one true = refl
    one false = refl

    each : (x : Right) → has (add_all no_rights s all_rights) x ≡ has s x
    each R = seven s.r
    each W = six s.w
    each T = five s.t
    each G = four s.g
    each A = three s.a
    each L = two s.l
    each U = one s.u
    each V = refl

-- the text of a set is read as that set
pub read_of-text_of : (s : RightSet) → read_of (text_of s) ≡ Some s
read_of-text_of s = read_letters no_rights s all_rights refl ∙ ap Some (all_of s)

-- a text is that of one set
pub text_of-same : (a b : RightSet) → text_of a ≡ text_of b → a ≡ b
text_of-same a b same = some_same (sym (read_of-text_of a) ∙ ap read_of same ∙ read_of-text_of b)
  where
    some_same : Some a ≡ Some b → a ≡ b
    some_same e = cc

length-letter_if : (b : Bool) (letter : ℕ) → length (letter_if b letter) ≤ 1
length-letter_if true letter = omega arith
length-letter_if false letter = omega arith

length-letters_in : (s : RightSet) (xs : List Right) → length (letters_in s xs) ≤ length xs
length-letters_in s [] = omega arith
length-letters_in s (x ∷ xs) =
    let first = letter_if (has s x) (letter_of x) in
    omega (arith, length-append first (letters_in s xs), length-letter_if (has s x) (letter_of x), length-letters_in s xs)

-- a text has at most one letter for each right
pub length-text_of : (s : RightSet) → length (text_of s) ≤ text_bound
length-text_of s = length-letters_in s all_rights

-- ---- only the text of a set is read as that set

-- what was stripped and what is left are the text
join_first : (b : Bool) (letter x : ℕ) (xs : List ℕ) → (b ≡ true → x ≡ letter) → letter_if (strip_first b x xs).0 letter ++ (strip_first b x xs).1 ≡ x ∷ xs
join_first true letter x xs same = ap (λ k. k ∷ xs) (sym (same refl))
join_first false letter x xs same = refl

join_letter : (letter : ℕ) (xs : List ℕ) → letter_if (strip_letter letter xs).0 letter ++ (strip_letter letter xs).1 ≡ xs
join_letter letter [] = refl
join_letter letter (x ∷ xs) = join_first (x == letter) letter x xs (Decides-eqb x letter).0

-- what was read is what the set had before, and the rights of the list whose letters are in the text
record IsReadIn (xs : List Right) (s : RightSet) (text : List ℕ) (found : RightSet) : Type 0 where
  letters : letters_in found xs ≡ text
  others : (y : Right) → is_fresh y xs ≡ true → has found y ≡ has s y

read_in-some : (xs : List Right) (s : RightSet) (text : List ℕ) (found : RightSet) → are_distinct xs ≡ true → Lacks s xs → read_in xs s text ≡ Some found → IsReadIn xs s text found
read_in-some [] s [] found distinct none read =
    let same : s ≡ found = cc in record { letters = refl; others = λ y fresh. ap (λ s. has s y) (sym same) }
read_in-some [] s (letter ∷ text) found distinct none read = let no : ⊥ = cc in absurd no
read_in-some (x ∷ xs) s text found distinct none read =
    let first = strip_letter (letter_of x) text in
    let fresh : is_fresh x xs ≡ true = and_first (is_fresh x xs) _ distinct in
    let more = read_in-some xs (add_if s first.0 x) first.1 found (and_second (is_fresh x xs) _ distinct) (Lacks-added s first.0 x xs fresh none.1) read in
    let own : has found x ≡ first.0 = more.others x fresh ∙ has-added s first.0 x none.0 in
    record {
      letters =
          ap₂ (λ b rest. letter_if b (letter_of x) ++ rest) own more.letters ∙ join_letter (letter_of x) text;
      others =
          λ y fresh_y.
          more.others y (and_second (not (is_right x y)) _ fresh_y)
          ∙ has-other s first.0 x y (ap not (turned (letter_of y) (letter_of x)) ∙ and_first _ (is_fresh y xs) fresh_y);
    }

pub text_of-read_of : (text : List ℕ) (s : RightSet) → read_of text ≡ Some s → text_of s ≡ text
text_of-read_of text s read =
    (read_in-some all_rights no_rights text s refl (refl, (refl, (refl, (refl, (refl, (refl, (refl, (refl, tt)))))))) read).letters

-- ---- what the code does, letter by letter

-- where the right isn't held the set is as it was
pub add_if-not : (s : RightSet) (held : Bool) (x : Right) → held ≡ false → s ≡ add_if s held x
add_if-not s held x none =
    (λ i. set_where (λ y. or_nothing (has s y) (is_right y x) i)) ∙ ap (λ b. add_if s b x) (sym none)
  where
    or_nothing : (b c : Bool) → b ≡ (b || (c && false))
    or_nothing true c = refl
    or_nothing false true = refl
    or_nothing false false = refl

-- where no text is left the reading ends, and elsewhere it fails
pub read_in-end : (s : RightSet) (text : List ℕ) → text ≡ [] → read_in [] s text ≡ Some s
read_in-end s text none = ap (read_in [] s) none

pub read_in-more : (s : RightSet) (text : List ℕ) → (text ≡ [] → ⊥) → read_in [] s text ≡ None
read_in-more s [] some = absurd (some refl)
read_in-more s (letter ∷ text) some = refl
