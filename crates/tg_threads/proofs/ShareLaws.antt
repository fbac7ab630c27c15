-- Who runs a line, and the lines that each session is given.
use Rattle.std.proofs.Common.{◌≡◌, ◌≢◌, ◌<◌, ◌≤◌, ◌+◌, ◌==◌, ℕ, Bool, zero, suc, true, false, cond, List, [], ◌∷◌, ◌++◌, length, map, get_or, set, drop, Option, Some, None, refl, sym, ap, ◌∙◌, subst, arith, eq-eqb, ne_eqb, eqb-true, append-nil, append_assoc, ⊎_elim}
use Rattle.std.specs.Prelude.{option_map, slice_index}
use Rattle.std.specs.List.{All, AllWithin}
use Rattle.std.specs.Option.{option_map_or}
use Rattle.std.proofs.lemmas.List.{at_drop_all, drop_more, flat_map_more, length-map, length-set, get_or-map, get_or-set_same, get_or-set_other, map-append, map-set}
use Rattle.std.proofs.lemmas.Bool.{cases_eq}
use Rattle.std.proofs.lemmas.Option.{same_Some}
use Rattle.std.proofs.lemmas.List.Elements.{All-head, All-tail, filter-append}
use Rattle.std.proofs.lemmas.List.FromFn.{fill_by_all}
use Rattle.tg_text.specs.declared.line.Line.{Line}
use Rattle.tg_text.specs.declared.line.Line.TheVariants as line
use Rattle.tg_model.specs.declared.value.Value.{Value}
use Rattle.tg_threads.specs.Boxes.{Boxed, box_of, boxed, boxed_of, stock_behind}
use Rattle.tg_threads.specs.declared.task.Task.{Task}
use Rattle.tg_threads.specs.declared.work.Finished.{Finished}
use Rattle.tg_threads.specs.Shares.{is_among, thread_of, runner_of, is_run_by, share_of, all_shares, all_sessions, sessions_in}

pub map_push : {X Y : Type 0} (f : X → Y) (xs : List X) (x : X) → map f (xs ++ x ∷ []) ≡ map f xs ++ f x ∷ []
map_push f xs x = map-append f xs (x ∷ [])

-- one more came of what was left
pub one_more : {X : Type 0} (yielded rest left all : List X) (x : X) → left ≡ x ∷ rest → yielded ++ left ≡ all → (yielded ++ x ∷ []) ++ rest ≡ all
one_more {X} yielded rest left all x is was = append_assoc yielded (x ∷ []) rest ∙ ap (λ (l : List X). yielded ++ l) (sym is) ∙ was

-- nothing is left, so what came is all
pub all_came : {X : Type 0} (yielded rest all : List X) → yielded ++ rest ≡ all → length rest ≡ 0 → yielded ≡ all
all_came yielded [] all was none = sym (append-nil yielded) ∙ was
all_came yielded (x ∷ rest) all was none = absurd (omega (arith, none))

-- ---- the lines with their boxes

-- as many as they are made of
pub as_many : {X Y : Type 0} (f : X → Y) (xs : List X) (ys : List Y) → map f xs ≡ ys → length xs ≡ length ys
as_many {X} {Y} f xs ys is = sym (length-map xs f) ∙ ap (λ (l : List Y). length l) is

-- one line more has its box
pub boxed_more : {P : Type 0} (whole : List Boxed) (tasks now : List (Task P)) (task : Task P) (left then : List Value) (lines : List Line) (i : ℕ) (l : Line) → i < length lines → l ≡ get_or lines i l →
    whole ≡ map boxed_of tasks ++ boxed left (drop i lines) → boxed_of task ≡ record { line = l; value = box_of left l } → then ≡ stock_behind left l → now ≡ tasks ++ task ∷ [] →
    whole ≡ map boxed_of now ++ boxed then (drop (i + 1) lines)
boxed_more {P} whole tasks now task left then lines i l inside is was box behind more =
    let rest : List Line = drop (i + 1) lines in
    was ∙ ap (λ (ls : List Line). map boxed_of tasks ++ boxed left ls) (drop_more lines i l inside ∙ ap (λ (x : Line). x ∷ rest) (sym is))
    ∙ ap (λ (b : Boxed). map boxed_of tasks ++ b ∷ boxed (stock_behind left l) rest) (sym box)
    ∙ ap (λ (vs : List Value). map boxed_of tasks ++ boxed_of task ∷ boxed vs rest) (sym behind)
    ∙ sym (append_assoc (map boxed_of tasks) (boxed_of task ∷ []) (boxed then rest))
    ∙ ap (λ (bs : List Boxed). bs ++ boxed then rest) (sym (ap (λ (ts : List (Task P)). map boxed_of ts) more ∙ map_push boxed_of tasks task))

-- and no line is left
pub boxed_all : {P : Type 0} (whole : List Boxed) (tasks : List (Task P)) (left : List Value) (lines : List Line) (i : ℕ) → length lines ≤ i →
    whole ≡ map boxed_of tasks ++ boxed left (drop i lines) → map boxed_of tasks ≡ whole
boxed_all {P} whole tasks left lines i ends was =
    sym (was ∙ at_drop_all (λ (ls : List Line). map boxed_of tasks ++ boxed left ls) lines i ends ∙ append-nil (map boxed_of tasks))

-- one worker more brought its sessions
pub sessions_more : {S : Type 0} (yielded : List (Finished S)) (one : Finished S) (sessions then now : List S) → sessions ≡ all_sessions yielded → then ≡ sessions ++ one.session ∷ [] →
    now ≡ then ++ one.spawned.items → now ≡ all_sessions (yielded ++ one ∷ [])
sessions_more {S} yielded one sessions then now was first others =
    others ∙ ap (λ (ss : List S). ss ++ one.spawned.items) first ∙ append_assoc sessions (one.session ∷ []) one.spawned.items
    ∙ ap (λ (ss : List S). ss ++ one.session ∷ one.spawned.items) was ∙ flat_map_more sessions_in [] yielded one

-- ---- who has which thread

-- further on in the names
abbrev later : Option ℕ → Option ℕ
later o = option_map (λ k. k + 1) o

later_some : (o : Option ℕ) (k : ℕ) → later o ≡ Some k → (i : ℕ) × (o ≡ Some i) × (k ≡ suc i)
later_some None k h = absurd cc
later_some (Some i) k h = (i, refl, omega (arith, same_Some (i + 1) k h))

later_none : (o : Option ℕ) → later o ≡ None → o ≡ None
later_none None h = refl
later_none (Some i) h = absurd cc

-- the thread of x is the place of its name
pub placed : (names : List ℕ) (x k : ℕ) → thread_of names x ≡ Some k → (k < length names) × (slice_index names k ≡ x)
placed [] x k h = absurd cc
placed (name ∷ names) x k h = by_name (placed names x) (name == x) refl h where
  by_name : ((i : ℕ) → thread_of names x ≡ Some i → (i < length names) × (slice_index names i ≡ x)) → (c : Bool) → (name == x) ≡ c → cond c (Some 0) (later (thread_of names x)) ≡ Some k → (k < suc (length names)) × (slice_index (name ∷ names) k ≡ x)
  by_name rest true is at =
      let first : 0 ≡ k = same_Some 0 k at in
      subst (λ (n : ℕ). (n < suc (length names)) × (slice_index (name ∷ names) n ≡ x)) first (omega arith, eqb-true name x is)
  by_name rest false is at =
      let behind = later_some (thread_of names x) k at in
      let there = rest behind.0 behind.1 in
      subst (λ (n : ℕ). (n < suc (length names)) × (slice_index (name ∷ names) n ≡ x)) (sym behind.2) (omega (arith, there.0), there.1)

-- who has a thread is among the names, and the others aren't
among_some : (o : Option ℕ) → option_map_or (λ (k : ℕ). true) o false ≡ true → (k : ℕ) × (o ≡ Some k)
among_some None h = absurd cc
among_some (Some k) h = (k, refl)

pub threaded : (names : List ℕ) (x : ℕ) → is_among names x ≡ true → (k : ℕ) × (thread_of names x ≡ Some k)
threaded names x h = among_some (thread_of names x) h

pub among : (names : List ℕ) (x k : ℕ) → thread_of names x ≡ Some k → is_among names x ≡ true
among names x k h = ap (λ o. option_map_or (λ (n : ℕ). true) o false) h

pub not_among : (names : List ℕ) (x : ℕ) → thread_of names x ≡ None → is_among names x ≡ false
not_among names x h = ap (λ o. option_map_or (λ (n : ℕ). true) o false) h

among_later : (o : Option ℕ) → option_map_or (λ (k : ℕ). true) (later o) false ≡ option_map_or (λ (k : ℕ). true) o false
among_later None = refl
among_later (Some k) = refl

among_cons : (name x : ℕ) (names : List ℕ) → is_among (name ∷ names) x ≡ cond (name == x) true (is_among names x)
among_cons name x names = by_name (name == x) where
  by_name : (c : Bool) → option_map_or (λ (k : ℕ). true) (cond c (Some 0) (later (thread_of names x))) false ≡ cond c true (is_among names x)
  by_name true = refl
  by_name false = among_later (thread_of names x)

-- each name is
pub among_each : (names : List ℕ) (k : ℕ) → k < length names → is_among names (slice_index names k) ≡ true
among_each [] k low = absurd (omega (arith, low))
among_each (name ∷ names) zero low = among_cons name name names ∙ ap (λ c. cond c true (is_among names name)) (eq-eqb name name refl)
among_each (name ∷ names) (suc k) low =
    let x = slice_index names k in
    among_cons name x names ∙ ap (λ b. cond (name == x) true b) (among_each names k (omega (arith, low))) ∙ either (name == x)
  where
    either : (c : Bool) → cond c true true ≡ true
    either true = refl
    either false = refl

-- the first place of the name is the thread, and no place is none
pub thread_none : (names : List ℕ) (x : ℕ) → AllWithin (λ n. n ≢ x) names 0 (length names) → thread_of names x ≡ None
thread_none [] x none = refl
thread_none (name ∷ names) x none =
    ap (λ c. cond c (Some 0) (later (thread_of names x))) (ne_eqb name x (none 0 0 (omega arith) (omega arith)))
    ∙ ap later (thread_none names x (λ k d low high. none (suc k) d (omega arith) (omega (arith, high))))

pub thread_first : (names : List ℕ) (x k d : ℕ) → k < length names → get_or names k d ≡ x → AllWithin (λ n. n ≢ x) names 0 k → thread_of names x ≡ Some k
thread_first [] x k d low at before = absurd (omega (arith, low))
thread_first (name ∷ names) x zero d low at before = ap (λ c. cond c (Some 0) (later (thread_of names x))) (eq-eqb name x at)
thread_first (name ∷ names) x (suc k) d low at before =
    ap (λ c. cond c (Some 0) (later (thread_of names x))) (ne_eqb name x (before 0 0 (omega arith) (omega arith)))
    ∙ ap later (thread_first names x k d (omega (arith, low)) at (λ j e from upto. before (suc j) e (omega arith) (omega (arith, upto))))
    ∙ ap (λ (n : ℕ). Some n) (let next : k + 1 ≡ suc k = omega arith in next)

-- ---- who runs a line

pub run_same : (names : List ℕ) (x y : ℕ) (l : Line) → runner_of names l ≡ Some y → y ≡ x → is_run_by names x l ≡ true
run_same names x y l by same = ap (λ o. option_map_or (λ z. z == x) o false) by ∙ eq-eqb y x same

pub run_other : (names : List ℕ) (x y : ℕ) (l : Line) → runner_of names l ≡ Some y → y ≢ x → is_run_by names x l ≡ false
run_other names x y l by other = ap (λ o. option_map_or (λ z. z == x) o false) by ∙ ne_eqb y x other

pub run_none : (names : List ℕ) (x : ℕ) (l : Line) → runner_of names l ≡ None → is_run_by names x l ≡ false
run_none names x l by = ap (λ o. option_map_or (λ z. z == x) o false) by

some_run : (o : Option ℕ) (x : ℕ) → option_map_or (λ y. y == x) o false ≡ true → o ≡ Some x
some_run None x h = absurd cc
some_run (Some y) x h = ap (λ z. Some z) (eqb-true y x h)

pub run_by : (names : List ℕ) (x : ℕ) (l : Line) → is_run_by names x l ≡ true → runner_of names l ≡ Some x
run_by names x l h = some_run (runner_of names l) x h

-- it is one of the threads, where there is one
pub runner_below : (names : List ℕ) (y : ℕ) (l : Line) → 0 < length names → runner_of names l ≡ Some y → y < length names
runner_below names y (line.Edge edge) low by = absurd cc
runner_below names y (line.Create x label) low by = (placed names x y by).0
runner_below names y (line.Spawn x label) low by = (placed names x y by).0
runner_below names y (line.Plain x command) low by = (placed names x y by).0
runner_below names y l low by = let zero_is : 0 ≡ y = cc in subst (λ z. z < length names) zero_is low

-- ---- a thread's lines

pub lines_same : (names : List ℕ) (x : ℕ) (bs : List Boxed) (b : Boxed) → is_run_by names x b.line ≡ true → share_of names x (bs ++ b ∷ []) ≡ share_of names x bs ++ b ∷ []
lines_same names x bs b by =
    filter-append (λ c. is_run_by names x c.line) bs (b ∷ []) ∙ ap (λ t. share_of names x bs ++ cond t (b ∷ []) []) by

pub lines_other : (names : List ℕ) (x : ℕ) (bs : List Boxed) (b : Boxed) → is_run_by names x b.line ≡ false → share_of names x (bs ++ b ∷ []) ≡ share_of names x bs
lines_other names x bs b by =
    filter-append (λ c. is_run_by names x c.line) bs (b ∷ []) ∙ ap (λ t. share_of names x bs ++ cond t (b ∷ []) []) by ∙ append-nil (share_of names x bs)

-- ---- the works, thread by thread

-- so much is given out of these lines
pub record IsDealt (names : List ℕ) (bs : List Boxed) (given : List (List Boxed)) : Type 0 where
  pub long : length given ≡ length names
  pub at : (x : ℕ) → x < length names → get_or given x [] ≡ share_of names x bs

pub dealt_none : {W : Type 0} (names : List ℕ) (boxes : W → List Boxed) (works : List W) → length works ≡ length names → All (λ w. boxes w ≡ []) works → IsDealt names [] (map boxes works)
dealt_none {W = W} names boxes works each none = record {
  long = length-map works boxes ∙ each;
  at = λ x low. go works none x (omega (arith, low, each));
} where
  go : (works : List W) → All (λ w. boxes w ≡ []) works → (x : ℕ) → x < length works → get_or (map boxes works) x [] ≡ []
  go [] none x low = absurd (omega (arith, low))
  go (w ∷ works) none zero low = All-head (λ v. boxes v ≡ []) w works none
  go (w ∷ works) none (suc x) low = go works (All-tail (λ v. boxes v ≡ []) w works none) x (omega (arith, low))

pub dealt_all : (names : List ℕ) (bs : List Boxed) (given : List (List Boxed)) → IsDealt names bs given → given ≡ all_shares names bs
dealt_all names bs given dealt = fill_by_all (λ x. share_of names x bs) given (length names) [] dealt.long dealt.at

-- a line that no session runs
pub dealt_nobodys : {T : Type 0} (boxing : T → Boxed) (names : List ℕ) (ts : List T) (t : T) (given : List (List Boxed)) → runner_of names (boxing t).line ≡ None → IsDealt names (map boxing ts) given → IsDealt names (map boxing (ts ++ t ∷ [])) given
dealt_nobodys boxing names ts t given none dealt =
    subst (λ bs. IsDealt names bs given) (sym (map_push boxing ts t)) (record {
      long = dealt.long;
      at = λ x low. dealt.at x low ∙ sym (lines_other names x (map boxing ts) (boxing t) (run_none names x (boxing t).line none));
    })

-- a line that the session of thread y runs
pub dealt_one : (names : List ℕ) (y : ℕ) (bs : List Boxed) (b : Boxed) (given : List (List Boxed)) (more : List Boxed) → y < length names → runner_of names b.line ≡ Some y → IsDealt names bs given → more ≡ share_of names y bs ++ b ∷ [] →
    IsDealt names (bs ++ b ∷ []) (set given y more)
dealt_one names y bs b given more low by dealt is = record {
  long = length-set given y more ∙ dealt.long;
  at = λ x below. ⊎_elim
      (λ (same : x ≡ y). subst (λ z. get_or (set given y more) z [] ≡ share_of names z (bs ++ b ∷ [])) (sym same)
      (get_or-set_same given y more [] (omega (arith, low, dealt.long)) ∙ is ∙ sym (lines_same names y bs b (run_same names y y b.line by refl))))
      (λ (other : x ≢ y). get_or-set_other given y x more [] other ∙ dealt.at x below
      ∙ sym (lines_other names x bs b (run_other names x y b.line by (λ same. other (sym same)))))
      (cases_eq x y);
}

-- the work of thread y, where it is given one line more
pub dealt_step : {W : Type 0} (boxes : W → List Boxed) (works : List W) (names : List ℕ) (y : ℕ) (bs : List Boxed) (b : Boxed) (w after : W) → y < length names → runner_of names b.line ≡ Some y → IsDealt names bs (map boxes works) →
    w ≡ get_or works y w → boxes after ≡ boxes w ++ b ∷ [] → IsDealt names (bs ++ b ∷ []) (map boxes (set works y after))
dealt_step boxes works names y bs b w after low by dealt at is =
    let within : y < length works = omega (arith, low, dealt.long, length-map works boxes) in
    let here : boxes w ≡ share_of names y bs = ap boxes at ∙ sym (get_or-map boxes works y w [] within) ∙ dealt.at y low in
    subst (IsDealt names (bs ++ b ∷ [])) (sym (map-set boxes works y after))
    (dealt_one names y bs b (map boxes works) (boxes after) low by dealt (is ∙ ap (λ l. l ++ b ∷ []) here))
