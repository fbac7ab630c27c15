-- What the workers' sessions brought back, line by line in script order.
use Rattle.std.proofs.Common.{◌≡◌, ◌≢◌, ◌<◌, ◌+◌, ℕ, Bool, true, false, cond, List, [], ◌∷◌, ◌++◌, length, map, filter, get_or, set, take, drop, suc, slice_get, option_map, Option, Some, None, slice_index, refl, sym, ap, ◌∙◌, subst, arith, append-nil, add-zero, length-append, ⊎_elim}
use Rattle.std.specs.List.{AllZip, range_with_len, zip}
use Rattle.std.proofs.Math.Seq.{drop-cons}
use Rattle.std.proofs.lemmas.Bool.{cases_eq}
use Rattle.std.proofs.lemmas.Option.{slice_get-get_or, slice_get-map, get_or_from_slice_get, same_Some}
use Rattle.std.proofs.lemmas.List.{length-set, get_or-set_same, get_or-set_other, get_or-map, map-append, take_more, take_all, take-append-drop}
use Rattle.std.proofs.lemmas.List.Elements.{filter-append}
use Rattle.std.proofs.lemmas.List.FromFn.{fill_by_all, get_or-map-range_with_len}
use Rattle.tg_text.specs.declared.line.Line.{Line}
use Rattle.tg_text.specs.declared.answer.Refusal.TheVariants as refusal
use Rattle.tg_threads.specs.declared.task.Told.{Told}
use Rattle.tg_threads.specs.declared.task.Told.TheVariants as came
use Rattle.tg_threads.specs.Shares.{runner_of, is_run_by, told_of, IsInScriptOrder}
use Rattle.tg_threads.proofs.ShareLaws.{run_same, run_other, run_none, runner_below}

-- how many of these lines the session of thread x runs
abbrev pub count_of : List ℕ → ℕ → List Line → ℕ
count_of names x lines = length (filter (is_run_by names x) lines)

count_append : (names : List ℕ) (x : ℕ) (lines more : List Line) → count_of names x (lines ++ more) ≡ count_of names x lines + count_of names x more
count_append names x lines more =
    ap (λ (m : List Line). length m) (filter-append (is_run_by names x) lines more) ∙ length-append (filter (is_run_by names x) lines) (filter (is_run_by names x) more)

count_push : (names : List ℕ) (x : ℕ) (lines : List Line) (l : Line) (b : Bool) → is_run_by names x l ≡ b → count_of names x (lines ++ l ∷ []) ≡ count_of names x lines + length (cond b (l ∷ []) [])
count_push names x lines l b is = count_append names x lines (l ∷ []) ∙ ap (λ t. count_of names x lines + length (cond t (l ∷ []) [])) is

zip_push : (lines : List Line) (ts : List Told) (l : Line) (t : Told) → length ts ≡ length lines → zip (lines ++ l ∷ []) (ts ++ t ∷ []) ≡ zip lines ts ++ (l, t) ∷ []
zip_push [] [] l t long = refl
zip_push (m ∷ lines) (u ∷ ts) l t long = ap (λ ps. (m, u) ∷ ps) (zip_push lines ts l t (omega (arith, long)))
zip_push lines ts l t long = absurd (omega (arith, long))

told_push : (names : List ℕ) (x : ℕ) (lines : List Line) (ts : List Told) (l : Line) (t : Told) (b : Bool) → length ts ≡ length lines → is_run_by names x l ≡ b →
    told_of names x (lines ++ l ∷ []) (ts ++ t ∷ []) ≡ told_of names x lines ts ++ map (λ (q : Line × Told). q.1) (cond b ((l, t) ∷ []) [])
told_push names x lines ts l t b long is =
    let p : Line × Told → Bool = λ q. is_run_by names x q.0 in
    ap (λ ps. map (λ (q : Line × Told). q.1) (filter p ps)) (zip_push lines ts l t long)
    ∙ ap (map (λ (q : Line × Told). q.1)) (filter-append p (zip lines ts) ((l, t) ∷ []))
    ∙ map-append (λ (q : Line × Told). q.1) (filter p (zip lines ts)) (filter p ((l, t) ∷ []))
    ∙ ap (λ c. told_of names x lines ts ++ map (λ (q : Line × Told). q.1) (cond c ((l, t) ∷ []) [])) is

-- a line that no session runs is refused
abbrev IsNobodys : List ℕ → Line → Told → Type 0
IsNobodys names l t = runner_of names l ≡ None → t ≡ came.Refused refusal.Worker

nobodys_push : (names : List ℕ) (lines : List Line) (ts : List Told) (l : Line) (t : Told) → AllZip (IsNobodys names) lines ts → IsNobodys names l t → AllZip (IsNobodys names) (lines ++ l ∷ []) (ts ++ t ∷ [])
nobodys_push names [] [] l t h one = (one, tt)
nobodys_push names (m ∷ lines) (u ∷ ts) l t h one = (h.0, nobodys_push names lines ts l t h.1 one)
nobodys_push names lines ts l t h one = absurd h

-- These lines were seen, and so many of each worker's.
pub record IsSeen (names : List ℕ) (brought : List (List Told)) (lines : List Line) (ts : List Told) (seen : List ℕ) : Type 0 where
  pub long : length ts ≡ length lines
  pub places : length seen ≡ length names
  pub count : (x : ℕ) → x < length names → slice_index seen x ≡ count_of names x lines
  pub nobodys : AllZip (IsNobodys names) lines ts
  pub own : (x : ℕ) → x < length names → told_of names x lines ts ≡ take (count_of names x lines) (get_or brought x [])

pub seen_nobodys : (names : List ℕ) (brought : List (List Told)) (lines : List Line) (ts : List Told) (seen : List ℕ) (l : Line) (t : Told) → IsSeen names brought lines ts seen → runner_of names l ≡ None → t ≡ came.Refused refusal.Worker →
    IsSeen names brought (lines ++ l ∷ []) (ts ++ t ∷ []) seen
seen_nobodys names brought lines ts seen l t s by is = record {
  long = length-append ts (t ∷ []) ∙ ap (λ n. n + 1) s.long ∙ sym (length-append lines (l ∷ []));
  places = s.places;
  count = λ x low. s.count x low ∙ sym (count_push names x lines l false (run_none names x l by) ∙ add-zero (count_of names x lines));
  nobodys = nobodys_push names lines ts l t s.nobodys (λ _. is);
  own = λ x low.
      let same : count_of names x (lines ++ l ∷ []) ≡ count_of names x lines = count_push names x lines l false (run_none names x l by) ∙ add-zero (count_of names x lines) in
      told_push names x lines ts l t false s.long (run_none names x l by) ∙ append-nil (told_of names x lines ts) ∙ s.own x low
      ∙ ap (λ n. take n (get_or brought x [])) (sym same);
}

pub seen_one : (names : List ℕ) (y : ℕ) (brought : List (List Told)) (lines : List Line) (ts : List Told) (seen : List ℕ) (l : Line) (t : Told) → IsSeen names brought lines ts seen → y < length names → runner_of names l ≡ Some y →
    count_of names y lines < length (get_or brought y []) → get_or (get_or brought y []) (count_of names y lines) t ≡ t →
    IsSeen names brought (lines ++ l ∷ []) (ts ++ t ∷ []) (set seen y (slice_index seen y + 1))
seen_one names y brought lines ts seen l t s low by more is = record {
  long = length-append ts (t ∷ []) ∙ ap (λ n. n + 1) s.long ∙ sym (length-append lines (l ∷ []));
  places = length-set seen y (slice_index seen y + 1) ∙ s.places;
  count = λ x below. ⊎_elim
      (λ (same : x ≡ y). subst (λ z. get_or (set seen y (slice_index seen y + 1)) z 0 ≡ count_of names z (lines ++ l ∷ [])) (sym same)
      (get_or-set_same seen y (slice_index seen y + 1) 0 (omega (arith, low, s.places)) ∙ ap (λ n. n + 1) (s.count y low) ∙ sym (count_push names y lines l true (run_same names y y l by refl))))
      (λ (other : x ≢ y). get_or-set_other seen y x (slice_index seen y + 1) 0 other ∙ s.count x below
      ∙ sym (count_push names x lines l false (run_other names x y l by (λ same. other (sym same))) ∙ add-zero (count_of names x lines)))
      (cases_eq x y);
  nobodys = nobodys_push names lines ts l t s.nobodys (λ none. absurd cc);
  own = λ x below. ⊎_elim
      (λ (same : x ≡ y). subst (λ z. told_of names z (lines ++ l ∷ []) (ts ++ t ∷ []) ≡ take (count_of names z (lines ++ l ∷ [])) (get_or brought z [])) (sym same) at_y)
      (λ (other : x ≢ y).
      let not_run = run_other names x y l by (λ same. other (sym same)) in
      let stays : count_of names x (lines ++ l ∷ []) ≡ count_of names x lines = count_push names x lines l false not_run ∙ add-zero (count_of names x lines) in
      told_push names x lines ts l t false s.long not_run ∙ append-nil (told_of names x lines ts) ∙ s.own x below
      ∙ ap (λ n. take n (get_or brought x [])) (sym stays))
      (cases_eq x y);
} where
  at_y : told_of names y (lines ++ l ∷ []) (ts ++ t ∷ []) ≡ take (count_of names y (lines ++ l ∷ [])) (get_or brought y [])
  at_y =
      let run = run_same names y y l by refl in
      told_push names y lines ts l t true s.long run ∙ ap (λ us. us ++ t ∷ []) (s.own y low)
      ∙ ap (λ u. take (count_of names y lines) (get_or brought y []) ++ u ∷ []) (sym is)
      ∙ sym (take_more (get_or brought y []) (count_of names y lines) t more)
      ∙ ap (λ n. take n (get_or brought y [])) (sym (count_push names y lines l true run))

-- all lines were seen, and all that was brought
pub seen_all : (names : List ℕ) (brought : List (List Told)) (lines : List Line) (ts : List Told) (seen : List ℕ) → length brought ≡ length names → ((x : ℕ) → x < length names → length (get_or brought x []) ≡ count_of names x lines) →
    IsSeen names brought lines ts seen → IsInScriptOrder names lines brought ts
seen_all names brought lines ts seen long whole s = record {
  own = fill_by_all (λ x. told_of names x lines ts) brought (length names) [] long
      (λ x low. sym (s.own x low ∙ ap (λ n. take n (get_or brought x [])) (sym (whole x low)) ∙ take_all (length (get_or brought x [])) (get_or brought x []) (omega arith)));
  nobodys = s.nobodys;
}

-- ---- the step of the loop

count_front : (names : List ℕ) (x : ℕ) (l : Line) (lines : List Line) → is_run_by names x l ≡ true → 0 < count_of names x (l ∷ lines)
count_front names x l lines by =
    let is : count_of names x (l ∷ lines) ≡ suc (count_of names x lines) = ap (λ c. length (cond c (l ∷ filter (is_run_by names x) lines) (filter (is_run_by names x) lines))) by in
    omega (arith, is)

-- there are more of its lines than were seen
pub count_below : (names : List ℕ) (x i : ℕ) (lines : List Line) (l : Line) → i < length lines → l ≡ get_or lines i l → is_run_by names x l ≡ true → count_of names x (take i lines) < count_of names x lines
count_below names x i lines l low at by =
    let behind : drop i lines ≡ l ∷ drop (suc i) lines = drop-cons lines i l low ∙ ap (λ m. m ∷ drop (suc i) lines) (sym at) in
    let all : count_of names x lines ≡ count_of names x (take i lines) + count_of names x (drop i lines) =
    ap (count_of names x) (sym (take-append-drop i lines)) ∙ count_append names x (take i lines) (drop i lines) in
    let more : 0 < count_of names x (drop i lines) = subst (λ ls. 0 < count_of names x ls) (sym behind) (count_front names x l (drop (suc i) lines) by) in
    omega (arith, all, more)

pub length_at : {F : Type 0} (told : F → List Told) (finished : List F) (x : ℕ) → length (get_or (map told finished) x []) ≡ get_or (map (λ f. length (told f)) finished) x 0
length_at told (f ∷ finished) (suc x) = length_at told finished x
length_at told finished x = refl

-- as many as its worker has lines
pub whole_at : {F : Type 0} (names : List ℕ) (told : F → List Told) (finished : List F) (lines : List Line) → map (λ f. length (told f)) finished ≡ map (λ x. count_of names x lines) (range_with_len 0 (length names)) →
    (x : ℕ) → x < length names → length (get_or (map told finished) x []) ≡ count_of names x lines
whole_at names told finished lines whole x low =
    length_at told finished x ∙ ap (λ ns. get_or ns x 0) whole ∙ get_or-map-range_with_len (λ y. count_of names y lines) 0 (length names) x x 0 low (omega arith)

-- one that is told is the next of its worker's
pub next_one : {F : Type 0} (told : F → List Told) (finished : List F) (seen : List ℕ) (x : ℕ) (f : F) (brought : List Told) (t : Told) → x < length finished → f ≡ get_or finished x f → slice_get (map told finished) x ≡ Some brought →
    slice_index seen x < slice_index (map (λ g. length (told g)) finished) x → t ≡ get_or (told f) (slice_index seen x) t → slice_get brought (slice_index seen x) ≡ Some t
next_one told finished seen x f brought t low at has more is =
    let here : slice_get (map told finished) x ≡ Some (told f) = slice_get-map told finished x ∙ ap (option_map told) (slice_get-get_or finished x f low ∙ ap (λ g. Some g) (sym at)) in
    let equal : told f ≡ brought = same_Some (told f) brought (sym here ∙ has) in
    let long : get_or (map (λ g. length (told g)) finished) x 0 ≡ length (told f) = get_or-map (λ g. length (told g)) finished x f 0 low ∙ ap (λ g. length (told g)) (sym at) in
    ap (λ b. slice_get b (slice_index seen x)) (sym equal) ∙ slice_get-get_or (told f) (slice_index seen x) t (omega (arith, more, long)) ∙ ap (λ u. Some u) (sym is)

-- what a worker brought has what comes next
pub next_inside : {F : Type 0} (told : F → List Told) (finished : List F) (seen : List ℕ) (x at : ℕ) (f d : F) → x < length finished → f ≡ get_or finished x d → at ≡ slice_index seen x →
    slice_index seen x < slice_index (map (λ g. length (told g)) finished) x → at < length (told f)
next_inside told finished seen x at f d low is read more =
    omega (arith, more, read, get_or-map (λ g. length (told g)) finished x d 0 low ∙ ap (λ g. length (told g)) (sym is))

-- one line more
pub seen_more : (names : List ℕ) (brought : List (List Told)) (lines : List Line) (i : ℕ) (ts : List Told) (seen after : List ℕ) (l : Line) (t : Told) → 0 < length names → length brought ≡ length names →
    ((x : ℕ) → x < length names → length (get_or brought x []) ≡ count_of names x lines) → i < length lines → l ≡ get_or lines i l → IsSeen names brought (take i lines) ts seen →
    (runner_of names l ≡ None → (t ≡ came.Refused refusal.Worker) × (after ≡ seen)) →
    ((x : ℕ) (b : List Told) → runner_of names l ≡ Some x → slice_get brought x ≡ Some b → (slice_get b (slice_index seen x) ≡ Some t) × (after ≡ set seen x (slice_index seen x + 1))) →
    IsSeen names brought (take (i + 1) lines) (ts ++ t ∷ []) after
seen_more names brought lines i ts seen after l t low long whole within at s nobodys own =
    subst (λ ls. IsSeen names brought ls (ts ++ t ∷ []) after) (sym more) (by_runner (runner_of names l) refl) where
      more : take (i + 1) lines ≡ take i lines ++ l ∷ []
      more = take_more lines i l within ∙ ap (λ m. take i lines ++ m ∷ []) (sym at)

      by_runner : (o : Option ℕ) → runner_of names l ≡ o → IsSeen names brought (take i lines ++ l ∷ []) (ts ++ t ∷ []) after
      by_runner None by =
          let h = nobodys by in
          subst (IsSeen names brought (take i lines ++ l ∷ []) (ts ++ t ∷ [])) (sym h.1) (seen_nobodys names brought (take i lines) ts seen l t s by h.0)
      by_runner (Some y) by =
          let below = runner_below names y l low by in
          let has : slice_get brought y ≡ Some (get_or brought y []) = slice_get-get_or brought y [] (omega (arith, below, long)) in
          let h = own y (get_or brought y []) by has in
          let counted = s.count y below in
          let there = count_below names y i lines l within at (run_same names y y l by refl) in
          subst (IsSeen names brought (take i lines ++ l ∷ []) (ts ++ t ∷ [])) (sym h.1)
          (seen_one names y brought (take i lines) ts seen l t s below by (omega (arith, there, whole y below))
          (get_or_from_slice_get (get_or brought y []) (count_of names y (take i lines)) t t (ap (slice_get (get_or brought y [])) (sym counted) ∙ h.0)))
