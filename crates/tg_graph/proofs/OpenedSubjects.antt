-- The active subjects that an opening makes, one after the other.
use Rattle.std.proofs.Common.{◌≡◌, ℕ, ◌+◌, ◌<◌, List, [], ◌∷◌, ◌++◌, length, get_or, map, Some, refl, sym, ap, subst, arith, ◌∙◌, ⊎_elim}
use Rattle.std.specs.Prelude.{slice_get}
use Rattle.std.specs.List.{All, Contains, range_with_len}
use Rattle.std.proofs.lemmas.Bool.{cases_lt}
use Rattle.std.proofs.lemmas.List.{get_or-map, length-map, map-append}
use Rattle.std.proofs.lemmas.List.Elements.{All-append, All-cons, All-nil}
use Rattle.std.proofs.lemmas.List.FromFn.{get_or-range_with_len, length-range_with_len, map-range_with_len_more}
use Rattle.std.proofs.lemmas.Option.{slice_get-get_or}
use Rattle.tg_model.proofs.PlainLaws.{is_subject, is_worker}
use Rattle.tg_word.specs.Word.{nursery_space}
use Rattle.tg_word.specs.declared.Place.{Place}
use Rattle.tg_subjects.specs.Subjects.{IsLeastFree, names_of, nurseries_of, subject_places}
use Rattle.tg_subjects.specs.declared.subject.Subject.{Subject}
use Rattle.tg_space.specs.SpaceList.{SpaceList}
use Rattle.tg_graph.specs.Heap.{AreAtHome}
use Rattle.tg_rows.specs.Rows.{IsVertexAt}

-- one number more
pub range_more : (n : ℕ) → range_with_len 0 (n + 1) ≡ range_with_len 0 n ++ n ∷ []
range_more n =
    let same : (xs : List ℕ) → map (λ x. x) xs ≡ xs = map_same in
    sym (same (range_with_len 0 (n + 1))) ∙ map-range_with_len_more (λ x. x) 0 n n (omega arith) ∙ ap (λ (xs : List ℕ). xs ++ n ∷ []) (same (range_with_len 0 n))
  where
    map_same : (xs : List ℕ) → map (λ x. x) xs ≡ xs
    map_same [] = refl
    map_same (x ∷ xs) = ap (λ (ys : List ℕ). x ∷ ys) (map_same xs)

-- as many subjects as there are names
pub subjects_counted : (subjects : List Subject) (n : ℕ) → names_of subjects ≡ range_with_len 0 n → length subjects ≡ n
subjects_counted subjects n are =
    sym (length-map subjects (λ (x : Subject). x.name)) ∙ ap (λ (xs : List ℕ). length xs) are ∙ length-range_with_len 0 n

-- the next name is above all others
pub next_above : (subjects : List Subject) (n name : ℕ) → names_of subjects ≡ range_with_len 0 n → name ≡ n → All (λ s. s.name < name) subjects
next_above subjects n name are is k d low =
    let count = subjects_counted subjects n are in
    let read : get_or (names_of subjects) k 0 ≡ (get_or subjects k d).name = get_or-map (λ (x : Subject). x.name) subjects k d 0 low in
    let same : get_or (names_of subjects) k 0 ≡ get_or (range_with_len 0 n) k 0 = ap (λ (xs : List ℕ). get_or xs k 0) are in
    let number : get_or (range_with_len 0 n) k 0 ≡ 0 + k = get_or-range_with_len 0 n k 0 (omega arith) in
    omega (arith, read, same, number, is, low, count)

-- where the first nurseries are held, the least free one is the next
pub next_free : (subjects : List Subject) (n number : ℕ) → nurseries_of subjects ≡ range_with_len 0 n → IsLeastFree subjects number → number ≡ n
next_free subjects n number are is =
    let held : (x : ℕ) → x < n → Contains (nurseries_of subjects) x = λ x low. subst (λ (xs : List ℕ). Contains xs x) (sym are) (is_subject n x low) in
    let holds : (x : ℕ) → Contains (nurseries_of subjects) x → x < n = λ x has. is_worker n x (subst (λ (xs : List ℕ). Contains xs x) are has) in
    ⊎_elim
    (λ low. absurd (is.free (held number low)))
    (λ high. ⊎_elim (λ above. let no = holds n (is.least n above) in absurd (omega arith)) (λ below. omega arith) (cases_lt n number))
    (cases_lt number n)

-- one more subject
module _ (subjects : List Subject) (x : Subject) where
  pub names_more : (n : ℕ) → names_of subjects ≡ range_with_len 0 n → x.name ≡ n → names_of (subjects ++ x ∷ []) ≡ range_with_len 0 (n + 1)
  names_more n are is =
      map-append (λ (s : Subject). s.name) subjects (x ∷ []) ∙ ap (λ (xs : List ℕ). xs ++ x.name ∷ []) are ∙ ap (λ (name : ℕ). range_with_len 0 n ++ name ∷ []) is ∙ sym (range_more n)

  pub nurseries_more : (n : ℕ) → nurseries_of subjects ≡ range_with_len 0 n → x.nursery ≡ n → nurseries_of (subjects ++ x ∷ []) ≡ range_with_len 0 (n + 1)
  nurseries_more n are is =
      map-append (λ (s : Subject). s.nursery) subjects (x ∷ []) ∙ ap (λ (xs : List ℕ). xs ++ x.nursery ∷ []) are ∙ ap (λ (number : ℕ). range_with_len 0 n ++ number ∷ []) is ∙ sym (range_more n)

  pub places_more : subject_places (subjects ++ x ∷ []) ≡ subject_places subjects ++ x.place ∷ []
  places_more = map-append (λ (s : Subject). s.place) subjects (x ∷ [])

  pub more_at_home : AreAtHome subjects → x.place.space ≡ nursery_space x.nursery → AreAtHome (subjects ++ x ∷ [])
  more_at_home home there =
      let P : Subject → Type 0 = λ s. s.place.space ≡ nursery_space s.nursery in
      All-append P subjects (x ∷ []) home (All-cons P x [] there (All-nil P))

-- each subject is the vertex with its name, where each place is that of the vertex with its number
pub vertices_named : (h : SpaceList) (subjects : List Subject) (n : ℕ) → names_of subjects ≡ range_with_len 0 n → ((x : ℕ) (p : Place) → slice_get (subject_places subjects) x ≡ Some p → IsVertexAt h x p) → All (λ x. IsVertexAt h x.name x.place) subjects
vertices_named h subjects n are at k d low =
    let count = subjects_counted subjects n are in
    let within : k < length (subject_places subjects) = let same = length-map subjects (λ (x : Subject). x.place) in omega arith in
    let read : get_or (names_of subjects) k 0 ≡ (get_or subjects k d).name = get_or-map (λ (x : Subject). x.name) subjects k d 0 low in
    let same : get_or (names_of subjects) k 0 ≡ get_or (range_with_len 0 n) k 0 = ap (λ (xs : List ℕ). get_or xs k 0) are in
    let number : get_or (range_with_len 0 n) k 0 ≡ 0 + k = get_or-range_with_len 0 n k 0 (omega arith) in
    let named : k ≡ (get_or subjects k d).name = omega (arith, read, same, number) in
    let placed : get_or (subject_places subjects) k d.place ≡ (get_or subjects k d).place = get_or-map (λ (x : Subject). x.place) subjects k d d.place low in
    let vertex = at k (get_or (subject_places subjects) k d.place) (slice_get-get_or (subject_places subjects) k d.place within) in
    subst (λ (name : ℕ). IsVertexAt h name (get_or subjects k d).place) named (subst (λ (p : Place). IsVertexAt h k p) placed vertex)
