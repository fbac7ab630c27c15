-- Vertices by rising name: what is found at a name, and what a change of one vertex, or leaving some out, comes to.
use Rattle.std.proofs.Common.{◌≡◌, ◌↔◌, ℕ, zero, suc, ◌+◌, ◌-◌, ◌<◌, ◌≤◌, ◌==◌, ◌&&◌, Bool, true, false, cond, not, map, nat_eq, List, [], ◌∷◌, length, get_or, Result, Ok, Err, IfOk, Option, Some, None, refl, sym, ap, subst, ◌∙◌, arith}
use Rattle.std.specs.Prelude.{◌||◌, IsTrue, option_map, slice_get}
use Rattle.std.specs.Set.{is_member}
use Rattle.std.proofs.Math.ListN.{set}
use Rattle.std.specs.List.{filter, insert}
use Rattle.std.specs.List.Sorted.{IsSearchInRange, IsBinarySearchResult, IsNonDecreasingBy}
use Rattle.std.specs.Ordering.{nat_cmp, ordering_index}
use Rattle.std.proofs.lemmas.Cmp.{ranked}
use Rattle.std.proofs.lemmas.Bool.{eqb-true, eq-eqb, cond_both}
use Rattle.std.proofs.lemmas.Bool.Decides.{nat_tests}
use Rattle.std.proofs.lemmas.List.{get_or_default}
use Rattle.std.proofs.lemmas.Option.{get_or_from_slice_get, none-some, slice_get-get_or, slice_get_within}
use Rattle.std.proofs.lemmas.List.Sorted.{IsNonDecreasingBy-from_default}
use Rattle.tg_rights.specs.RightSet.{RightSet, no_rights, is_none_held}
use Rattle.tg_rights.proofs.RightLaws.{none_held-same}
use Rattle.tg_model.specs.declared.value.Value.{Value}
use Rattle.tg_model.specs.Graph.{HasEdge, listing_of}
use Rattle.tg_model.specs.Plain.{Edges, rights_in_row, IsRisingRow, RisesFrom}
use Rattle.tg_model.specs.Rules.{written, written_at}
use Rattle.tg_model.proofs.RowLaws.{changed_at}
use Rattle.tg_model.proofs.RowListing.{listed}
use Rattle.tg_journal.specs.declared.vertices.Vertex.{Vertex}
use Rattle.tg_journal.specs.Inner.Steps.{FindsPlace}
use Rattle.tg_journal.specs.Live.{at_name, label_between, value_of, NamesFrom, vertex_name_at, HasVertexAt, IsGap}

abbrev pub nobody : Vertex
nobody = record { name = 0; row = []; value = None }

-- ---- places

pub low : (n : ℕ) (vs : List Vertex) (i : ℕ) → NamesFrom n vs → i < length vs → n ≤ vertex_name_at vs i
low n [] i rise inside = absurd (omega (arith, inside))
low n (v ∷ vs) zero rise inside = rise.0
low n (v ∷ vs) (suc i) rise inside = let rest = low (v.name + 1) vs i rise.1 (omega (arith, inside)) in omega (arith, rise.0, rest)

pub later : (n : ℕ) (vs : List Vertex) (i j : ℕ) → NamesFrom n vs → i < j → j < length vs → vertex_name_at vs i < vertex_name_at vs j
later n [] i j rise before inside = absurd (omega (arith, inside))
later n (v ∷ vs) i zero rise before inside = absurd (omega (arith, before))
later n (v ∷ vs) zero (suc j) rise before inside = let rest = low (v.name + 1) vs j rise.1 (omega (arith, inside)) in omega (arith, rest)
later n (v ∷ vs) (suc i) (suc j) rise before inside = later (v.name + 1) vs i j rise.1 (omega (arith, before)) (omega (arith, inside))

at_tail : (v : Vertex) (vs : List Vertex) (x i : ℕ) → HasVertexAt (v ∷ vs) x (suc i) → HasVertexAt vs x i
at_tail v vs x i is = record { inside = omega (arith, is.inside); name = is.name }

gap_tail : (v : Vertex) (vs : List Vertex) (x i : ℕ) → IsGap (v ∷ vs) x (suc i) → IsGap vs x i
gap_tail v vs x i gap = record {
  inside = omega (arith, gap.inside);
  smaller = λ j before. gap.smaller (suc j) (omega (arith, before));
  greater = λ j from inside. gap.greater (suc j) (omega (arith, from)) (omega (arith, inside));
}

-- after the last name
pub gap_behind : (vs : List Vertex) (x last : ℕ) → NamesFrom 0 vs → last + 1 ≡ length vs → vertex_name_at vs last < x → IsGap vs x (length vs)
gap_behind vs x last rise is less = record {
  inside = omega arith;
  smaller = λ j before. at j before (j == last) refl;
  greater = λ j from inside. absurd (omega (arith, from, inside));
}
  where
    at : (j : ℕ) → j < length vs → (b : Bool) → b ≡ (j == last) → vertex_name_at vs j < x
    at j before true same = subst (λ (j : ℕ). vertex_name_at vs j < x) (sym (eqb-true j last (sym same))) less
    at j before false other =
        let sooner : j < last = grind (arith, nat_tests, before, is, other) in
        let rest = later 0 vs j last rise sooner (omega (arith, is)) in omega (arith, rest, less)

pub gap_after : (vs : List Vertex) (x : ℕ) (last : Vertex) → NamesFrom 0 vs → slice_get vs (length vs - 1) ≡ Some last → last.name < x → IsGap vs x (length vs)
gap_after vs x last rise is less =
    let inside = slice_get_within vs (length vs - 1) last is in
    gap_behind vs x (length vs - 1) rise (omega (arith, inside)) (subst (λ (v : Vertex). v.name < x) (sym (get_or_from_slice_get vs (length vs - 1) last nobody is)) less)

pub gap_alone : (vs : List Vertex) (x : ℕ) → slice_get vs (length vs - 1) ≡ None → IsGap vs x (length vs)
gap_alone [] x none = record { inside = omega arith; smaller = λ j before. absurd (omega (arith, before)); greater = λ j from inside. absurd (omega (arith, inside)) }
gap_alone (v ∷ vs) x none = absurd (none-some _ (sym none ∙ slice_get-get_or (v ∷ vs) (length (v ∷ vs) - 1) nobody (omega arith)))

module _ (vs : List Vertex) (rise : NamesFrom 0 vs) (x : ℕ) where
  comparisons_rise : IsNonDecreasingBy (λ v. ordering_index (nat_cmp v.name x)) vs
  comparisons_rise = IsNonDecreasingBy-from_default (λ (v : Vertex). ordering_index (nat_cmp v.name x)) vs nobody (λ i j le inside.
      let names_rise : vertex_name_at vs i ≤ vertex_name_at vs j = grind (arith, later 0 vs i j rise, λ (same : i ≡ j). ap (vertex_name_at vs) same) in
      grind (arith, nat_tests))

  -- a search by halves ends at the name, or where it would go
  pub searched : (r : Result ℕ ℕ) → IsSearchInRange r (length vs) → IsBinarySearchResult (λ v. nat_cmp v.name x) vs r → FindsPlace vs x r
  searched (Ok at) inside equal = record { found = record { inside = inside; name = ranked _ x _ (sym (equal nobody)) }; absent = tt }
  searched (Err at) inside parted = record {
    found = tt;
    absent = record {
      inside = inside;
      smaller = λ j before. ranked _ x _ (sym ((parted comparisons_rise).0 j nobody (omega arith) before));
      greater = λ j from below. ranked _ x _ (sym ((parted comparisons_rise).1 j nobody from below));
    };
  }

-- ---- the names still rise

weaker : (m n : ℕ) (vs : List Vertex) → m ≤ n → NamesFrom n vs → NamesFrom m vs
weaker m n [] less rise = tt
weaker m n (v ∷ vs) less rise = (omega (arith, less, rise.0), rise.1)

pub rise-set : (n : ℕ) (vs : List Vertex) (x i : ℕ) (w : Vertex) → NamesFrom n vs → HasVertexAt vs x i → w.name ≡ x → NamesFrom n (set vs i w)
rise-set n [] x i w rise is same = absurd (omega (arith, is.inside))
rise-set n (v ∷ vs) x zero w rise is same = subst (λ (m : ℕ). (n ≤ m) × NamesFrom (m + 1) vs) (is.name ∙ sym same) rise
rise-set n (v ∷ vs) x (suc i) w rise is same = (rise.0, rise-set (v.name + 1) vs x i w rise.1 (at_tail v vs x i is) same)

pub rise-insert : (n : ℕ) (vs : List Vertex) (x i : ℕ) (w : Vertex) → NamesFrom n vs → IsGap vs x i → w.name ≡ x → n ≤ x → NamesFrom n (insert vs i w)
rise-insert n [] x zero w rise gap same least = (omega (arith, least, same), tt)
rise-insert n (v ∷ vs) x zero w rise gap same least =
    let next = gap.greater 0 (omega arith) (omega arith) in (omega (arith, least, same), (omega (arith, next, same), rise.1))
rise-insert n [] x (suc i) w rise gap same least = absurd (omega (arith, gap.inside))
rise-insert n (v ∷ vs) x (suc i) w rise gap same least =
    let before = gap.smaller 0 (omega arith) in
    (rise.0, rise-insert (v.name + 1) vs x i w rise.1 (gap_tail v vs x i gap) same (omega (arith, before)))

pub rise-filter : (n : ℕ) (keep : Vertex → Bool) (vs : List Vertex) → NamesFrom n vs → NamesFrom n (filter keep vs)
rise-filter n keep [] rise = tt
rise-filter n keep (v ∷ vs) rise = at (keep v) (rise-filter (v.name + 1) keep vs rise.1)
  where
    at : (b : Bool) → NamesFrom (v.name + 1) (filter keep vs) → NamesFrom n (cond b (v ∷ filter keep vs) (filter keep vs))
    at true rest = (rise.0, rest)
    at false rest = weaker n (v.name + 1) (filter keep vs) (omega (arith, rise.0)) rest

-- ---- what is found

module _ {X : Type 0} (of : Vertex → X) (none : X) where
  pub found-at : (n : ℕ) (vs : List Vertex) (x i : ℕ) → NamesFrom n vs → HasVertexAt vs x i → at_name of none vs x ≡ of (get_or vs i nobody)
  found-at n [] x i rise is = absurd (omega (arith, is.inside))
  found-at n (v ∷ vs) x zero rise is = rw (eq-eqb x v.name (sym is.name)) refl
  found-at n (v ∷ vs) x (suc i) rise is =
      let rest = low (v.name + 1) vs i rise.1 (omega (arith, is.inside)) in
      let other : (x == v.name) ≡ false = grind (arith, nat_tests, rest, is.name) in
      rw other (found-at (v.name + 1) vs x i rise.1 (at_tail v vs x i is))

  pub found-none : (vs : List Vertex) (x i : ℕ) → IsGap vs x i → at_name of none vs x ≡ none
  found-none vs x i gap = nowhere vs (λ j inside same. either j inside same)
    where
      either : (j : ℕ) → j < length vs → vertex_name_at vs j ≡ x → ⊥
      either j inside same = grind (arith, gap.smaller j, gap.greater j, inside, same)

      nowhere : (vs : List Vertex) → ((j : ℕ) → j < length vs → vertex_name_at vs j ≡ x → ⊥) → at_name of none vs x ≡ none
      nowhere [] never = refl
      nowhere (v ∷ vs) never = at (x == v.name) refl (nowhere vs (λ j inside. never (suc j) (omega (arith, inside))))
        where
          at : (b : Bool) → b ≡ (x == v.name) → at_name of none vs x ≡ none → cond b (of v) (at_name of none vs x) ≡ none
          at true is rest = absurd (never 0 (omega arith) (sym (eqb-true x v.name (sym is))))
          at false is rest = rest

  twice : (b : Bool) (here there rest : X) → cond b here rest ≡ cond b here (cond b there rest)
  twice true here there rest = refl
  twice false here there rest = refl

  swapped : (b c : Bool) (here there rest : X) → (b ≡ true → c ≡ true → ⊥) → cond b here (cond c there rest) ≡ cond c there (cond b here rest)
  swapped true true here there rest apart = absurd (apart refl refl)
  swapped true false here there rest apart = refl
  swapped false c here there rest apart = refl

  -- a vertex before the one that changed
  passed : (v w : Vertex) (vs us : List Vertex) (x q : ℕ) → v.name < x → at_name of none us q ≡ cond (q == x) (of w) (at_name of none vs q) → at_name of none (v ∷ us) q ≡ cond (q == x) (of w) (at_name of none (v ∷ vs) q)
  passed v w vs us x q before next =
      ap (cond (q == v.name) (of v)) next
      ∙ swapped (q == v.name) (q == x) (of v) (of w) (at_name of none vs q)
      (λ first second. let one = eqb-true q v.name first in let two = eqb-true q x second in omega (arith, one, two, before))

  pub found-set : (n : ℕ) (vs : List Vertex) (x i : ℕ) (w : Vertex) → NamesFrom n vs → HasVertexAt vs x i → w.name ≡ x → (q : ℕ) → at_name of none (set vs i w) q ≡ cond (q == x) (of w) (at_name of none vs q)
  found-set n [] x i w rise is same q = absurd (omega (arith, is.inside))
  found-set n (v ∷ vs) x zero w rise is same q =
      ap (λ (m : ℕ). cond (q == m) (of w) (at_name of none vs q)) same
      ∙ twice (q == x) (of w) (of v) (at_name of none vs q)
      ∙ ap (λ (m : ℕ). cond (q == x) (of w) (cond (q == m) (of v) (at_name of none vs q))) (sym is.name)
  found-set n (v ∷ vs) x (suc i) w rise is same q =
      let rest = low (v.name + 1) vs i rise.1 (omega (arith, is.inside)) in
      passed v w vs (set vs i w) x q (omega (arith, rest, is.name)) (found-set (v.name + 1) vs x i w rise.1 (at_tail v vs x i is) same q)

  pub found-insert : (vs : List Vertex) (x i : ℕ) (w : Vertex) → IsGap vs x i → w.name ≡ x → (q : ℕ) → at_name of none (insert vs i w) q ≡ cond (q == x) (of w) (at_name of none vs q)
  found-insert vs x zero w gap same q = ap (λ (m : ℕ). cond (q == m) (of w) (at_name of none vs q)) same
  found-insert [] x (suc i) w gap same q = absurd (omega (arith, gap.inside))
  found-insert (v ∷ vs) x (suc i) w gap same q =
      passed v w vs (insert vs i w) x q (gap.smaller 0 (omega arith)) (found-insert vs x i w (gap_tail v vs x i gap) same q)

  nothing : (b : Bool) → none ≡ cond b none none
  nothing true = refl
  nothing false = refl

  left : (b : Bool) (v : Vertex) (vs : List Vertex) (x : ℕ) → at_name of none (cond b (v ∷ vs) vs) x ≡ cond b (cond (x == v.name) (of v) (at_name of none vs x)) (at_name of none vs x)
  left true v vs x = refl
  left false v vs x = refl

  kept : (keep here known : Bool) (it rest whole : X) → (here ≡ true → keep ≡ known) → rest ≡ cond known whole none → cond keep (cond here it rest) rest ≡ cond known (cond here it whole) none
  kept true true known it rest whole same next = rw (sym (same refl)) refl
  kept true false known it rest whole same next = next
  kept false true known it rest whole same next = rw (sym (same refl)) (next ∙ rw (sym (same refl)) refl)
  kept false false known it rest whole same next = next

  pub found-filter : (names : ℕ → Bool) (vs : List Vertex) (x : ℕ) → at_name of none (filter (λ v. names v.name) vs) x ≡ cond (names x) (at_name of none vs x) none
  found-filter names [] x = nothing (names x)
  found-filter names (v ∷ vs) x =
      left (names v.name) v (filter (λ v. names v.name) vs) x
      ∙ kept (names v.name) (x == v.name) (names x) (of v) (at_name of none (filter (λ v. names v.name) vs) x) (at_name of none vs x)
      (λ here. ap names (sym (eqb-true x v.name here))) (found-filter names vs x)

-- ---- a change of one vertex

same_then : {X : Type 0} (b : Bool) (one two rest : X) → (b ≡ true → one ≡ two) → cond b one rest ≡ cond b two rest
same_then true one two rest same = same refl
same_then false one two rest same = refl

both_tests : {X : Type 0} (b c : Bool) (it rest : X) → cond b (cond c it rest) rest ≡ cond (b && c) it rest
both_tests true c it rest = refl
both_tests false c it rest = refl

-- what holds at a name holds at each that is this one
there : {X : Type 0} (f g : ℕ → X) (x q : ℕ) → f x ≡ g x → (q == x) ≡ true → f q ≡ g q
there f g x q same here = let is = eqb-true q x here in ap f is ∙ same ∙ ap g (sym is)

-- rights of x over y that change
relabelled : (vs us : List Vertex) (x y : ℕ) (f : RightSet → RightSet) (new : ℕ → RightSet) → ((a b : ℕ) → label_between us a b ≡ cond (a == x) (new b) (label_between vs a b)) → ((b : ℕ) → new b ≡ cond (b == y) (f (label_between vs x b)) (label_between vs x b)) → (a b : ℕ) → label_between us a b ≡ cond ((a == x) && (b == y)) (f (label_between vs a b)) (label_between vs a b)
relabelled vs us x y f new is more a b =
    is a b
    ∙ same_then (a == x) _ _ _ (there (λ _. new b) (λ m. cond (b == y) (f (label_between vs m b)) (label_between vs m b)) x a (more b))
    ∙ both_tests (a == x) (b == y) _ _

-- what stays the same at the vertex stays so everywhere
unchanged : {X : Type 0} (old new : ℕ → X) (x : ℕ) (it : X) → ((q : ℕ) → new q ≡ cond (q == x) it (old q)) → it ≡ old x → (q : ℕ) → new q ≡ old q
unchanged old new x it is same q = is q ∙ cond_both (q == x) _ _ (λ o. o ≡ old q) (there (λ _. it) old x q same) (λ _. refl)

module _ (vs : List Vertex) (x i : ℕ) (old : Vertex) (rise : NamesFrom 0 vs) (is : HasVertexAt vs x i) (read : old ≡ get_or vs i old) where
  old_is : old ≡ get_or vs i nobody
  old_is = read ∙ get_or_default vs i old nobody is.inside

  pub old_name : old.name ≡ x
  old_name = ap (λ (v : Vertex). v.name) old_is ∙ is.name

  pub value_there : value_of vs x ≡ old.value
  value_there = found-at (λ v. v.value) None 0 vs x i rise is ∙ ap (λ (v : Vertex). v.value) (sym old_is)

  pub label_there : (b : ℕ) → label_between vs x b ≡ rights_in_row old.row b
  label_there b = found-at (λ v. rights_in_row v.row b) no_rights 0 vs x i rise is ∙ ap (λ (v : Vertex). rights_in_row v.row b) (sym old_is)

  abbrev with_row : Edges → List Vertex
  with_row row = set vs i (record { name = old.name; row = row; value = old.value })

  abbrev with_value : Option Value → List Vertex
  with_value value = set vs i (record { name = old.name; row = old.row; value = value })

  pub row_rises : (row : Edges) → NamesFrom 0 (with_row row)
  row_rises row = rise-set 0 vs x i _ rise is old_name

  pub row_labels : (row : Edges) (y : ℕ) (f : RightSet → RightSet) → ((b : ℕ) → rights_in_row row b ≡ changed_at y f old.row b) → (a b : ℕ) → label_between (with_row row) a b ≡ cond ((a == x) && (b == y)) (f (label_between vs a b)) (label_between vs a b)
  row_labels row y f more =
      relabelled vs (with_row row) x y f (rights_in_row row) (λ a b. found-set (λ v. rights_in_row v.row b) no_rights 0 vs x i _ rise is old_name a)
      (λ b. more b ∙ ap (λ (s : RightSet). cond (b == y) (f s) s) (sym (label_there b)))

  pub row_values : (row : Edges) (q : ℕ) → value_of (with_row row) q ≡ value_of vs q
  row_values row = unchanged (value_of vs) (value_of (with_row row)) x old.value (found-set (λ v. v.value) None 0 vs x i _ rise is old_name) (sym value_there)

  pub value_rises : (value : Option Value) → NamesFrom 0 (with_value value)
  value_rises value = rise-set 0 vs x i _ rise is old_name

  pub value_values : (value : Option Value) (q : ℕ) → value_of (with_value value) q ≡ cond (q == x) value (value_of vs q)
  value_values value = found-set (λ v. v.value) None 0 vs x i _ rise is old_name

  -- a number that is written, by the law of what is stored
  pub value_written : (value : Option Value) (number : ℕ) → value ≡ option_map (written number) old.value → (q : ℕ) → value_of (with_value value) q ≡ written_at (value_of vs) x number q
  value_written value number same q =
      value_values value q
      ∙ same_then (q == x) _ _ _ (there (λ _. value) (λ m. option_map (written number) (value_of vs m)) x q (same ∙ ap (option_map (written number)) (sym value_there)))

  pub value_labels : (value : Option Value) (a b : ℕ) → label_between (with_value value) a b ≡ label_between vs a b
  value_labels value a b =
      unchanged (λ a. label_between vs a b) (λ a. label_between (with_value value) a b) x (rights_in_row old.row b)
      (found-set (λ v. rights_in_row v.row b) no_rights 0 vs x i _ rise is old_name) (sym (label_there b)) a

module _ (vs : List Vertex) (x i : ℕ) (gap : IsGap vs x i) where
  pub no_value : value_of vs x ≡ None
  no_value = found-none (λ v. v.value) None vs x i gap

  pub no_label : (b : ℕ) → label_between vs x b ≡ no_rights
  no_label b = found-none (λ v. rights_in_row v.row b) no_rights vs x i gap

  -- what leaves no rights loses nothing
  pub nothing_lost : (y : ℕ) (f : RightSet → RightSet) → f no_rights ≡ no_rights → (a b : ℕ) → label_between vs a b ≡ cond ((a == x) && (b == y)) (f (label_between vs a b)) (label_between vs a b)
  nothing_lost y f lost_none =
      relabelled vs vs x y f (label_between vs x)
      (λ a b. cond_both (a == x) _ _ (λ r. label_between vs a b ≡ r) (there (λ m. label_between vs m b) (λ _. label_between vs x b) x a refl) (λ _. refl))
      (λ b. cond_both (b == y) _ _ (λ r. label_between vs x b ≡ r) (λ _. let none = no_label b in none ∙ sym lost_none ∙ ap f (sym none)) (λ _. refl))

  -- nothing is written where nothing is stored
  pub unwritten : (number q : ℕ) → value_of vs q ≡ written_at (value_of vs) x number q
  unwritten number q =
      cond_both (q == x) _ _ (λ o. value_of vs q ≡ o)
      (there (value_of vs) (λ m. option_map (written number) (value_of vs m)) x q (no_value ∙ ap (option_map (written number)) (sym no_value))) (λ _. refl)

  pub in_rises : (w : Vertex) → NamesFrom 0 vs → w.name ≡ x → NamesFrom 0 (insert vs i w)
  in_rises w rise same = rise-insert 0 vs x i w rise gap same (omega arith)

  pub in_labels : (w : Vertex) (y : ℕ) (f : RightSet → RightSet) → w.name ≡ x → ((b : ℕ) → rights_in_row w.row b ≡ changed_at y f [] b) → (a b : ℕ) → label_between (insert vs i w) a b ≡ cond ((a == x) && (b == y)) (f (label_between vs a b)) (label_between vs a b)
  in_labels w y f same more =
      relabelled vs (insert vs i w) x y f (rights_in_row w.row) (λ a b. found-insert (λ v. rights_in_row v.row b) no_rights vs x i w gap same a)
      (λ b. more b ∙ ap (λ (s : RightSet). cond (b == y) (f s) s) (sym (no_label b)))

  pub in_values : (w : Vertex) → w.name ≡ x → (q : ℕ) → value_of (insert vs i w) q ≡ cond (q == x) w.value (value_of vs q)
  in_values w same = found-insert (λ v. v.value) None vs x i w gap same

  pub in_no_value : (w : Vertex) → w.name ≡ x → w.value ≡ None → (q : ℕ) → value_of (insert vs i w) q ≡ value_of vs q
  in_no_value w same none = unchanged (value_of vs) (value_of (insert vs i w)) x w.value (in_values w same) (none ∙ sym no_value)

  pub in_no_label : (w : Vertex) → w.name ≡ x → w.row ≡ [] → (a b : ℕ) → label_between (insert vs i w) a b ≡ label_between vs a b
  in_no_label w same none a b =
      unchanged (λ a. label_between vs a b) (λ a. label_between (insert vs i w) a b) x (rights_in_row w.row b)
      (found-insert (λ v. rights_in_row v.row b) no_rights vs x i w gap same) (ap (λ (row : Edges). rights_in_row row b) none ∙ sym (no_label b)) a

-- ---- the row of a vertex

member_head : (b : Bool) (s r : RightSet) (rest : Bool) → is_none_held s ≡ false → rest ≡ not (is_none_held r) → (b || rest) ≡ not (is_none_held (cond b s r))
member_head true s r rest held next = sym (ap not held)
member_head false s r rest held next = next

-- the targets of a row are those over which it has rights
members : (n : ℕ) (row : Edges) (y : ℕ) → RisesFrom n row → is_member nat_eq (map (λ e. e.0) row) y ≡ not (is_none_held (rights_in_row row y))
members n [] y rises = refl
members n (e ∷ row) y rises =
    member_head (y == e.0) e.1 (rights_in_row row y) (is_member nat_eq (map (λ e. e.0) row) y) rises.1 (members (e.0 + 1) row y rises.2)

not_true : (b : Bool) → not b ≡ true → b ≡ false
not_true true h = let no : ⊥ = cc in absurd no
not_true false h = refl

module _ (label : ℕ → ℕ → RightSet) (x n : ℕ) (row : Edges) (rises : IsRisingRow row) (rights : (y : ℕ) → label x y ≡ rights_in_row row y) (targets : (y : ℕ) → HasEdge label x y → y < n) where
  none_past : (y : ℕ) → n ≤ y → label x y ≡ no_rights
  none_past y past = none_held-same (label x y) (empty (is_none_held (label x y)) refl)
    where
      empty : (b : Bool) → b ≡ is_none_held (label x y) → is_none_held (label x y) ≡ true
      empty true is = sym is
      empty false is = let below = targets y (sym is) in absurd (omega (arith, below, past))

  pub row_listed : row ≡ listing_of label n x
  row_listed = sym (listed n 0 (label x) (λ y past. none_past y (omega (arith, past))) row rises (λ y any. rights y))

  pub row_targets : (y : ℕ) → IsTrue (is_member nat_eq (map (λ e. e.0) row) y) ↔ HasEdge label x y
  row_targets y =
      let is = members 0 row y rises ∙ ap (λ s. not (is_none_held s)) (sym (rights y)) in (
        λ there. not_true (is_none_held (label x y)) (sym is ∙ there),
        λ edge. is ∙ ap not edge,
      )

-- a row that is handed out as a copy
module _ (label : ℕ → ℕ → RightSet) (x : ℕ) (old : Edges) (rises : IsRisingRow old) (rights : (y : ℕ) → label x y ≡ rights_in_row old y) where
  pub copied_listed : {E : Type 0} (r : Result Edges E) → IfOk r (λ row. row ≡ old) → IfOk r (λ row. (n : ℕ) → ((y : ℕ) → HasEdge label x y → y < n) → row ≡ listing_of label n x)
  copied_listed (Ok row) same = λ n targets. same ∙ row_listed label x n old rises rights targets
  copied_listed (Err e) same = tt

  pub copied_targets : {E : Type 0} (r : Result Edges E) → IfOk r (λ row. row ≡ old) → IfOk r (λ row. (n : ℕ) → ((y : ℕ) → HasEdge label x y → y < n) → (y : ℕ) → IsTrue (is_member nat_eq (map (λ e. e.0) row) y) ↔ HasEdge label x y)
  copied_targets (Ok row) same = λ n targets y.
      subst (λ (row : Edges). IsTrue (is_member nat_eq (map (λ e. e.0) row) y) ↔ HasEdge label x y) (sym same) (row_targets label x n old rises rights targets y)
  copied_targets (Err e) same = tt
