-- Which cells of a row lie in Old, and which rows.
use Rattle.std.proofs.Common.{◌≡◌, ◌≢◌, ◌==◌, ℕ, zero, suc, ◌+◌, ◌-◌, ◌<◌, ◌≤◌, ◌⊎◌, inl, inr, Bool, true, false, cond, List, [], ◌∷◌, ◌++◌, Option, None, Some, get_or, length, map, nat_eq, position, slice_get, take, refl, sym, ap, subst, arith, ◌∙◌}
use Rattle.std.specs.Prelude.{IfSome, swap, option_map}
use Rattle.std.specs.List.{All}
use Rattle.std.specs.Map.{keys_of, lookup, lookup_key, values_of}
use Rattle.std.proofs.Math.Seq.{take-append-add}
use Rattle.std.proofs.lemmas.Bool.{cases_eq, cases_lt, eq-eqb, eqb-true, ne_eqb}
use Rattle.std.proofs.lemmas.List.{get_or-take, length-append, length-take, length-take-le, map-append, take-append-le}
use Rattle.std.proofs.lemmas.List.Edits.{length-swap}
use Rattle.std.proofs.lemmas.List.Elements.{All-append}
use Rattle.std.proofs.lemmas.Option.{get_or_from_slice_get, slice_get_within, slice_get-get_or}
use Rattle.indexmap.proofs.MapLemmas.{Found-position}
use Rattle.indexmap.proofs.ReorderLemmas.{exchange, exchange-within, get_or-swap}
use Rattle.indexmap.specs.Layout.{length-set_value_at, set_value_at}
use Rattle.tg_word.specs.declared.Place.{Place}
use Rattle.tg_space.specs.Targets.{from_space}
use Rattle.tg_space.specs.declared.kind.Kind.{Kind}
use Rattle.tg_space.specs.declared.kind.Kind.TheVariants.{Full, Nursery}
use Rattle.tg_space.specs.Numbering.{followed_place}
use Rattle.tg_rows.specs.Index.{AreAged, HasIndexAt, IsAged, IsOldPlace, IsOldRow}
use Rattle.tg_rows.specs.declared.indexed_row.IndexedRow.{IndexedRow}

-- cells of Old stay in a nursery collection, and none is asked about in a full one
pub stay : (kind : Kind) (starts : List ℕ) (to : ℕ → Place) (cells front : List Place) (first : ℕ) → (kind ≡ Full → first ≡ 0) → All IsOldPlace (take first cells) → front ≡ take first cells → All (λ p. followed_place (from_space kind) starts to p ≡ p) front
stay Nursery starts to cells front first full old is k d low =
    let here : from_space Nursery (get_or front k d).space ≡ false = subst (All IsOldPlace) (sym is) old k d low in rw here refl
stay Full starts to cells front first full old is k d low =
    let none : length front ≡ 0 = ap (λ (ps : List Place). length ps) is ∙ ap (λ n. length (take n cells)) (full refl) in absurd (omega (arith, none))

pub map_same : (f : Place → Place) (ps : List Place) → All (λ p. f p ≡ p) ps → map f ps ≡ ps
map_same f [] same = refl
map_same f (p ∷ ps) same = ap (λ q. q ∷ map f ps) (same zero p (omega arith)) ∙ ap (λ qs. p ∷ qs) (map_same f ps (λ k d low. same (suc k) d (omega (arith, low))))

-- what is followed after the cells that stay is the whole row followed
pub moved_behind : (f : Place → Place) (xs ys : List Place) → All (λ p. f p ≡ p) xs → xs ++ map f ys ≡ map f (xs ++ ys)
moved_behind f xs ys same = ap (λ (qs : List Place). qs ++ map f ys) (sym (map_same f xs same)) ∙ sym (map-append f xs ys)

-- the first cells are in Old, and so are as many after them
pub old_behind : (xs ys : List Place) (first n : ℕ) → length xs ≡ first → All IsOldPlace xs → All IsOldPlace (take n ys) → All IsOldPlace (take (first + n) (xs ++ ys))
old_behind xs ys first n long old behind =
    subst (All IsOldPlace) (sym (ap (λ k. take (k + n) (xs ++ ys)) (sym long) ∙ take-append-add xs ys n)) (All-append IsOldPlace xs (take n ys) old behind)

-- ---- the indexes of rows, and how many rows are known to lie in Old whole

abbrev pub Entries : Type 0
Entries = List (ℕ × IndexedRow)

abbrev Entry : Type 0
Entry = ℕ × IndexedRow

pub value_other : (es : Entries) (i j : ℕ) (w : IndexedRow) (d : Entry) → j ≢ i → get_or (set_value_at es i w) j d ≡ get_or es j d
value_other [] i j w d other = refl
value_other (e ∷ es) zero zero w d other = absurd (other refl)
value_other (e ∷ es) zero (suc j) w d other = refl
value_other (e ∷ es) (suc i) zero w d other = refl
value_other (e ∷ es) (suc i) (suc j) w d other = value_other es i j w d (λ e. other (ap suc e))

pub value_here : (es : Entries) (i : ℕ) (w : IndexedRow) (d : Entry) → i < length es → get_or (set_value_at es i w) i d ≡ ((get_or es i d).0, w)
value_here [] i w d low = absurd (omega arith)
value_here (e ∷ es) zero w d low = refl
value_here (e ∷ es) (suc i) w d low = value_here es i w d (omega arith)

pub value_of : (es : Entries) (i : ℕ) (v : IndexedRow) (d : Entry) → slice_get (values_of es) i ≡ Some v → (get_or es i d).1 ≡ v
value_of [] i v d found = let low = slice_get_within [] i v found in absurd (omega arith)
value_of (e ∷ es) zero v d found = cc
value_of (e ∷ es) (suc i) v d found = value_of es i v d found

pub slice_get_is : {X : Type 0} (xs : List X) (i : ℕ) (x : X) → slice_get xs i ≡ Some x → get_or xs i x ≡ x
slice_get_is xs i x found = get_or_from_slice_get xs i x x found

pub first_below : {X : Type 0} (xs : List X) (n j : ℕ) → j < length (take n xs) → j < n
first_below xs n j low = omega (arith, length-take n xs)

pub old_row_at : (es : Entries) (old : ℕ) → AreAged es old → (j : ℕ) (d : Entry) → j < old → IsOldRow (get_or es j d).1
old_row_at es old aged j d low =
    let inside = aged.within in
    subst (λ (e : Entry). IsOldRow e.1) (get_or-take old es j d low) (aged.first j d (omega (arith, length-take-le old es inside)))

-- One index is another now. It isn't among the first, or is of a row that is known to lie in Old whole.
pub written_aged : (es later : Entries) (old at : ℕ) → at < length es → AreAged es old → (next : IndexedRow) → later ≡ set_value_at es at next → IsAged next → (old ≤ at) ⊎ IsOldRow next → AreAged later old
written_aged es later old at inside aged next written next_aged either = subst (λ (l : Entries). AreAged l old) (sym written) (record {
  within = let low = aged.within in omega (arith, long, low);
  each = λ j d in_list. each_place j d (omega (arith, long)) (cases_eq j at);
  first = λ j d in_first.
      let before : j < old = first_below (set_value_at es at next) old j in_first in
      subst (λ (e : Entry). IsOldRow e.1) (sym (get_or-take old (set_value_at es at next) j d before)) (first_place j d before (cases_eq j at));
})
  where
    long : length (set_value_at es at next) ≡ length es
    long = length-set_value_at es at next

    here : (d : Entry) → get_or (set_value_at es at next) at d ≡ ((get_or es at d).0, next)
    here d = value_here es at next d inside

    each_place : (j : ℕ) (d : Entry) → j < length es → (j ≡ at) ⊎ (j ≢ at) → IsAged (get_or (set_value_at es at next) j d).1
    each_place j d in_list (inl same) = subst (λ (e : Entry). IsAged e.1) (sym (ap (λ k. get_or (set_value_at es at next) k d) same ∙ here d)) next_aged
    each_place j d in_list (inr ne) = subst (λ (e : Entry). IsAged e.1) (sym (value_other es at j next d ne)) (aged.each j d in_list)

    first_place : (j : ℕ) (d : Entry) → j < old → (j ≡ at) ⊎ (j ≢ at) → IsOldRow (get_or (set_value_at es at next) j d).1
    first_place j d before (inl same) = subst (λ (e : Entry). IsOldRow e.1) (sym (ap (λ k. get_or (set_value_at es at next) k d) same ∙ here d)) (either_old either)
      where
        either_old : (old ≤ at) ⊎ IsOldRow next → IsOldRow next
        either_old (inl low) = absurd (omega arith)
        either_old (inr is) = is
    first_place j d before (inr ne) = subst (λ (e : Entry). IsOldRow e.1) (sym (value_other es at j next d ne)) (old_row_at es old aged j d before)

-- ---- where an index stands

key_is : (name : ℕ) (es : Entries) (k : ℕ) → lookup_key (nat_eq name) es ≡ Some k → k ≡ name
key_is name [] k found = let no : ◌≡◌ {A = Option ℕ} None (Some k) = found in absurd cc
key_is name (e ∷ es) k found = by_name (key_is name es k) (nat_eq name e.0) refl
  where
    by_name : (lookup_key (nat_eq name) es ≡ Some k → k ≡ name) → (b : Bool) → nat_eq name e.0 ≡ b → k ≡ name
    by_name rest true same =
        let one : Some e.0 ≡ Some k = ap (λ (b : Bool). cond b (Some e.0) (lookup_key (nat_eq name) es)) (sym same) ∙ found in
        let first : e.0 ≡ k = cc in
        sym first ∙ sym (eqb-true name e.0 same)
    by_name rest false other = rest (ap (λ (b : Bool). cond b (Some e.0) (lookup_key (nat_eq name) es)) (sym other) ∙ found)

slice_get_map : {X Y : Type 0} (f : X → Y) (xs : List X) (i : ℕ) (x : X) → slice_get xs i ≡ Some x → slice_get (map f xs) i ≡ Some (f x)
slice_get_map f [] i x found = let low = slice_get_within [] i x found in absurd (omega arith)
slice_get_map f (y ∷ ys) zero x found = ap (option_map f) found
slice_get_map f (y ∷ ys) (suc i) x found = slice_get_map f ys i x found

index_there : (es : Entries) (name i : ℕ) → position (nat_eq name) (keys_of es) ≡ Some i → HasIndexAt es name i
index_there [] name i found = let low : i < 0 = (Found-position {X = IndexedRow} (nat_eq name) [] i found).within in absurd (omega arith)
index_there (d ∷ ds) name i found =
    let es : Entries = d ∷ ds in
    let is = Found-position (nat_eq name) es i found in
    let e : Entry = get_or es i d in
    let there : slice_get es i ≡ Some e = slice_get-get_or es i d is.within in
    let named : e.0 ≡ name = key_is name es e.0 (is.key ∙ slice_get_map (λ (x : Entry). x.0) es i e there) in
    record {
      row = e.1;
      here = there ∙ ap (λ n. Some (n, e.1)) named;
      found = is.value ∙ slice_get_map (λ (x : Entry). x.1) es i e there;
    }

pub place_there : (es : Entries) (name : ℕ) (o : Option ℕ) → o ≡ position (nat_eq name) (keys_of es) → IfSome o (HasIndexAt es name)
place_there es name None is = tt
place_there es name (Some i) is = index_there es name i (sym is)

-- an index for a row that had none
pub one_added : (es : Entries) (old : ℕ) → AreAged es old → (name : ℕ) (row : IndexedRow) → IsAged row → AreAged (es ++ (name, row) ∷ []) old
one_added es old aged name row here = record {
  within = let low = aged.within in omega (arith, low, length-append es ((name, row) ∷ []));
  each = All-append (λ (e : Entry). IsAged e.1) es ((name, row) ∷ []) aged.each one;
  first = subst (All (λ (e : Entry). IsOldRow e.1)) (sym (take-append-le old es ((name, row) ∷ []) aged.within)) aged.first;
}
  where
    one : (k : ℕ) (d : Entry) → k < 1 → IsAged (get_or ((name, row) ∷ []) k d).1
    one zero d low = here
    one (suc k) d low = absurd (omega arith)

-- of two that change places, the second place gets what stood at the first
pub exchanged_second : (a b : ℕ) → exchange a b b ≡ a
exchanged_second a b = by_place (cases_eq b a)
  where
    by_place : (b ≡ a) ⊎ (b ≢ a) → exchange a b b ≡ a
    by_place (inl same) = let test : (b == a) ≡ true = eq-eqb b a same in rw test same
    by_place (inr other) = let test : (b == a) ≡ false = ne_eqb b a other in let own : (b == b) ≡ true = eq-eqb b b refl in rw (test, own) refl

-- any other place keeps what stood there
pub exchanged_none : (a b i : ℕ) → i ≢ a → i ≢ b → exchange a b i ≡ i
exchanged_none a b i first second = let one : (i == a) ≡ false = ne_eqb i a first in let two : (i == b) ≡ false = ne_eqb i b second in rw (one, two) refl

-- the last of the first rows gives its place to a row that may get young cells
module _ (es later : Entries) (old at : ℕ) (aged : AreAged es old) (low : at < old) (swapped : later ≡ swap es at (old - 1)) where
  long : length later ≡ length es
  long = ap (λ (l : Entries). length l) swapped ∙ length-swap es at (old - 1)

  read : (j : ℕ) (d : Entry) → get_or later j d ≡ get_or es (exchange at (old - 1) j) d
  read j d = ap (λ (l : Entries). get_or l j d) swapped ∙ get_or-swap es at (old - 1) d (let in_list = aged.within in omega arith) (let in_list = aged.within in omega arith) j

  pub one_less : AreAged later (old - 1)
  one_less = record {
    within = let in_list = aged.within in omega (arith, long);
    each = λ j d in_later.
        let in_list = aged.within in
        subst (λ (e : Entry). IsAged e.1) (sym (read j d)) (aged.each (exchange at (old - 1) j) d (exchange-within at (old - 1) (length es) j (omega arith) (omega arith) (omega (arith, long))));
    first = λ j d in_first.
        let before : j < old - 1 = first_below later (old - 1) j in_first in
        subst (λ (e : Entry). IsOldRow e.1) (sym (get_or-take (old - 1) later j d before ∙ read j d))
        (old_row_at es old aged (exchange at (old - 1) j) d (exchange-within at (old - 1) old j low (omega arith) (omega arith)));
  }

  pub still_there : ((name : ℕ) → lookup (nat_eq name) later ≡ lookup (nat_eq name) es) → (name : ℕ) → HasIndexAt es name at → HasIndexAt later name (old - 1)
  still_there same name was =
      let in_list = aged.within in
      let place = exchanged_second at (old - 1) in
      let e : Entry = (name, was.row) in
      record {
        row = was.row;
        here = slice_get-get_or later (old - 1) e (omega (arith, long)) ∙ ap (λ (x : Entry). Some x) (read (old - 1) e ∙ ap (λ k. get_or es k e) place ∙ slice_get_is es at e was.here);
        found = same name ∙ was.found;
      }

-- ---- the index that was found

module _ (es : Entries) (name at : ℕ) (was : HasIndexAt es name at) where
  value_there : slice_get (values_of es) at ≡ Some was.row
  value_there = slice_get_map (λ (x : Entry). x.1) es at (name, was.row) was.here

  pub same_row : (row : IndexedRow) → Some row ≡ slice_get (values_of es) at → row ≡ was.row
  same_row row found = let both : Some row ≡ Some was.row = found ∙ value_there in cc

  pub row_there : (row : IndexedRow) → Some row ≡ slice_get (values_of es) at → lookup (nat_eq name) es ≡ Some row
  row_there row found = was.found ∙ sym (found ∙ value_there)

pub aged_at : (es : Entries) (old : ℕ) → AreAged es old → (name at : ℕ) (was : HasIndexAt es name at) → IsAged was.row
aged_at es old aged name at was =
    subst (λ (e : Entry). IsAged e.1) (slice_get_is es at (name, was.row) was.here) (aged.each at (name, was.row) (slice_get_within es at (name, was.row) was.here))

-- the index that was written there
pub written_there : (es : Entries) (name at : ℕ) (was : HasIndexAt es name at) (next : IndexedRow) → slice_get (set_value_at es at next) at ≡ Some (name, next)
written_there es name at was next =
    let e : Entry = (name, was.row) in
    let inside = slice_get_within es at e was.here in
    let key : (get_or es at e).0 ≡ name = ap (λ (x : Entry). x.0) (slice_get_is es at e was.here) in
    slice_get-get_or (set_value_at es at next) at e (omega (arith, length-set_value_at es at next, inside)) ∙ ap (λ (x : Entry). Some x) (value_here es at next e inside ∙ ap (λ n. (n, next)) key)

-- an index stays among the first ones only where it is of a row that is known to lie in Old whole
pub old_or_behind : (es : Entries) (old : ℕ) → AreAged es old → (name at : ℕ) (was : HasIndexAt es name at) (later : IndexedRow) → (IsOldRow was.row → IsOldRow later) → (old ≤ at) ⊎ IsOldRow later
old_or_behind es old aged name at was later still = by_place (cases_lt at old)
  where
    by_place : (at < old) ⊎ (old ≤ at) → (old ≤ at) ⊎ IsOldRow later
    by_place (inl before) = inr (still (subst (λ (e : Entry). IsOldRow e.1) (slice_get_is es at (name, was.row) was.here) (old_row_at es old aged at (name, was.row) before)))
    by_place (inr behind) = inl behind
