-- The indexes of a heap's rows, while a collection's copies are followed.
use Rattle.std.proofs.Common.{◌≡◌, ◌≢◌, ℕ, ◌+◌, ◌-◌, ◌<◌, ◌≤◌, ◌⊎◌, inl, inr, Bool, List, [], ◌∷◌, Option, None, Some, false, true, cond, zero, suc, length, get_or, set, take, nat_eq, refl, sym, ap, subst, arith, ◌∙◌, ⊎_elim, ◌++◌, map}
use Rattle.std.specs.Prelude.{IfSome, IsSome, is_some, slice_get, swap, swap_remove}
use Rattle.std.specs.List.{All, IsDistinct}
use Rattle.std.specs.Map.{keys_of, lookup, values_of}
use Rattle.std.proofs.Math.Seq.{take-length}
use Rattle.std.proofs.lemmas.Bool.{cases_eq}
use Rattle.std.proofs.lemmas.Bool.Decides.{Decides-eqb}
use Rattle.std.proofs.lemmas.Cmp.{nat_eq_equiv}
use Rattle.std.proofs.lemmas.List.{get_or_default, get_or-set_other, get_or-set_same, get_or-take, length-set, length-take, get_or-map, length-append, length-map, map-append, take-map}
use Rattle.std.proofs.lemmas.List.Edits.{length-swap}
use Rattle.std.proofs.lemmas.List.Elements.{Contains-get_or}
use Rattle.std.proofs.lemmas.Map.Views.{Contains-from_lookup, lookup-from_Contains}
use Rattle.std.proofs.lemmas.Option.{slice_get_within, slice_get-get_or}
use Rattle.indexmap.proofs.ReorderLemmas.{exchange, exchange-within, get_or-swap}
use Rattle.indexmap.specs.Layout.{length-set_value_at, set_value_at}
use Rattle.tg_word.specs.declared.Place.{Place}
use Rattle.tg_space.specs.Collection.{new_place}
use Rattle.tg_space.specs.Targets.{from_space}
use Rattle.tg_space.specs.declared.kind.Kind.{Kind}
use Rattle.tg_space.specs.declared.kind.Kind.TheVariants.{Full, Nursery}
use Rattle.tg_space.specs.Numbering.{followed_place, IsNumbered, followed_word}
use Rattle.tg_rows.specs.Index.{AreAged, AreFollowed, IsAged, IsFollowed, IsFollowedTo, IsLeftBehind, IsOldPlace, IsOldRow, IsMarked, AreMovedToOld}
use Rattle.tg_rows.specs.Inner.Followed.{CanFollow}
use Rattle.tg_rows.specs.declared.indexed_row.IndexedRow.{IndexedRow}
use Rattle.tg_rows.specs.declared.followed.Fate.TheVariants.{Gone, Young, Old}
use Rattle.tg_rows.proofs.Ages.{exchanged_none, exchanged_second, first_below, map_same, old_row_at, slice_get_is, value_here, value_of, value_other, written_aged, moved_behind, old_behind, stay}
use Rattle.tg_word.specs.Word.{place_in}

abbrev Entries : Type 0
Entries = List (ℕ × IndexedRow)

abbrev Entry : Type 0
Entry = ℕ × IndexedRow

-- ---- the last entry takes the place of one

module _ (es : Entries) (i : ℕ) (inside : i < length es) (p : Entry) where
  removed_before : (j : ℕ) (d : Entry) → j < i → get_or (swap_remove es i p) j d ≡ get_or es j d
  removed_before j d low =
      get_or-take (length es - 1) (set es i (get_or es (length es - 1) p)) j d (omega arith)
      ∙ get_or-set_other es i j (get_or es (length es - 1) p) d (λ e. omega arith)

  removed_long : length (swap_remove es i p) ≡ length es - 1
  removed_long = let a = length-take (length es - 1) (set es i (get_or es (length es - 1) p)) in let b = length-set es i (get_or es (length es - 1) p) in omega (arith, a, b)

  -- what holds of each entry from a place on but the one that goes holds of each that is left
  removed_each : (Q : Entry → Type 0) (from : ℕ) → from ≤ i → ((j : ℕ) (d : Entry) → from ≤ j → j ≢ i → j < length es → Q (get_or es j d)) → (j : ℕ) (d : Entry) → from ≤ j → j < length es - 1 → Q (get_or (swap_remove es i p) j d)
  removed_each Q from low each j d high short =
      let last = get_or es (length es - 1) p in
      let read = get_or-take (length es - 1) (set es i last) j d short in
      ⊎_elim
      (λ same. subst Q (sym (read ∙ ap (λ k. get_or (set es i last) k d) same ∙ get_or-set_same es i last d inside)) (each (length es - 1) p (omega arith) (λ e. omega (arith, e, same)) (omega arith)))
      (λ ne. subst Q (sym (read ∙ get_or-set_other es i j last d ne)) (each j d high ne (omega arith)))
      (cases_eq j i)

-- ---- which names have an index

-- a value that is written leaves the names
pub same_some : (q : ℕ) (es : Entries) (i : ℕ) (w : IndexedRow) → is_some (lookup (nat_eq q) (set_value_at es i w)) ≡ is_some (lookup (nat_eq q) es)
same_some q [] i w = refl
same_some q (e ∷ es) zero w = by_test (nat_eq q e.0)
  where
    by_test : (b : Bool) → is_some (cond b (Some w) (lookup (nat_eq q) es)) ≡ is_some (cond b (Some e.1) (lookup (nat_eq q) es))
    by_test true = refl
    by_test false = refl
same_some q (e ∷ es) (suc i) w = by_test (nat_eq q e.0) (same_some q es i w)
  where
    by_test : (b : Bool) → is_some (lookup (nat_eq q) (set_value_at es i w)) ≡ is_some (lookup (nat_eq q) es) → is_some (cond b (Some e.1) (lookup (nat_eq q) (set_value_at es i w))) ≡ is_some (cond b (Some e.1) (lookup (nat_eq q) es))
    by_test true rest = refl
    by_test false rest = rest

-- ---- the loop

-- The indexes before a place were followed, and the others not yet. One is missing only where its row wasn't copied.
pub record AreFollowedTo (kind : Kind) (starts forward : List ℕ) (notes : List Place) (rows es : Entries) (at : ℕ) : Type 0 where
  pub done : (j : ℕ) (d : Entry) → j < at → j < length es → IsFollowed kind starts forward notes rows (get_or es j d).0 (get_or es j d).1
  pub todo : (j : ℕ) (d : Entry) → at ≤ j → j < length es → lookup (nat_eq (get_or es j d).0) rows ≡ Some (get_or es j d).1
  pub kept : (name : ℕ) (row : IndexedRow) → lookup (nat_eq name) rows ≡ Some row → IsSome (lookup (nat_eq name) es) ⊎ IsLeftBehind kind starts forward row

-- a row that lies in Old whole is followed as it is by a nursery collection
old_followed : (starts forward : List ℕ) (notes : List Place) (rows : Entries) (name : ℕ) (row : IndexedRow) → lookup (nat_eq name) rows ≡ Some row → IsMarked notes row → IsAged row → IsOldRow row → IsFollowed Nursery starts forward notes rows name row
old_followed starts forward notes rows name row was marked aged old = record {
  row = row;
  was = was;
  to = record {
    names = refl;
    cells = sym (map_same (followed_place (from_space Nursery) starts (new_place forward)) row.cells.items stays);
    copied = λ p first moves. let here : from_space Nursery p.space ≡ false = in_old p first in let no : true ≡ false = sym moves ∙ here in absurd cc;
  };
  marked = marked;
}
  where
    all_old : All IsOldPlace row.cells.items
    all_old = subst (All IsOldPlace) (ap (λ n. take n row.cells.items) old ∙ take-length row.cells.items) aged.cells

    stays : All (λ p. followed_place (from_space Nursery) starts (new_place forward) p ≡ p) row.cells.items
    stays k d low = let here : from_space Nursery (get_or row.cells.items k d).space ≡ false = all_old k d low in rw here refl

    in_old : (p : Place) → slice_get row.cells.items 0 ≡ Some p → IsOldPlace p
    in_old p first =
        let low = slice_get_within row.cells.items 0 p first in
        subst IsOldPlace (slice_get_is row.cells.items 0 p first) (all_old 0 p low)

-- the first rows needn't be looked at
pub follow_begins : (kind : Kind) (starts forward : List ℕ) (notes : List Place) (es : Entries) (first : ℕ) → ((name : ℕ) (row : IndexedRow) → lookup (nat_eq name) es ≡ Some row → CanFollow kind starts forward notes row) → AreAged es first → (kind ≡ Full → first ≡ 0) → IsDistinct nat_eq (keys_of es) → AreFollowedTo kind starts forward notes es es first
follow_begins kind starts forward notes es first able aged full unique = record {
  done = λ j d low inside. first_done kind able full j d low inside;
  todo = λ j d high inside. found_at j d inside;
  kept = λ name row found. inl (ap (λ (o : Option IndexedRow). is_some o) found);
}
  where
    found_at : (j : ℕ) (d : Entry) → j < length es → lookup (nat_eq (get_or es j d).0) es ≡ Some (get_or es j d).1
    found_at j d inside = lookup-from_Contains nat_eq_equiv (get_or es j d).0 (get_or es j d).1 es unique (Contains-get_or es j d inside)

    first_done : (k : Kind) → ((name : ℕ) (row : IndexedRow) → lookup (nat_eq name) es ≡ Some row → CanFollow k starts forward notes row) → (k ≡ Full → first ≡ 0) → (j : ℕ) (d : Entry) → j < first → j < length es → IsFollowed k starts forward notes es (get_or es j d).0 (get_or es j d).1
    first_done Full can none j d low inside = let zero_rows = none refl in absurd (omega (arith, zero_rows))
    first_done Nursery can none j d low inside =
        let was = found_at j d inside in
        old_followed starts forward notes es (get_or es j d).0 (get_or es j d).1 was (can (get_or es j d).0 (get_or es j d).1 was).able.marked (aged.each j d inside) (old_row_at es first aged j d low)

pub follow_ends : (kind : Kind) (starts forward : List ℕ) (notes : List Place) (rows es : Entries) (at : ℕ) → AreFollowedTo kind starts forward notes rows es at → length es ≤ at → AreFollowed kind starts forward notes rows es
follow_ends kind starts forward notes rows es at followed all = record {
  each = λ name row found.
      let has = Contains-from_lookup (λ x y same. (Decides-eqb x y).0 same) name row es found in
      let low = has.1 in
      subst (λ (e : Entry). IsFollowed kind starts forward notes rows e.0 e.1) has.2 (followed.done has.0 (name, row) (omega arith) low);
  kept = followed.kept;
}

module _ (kind : Kind) (starts forward : List ℕ) (notes : List Place) (rows es later : Entries) (at : ℕ) (inside : at < length es) (followed : AreFollowedTo kind starts forward notes rows es at) (row next : IndexedRow)
    (found : slice_get (values_of es) at ≡ Some row) (written : later ≡ set_value_at es at next) where
  abbrev here : Entry
  here = get_or es at (0, row)

  was : lookup (nat_eq here.0) rows ≡ Some row
  was = subst (λ (r : IndexedRow). lookup (nat_eq here.0) rows ≡ Some r) (value_of es at row (0, row) found) (followed.todo at (0, row) (omega arith) inside)

  pub later_long : length later ≡ length es
  later_long = ap (λ (l : Entries). length l) written ∙ length-set_value_at es at next

  other : (j : ℕ) (d : Entry) → j ≢ at → get_or later j d ≡ get_or es j d
  other j d ne = ap (λ (l : Entries). get_or l j d) written ∙ value_other es at j next d ne

  still_some : (q : ℕ) → is_some (lookup (nat_eq q) later) ≡ is_some (lookup (nat_eq q) es)
  still_some q = ap (λ (l : Entries). is_some (lookup (nat_eq q) l)) written ∙ same_some q es at next

  kept_later : (name : ℕ) (r : IndexedRow) → lookup (nat_eq name) rows ≡ Some r → IsSome (lookup (nat_eq name) later) ⊎ IsLeftBehind kind starts forward r
  kept_later name r in_rows = ⊎_elim (λ some. inl (still_some name ∙ some)) (λ left. inr left) (followed.kept name r in_rows)

  -- one more was followed
  pub one_followed : IsFollowedTo kind starts forward row next → IsMarked notes next → AreFollowedTo kind starts forward notes rows later (at + 1)
  one_followed to marked = record {
    done = λ j d low in_later. by_place j d low in_later (cases_eq j at);
    todo = λ j d high in_later.
        subst (λ (e : Entry). lookup (nat_eq e.0) rows ≡ Some e.1) (sym (other j d (λ e. omega arith))) (followed.todo j d (omega arith) (omega (arith, later_long)));
    kept = kept_later;
  }
    where
      by_place : (j : ℕ) (d : Entry) → j < at + 1 → j < length later → (j ≡ at) ⊎ (j ≢ at) → IsFollowed kind starts forward notes rows (get_or later j d).0 (get_or later j d).1
      by_place j d low in_later (inl same) =
          let now : get_or later j d ≡ (here.0, next) =
          ap (λ (l : Entries). get_or l j d) written ∙ ap (λ k. get_or (set_value_at es at next) k d) same ∙ value_here es at next d inside
          ∙ ap (λ (e : Entry). (e.0, next)) (get_or_default es at d (0, row) inside) in
          subst (λ (e : Entry). IsFollowed kind starts forward notes rows e.0 e.1) (sym now) (record { row = row; was = was; to = to; marked = marked })
      by_place j d low in_later (inr ne) =
          subst (λ (e : Entry). IsFollowed kind starts forward notes rows e.0 e.1) (sym (other j d ne)) (followed.done j d (omega arith) (omega (arith, later_long)))

  -- what was taken out
  pub taken : (o : Option Entry) (rest : Entries) → o ≡ slice_get later at → IfSome o (λ p. rest ≡ swap_remove later at p) → (rest ≡ swap_remove later at (get_or later at (0, row))) × (length rest + 1 ≡ length later)
  taken o rest is gone =
      let there : o ≡ Some (get_or later at (0, row)) = is ∙ slice_get-get_or later at (0, row) (omega (arith, later_long)) in
      let out : rest ≡ swap_remove later at (get_or later at (0, row)) = subst (λ (o : Option Entry). IfSome o (λ p. rest ≡ swap_remove later at p)) there gone in
      let long : length rest ≡ length later - 1 = ap (λ (l : Entries). length l) out ∙ removed_long later at (omega (arith, later_long)) (get_or later at (0, row)) in
      (out, omega (arith, later_long, long))

  -- the name that goes is that of the row at the place
  pub taken_out : (o : Option Entry) (rest : Entries) → o ≡ slice_get later at → IfSome o (λ p. (q : ℕ) → lookup (nat_eq q) rest ≡ cond (nat_eq p.0 q) None (lookup (nat_eq q) later)) → (q : ℕ) → lookup (nat_eq q) rest ≡ cond (nat_eq here.0 q) None (lookup (nat_eq q) later)
  taken_out o rest is gone =
      let there : o ≡ Some (get_or later at (0, row)) = is ∙ slice_get-get_or later at (0, row) (omega (arith, later_long)) in
      let now : (get_or later at (0, row)).0 ≡ here.0 =
      ap (λ (e : Entry). e.0) (ap (λ (l : Entries). get_or l at (0, row)) written ∙ value_here es at next (0, row) inside) in
      let out : (q : ℕ) → lookup (nat_eq q) rest ≡ cond (nat_eq (get_or later at (0, row)).0 q) None (lookup (nat_eq q) later) = subst (λ (o : Option Entry). IfSome o (λ p. (q : ℕ) → lookup (nat_eq q) rest ≡ cond (nat_eq p.0 q) None (lookup (nat_eq q) later))) there gone in
      subst (λ (n : ℕ). (q : ℕ) → lookup (nat_eq q) rest ≡ cond (nat_eq n q) None (lookup (nat_eq q) later)) now out

  -- one goes, whose row wasn't copied
  pub one_gone : (p : Entry) (rest : Entries) → rest ≡ swap_remove later at p → IsLeftBehind kind starts forward row → ((q : ℕ) → lookup (nat_eq q) rest ≡ cond (nat_eq here.0 q) None (lookup (nat_eq q) later)) → AreFollowedTo kind starts forward notes rows rest at
  one_gone p rest gone left out = record {
    done = λ j d low in_rest.
        subst (λ (l : Entries). IsFollowed kind starts forward notes rows (get_or l j d).0 (get_or l j d).1) (sym gone)
        (subst (λ (e : Entry). IsFollowed kind starts forward notes rows e.0 e.1) (sym (removed_before later at (omega (arith, later_long)) p j d low ∙ other j d (λ e. omega arith)))
        (followed.done j d low (omega (arith, later_long))));
    todo = λ j d high in_rest.
        let long : length rest ≡ length (swap_remove later at p) = ap (λ (l : Entries). length l) gone in
        subst (λ (l : Entries). lookup (nat_eq (get_or l j d).0) rows ≡ Some (get_or l j d).1) (sym gone)
        (removed_each later at (omega (arith, later_long)) p (λ e. lookup (nat_eq e.0) rows ≡ Some e.1) at (omega arith)
        (λ k e behind ne in_later. subst (λ (x : Entry). lookup (nat_eq x.0) rows ≡ Some x.1) (sym (other k e ne)) (followed.todo k e behind (omega (arith, later_long))))
        j d high (let short = removed_long later at (omega (arith, later_long)) p in omega (arith, long, short, in_rest)));
    kept = λ name r in_rows. by_name name r in_rows (nat_eq here.0 name) refl;
  }
    where
      by_name : (name : ℕ) (r : IndexedRow) → lookup (nat_eq name) rows ≡ Some r → (b : Bool) → nat_eq here.0 name ≡ b → IsSome (lookup (nat_eq name) rest) ⊎ IsLeftBehind kind starts forward r
      by_name name r in_rows true same =
          let name_is : here.0 ≡ name = (Decides-eqb here.0 name).0 same in
          let both : Some row ≡ Some r = sym was ∙ ap (λ (n : ℕ). lookup (nat_eq n) rows) name_is ∙ in_rows in
          let row_same : row ≡ r = cc in
          inr (subst (IsLeftBehind kind starts forward) row_same left)
      by_name name r in_rows false other_name =
          let stays : lookup (nat_eq name) rest ≡ lookup (nat_eq name) later = out name ∙ ap (λ (b : Bool). cond b None (lookup (nat_eq name) later)) other_name in
          ⊎_elim (λ some. inl (ap (λ (o : Option IndexedRow). is_some o) stays ∙ some)) (λ gone_too. inr gone_too) (kept_later name r in_rows)

-- ---- ages, while rows are followed

module _ (es later : Entries) (old at : ℕ) (inside : at < length es) (low : old ≤ at) (aged : AreAged es old) (row next : IndexedRow) (found : slice_get (values_of es) at ≡ Some row) (written : later ≡ set_value_at es at next) (next_aged : IsAged next) where
  long_as : length later ≡ length es
  long_as = ap (λ (l : Entries). length l) written ∙ length-set_value_at es at next

  -- a row before the place is as it was
  pub aged_later : AreAged later old
  aged_later = written_aged es later old at inside aged next written next_aged (inl low)

  -- one goes
  pub aged_rest : (p : Entry) (rest : Entries) → rest ≡ swap_remove later at p → AreAged rest old
  aged_rest p rest gone = subst (λ (l : Entries). AreAged l old) (sym gone) (record {
    within = omega (arith, long_as, short);
    each = λ j d in_rest. removed_each later at (omega (arith, long_as)) p (λ e. IsAged e.1) 0 (omega arith) (λ k e _ _ in_later. aged_later.each k e in_later) j d (omega arith) (omega (arith, short));
    first = λ j d in_first.
        let before : j < old = first_below (swap_remove later at p) old j in_first in
        subst (λ (e : Entry). IsOldRow e.1) (sym (get_or-take old (swap_remove later at p) j d before ∙ removed_before later at (omega (arith, long_as)) p j d (omega arith))) (old_row_at later old aged_later j d before);
  })
    where
      short : length (swap_remove later at p) ≡ length later - 1
      short = removed_long later at (omega (arith, long_as)) p

  -- a row that lies in Old whole joins the first ones
  pub aged_swapped : IsOldRow next → (swapped : Entries) → swapped ≡ swap later at old → AreAged swapped (old + 1)
  aged_swapped old_now swapped is = subst (λ (l : Entries). AreAged l (old + 1)) (sym is) (record {
    within = omega (arith, long_as, long);
    each = λ j d in_list.
        subst (λ (e : Entry). IsAged e.1) (sym (read j d)) (aged_later.each (exchange at old j) d (exchange-within at old (length later) j (omega (arith, long_as)) (omega (arith, long_as)) (omega (arith, long))));
    first = λ j d in_first.
        let before : j < old + 1 = first_below (swap later at old) (old + 1) j in_first in
        subst (λ (e : Entry). IsOldRow e.1) (sym (get_or-take (old + 1) (swap later at old) j d before ∙ read j d)) (by_place j d before (cases_eq j old));
  })
    where
      long : length (swap later at old) ≡ length later
      long = length-swap later at old

      read : (j : ℕ) (d : Entry) → get_or (swap later at old) j d ≡ get_or later (exchange at old j) d
      read j d = get_or-swap later at old d (omega (arith, long_as)) (omega (arith, long_as)) j

      by_place : (j : ℕ) (d : Entry) → j < old + 1 → (j ≡ old) ⊎ (j ≢ old) → IsOldRow (get_or later (exchange at old j) d).1
      by_place j d before (inl same) =
          let place : exchange at old j ≡ at = ap (exchange at old) same ∙ exchanged_second at old in
          let here : get_or later at d ≡ ((get_or es at d).0, next) = ap (λ (l : Entries). get_or l at d) written ∙ value_here es at next d inside in
          subst (λ (e : Entry). IsOldRow e.1) (sym (ap (λ k. get_or later k d) place ∙ here)) old_now
      by_place j d before (inr ne) =
          let place = exchanged_none at old j (λ e. omega arith) ne in
          subst (λ k. IsOldRow (get_or later k d).1) (sym place) (old_row_at later old aged_later j d (omega arith))

-- what became of a row is one of three
pub young_or_gone : Young ≡ Gone → ⊥
young_or_gone same = cc

pub old_or_gone : Old ≡ Gone → ⊥
old_or_gone same = cc

pub swapped_long : (later swapped : Entries) (a b : ℕ) → swapped ≡ swap later a b → length swapped ≡ length later
swapped_long later swapped a b is = ap (λ (l : Entries). length l) is ∙ length-swap later a b

-- two of those that were followed change places
pub followed_swapped : (kind : Kind) (starts forward : List ℕ) (notes : List Place) (rows later swapped : Entries) (old at : ℕ) → at < length later → old ≤ at → AreFollowedTo kind starts forward notes rows later (at + 1) → swapped ≡ swap later at old → ((q : ℕ) → lookup (nat_eq q) swapped ≡ lookup (nat_eq q) later) → AreFollowedTo kind starts forward notes rows swapped (at + 1)
followed_swapped kind starts forward notes rows later swapped old at inside low followed is same = record {
  done = λ j d before in_list.
      subst (λ (l : Entries). IsFollowed kind starts forward notes rows (get_or l j d).0 (get_or l j d).1) (sym is)
      (subst (λ (e : Entry). IsFollowed kind starts forward notes rows e.0 e.1) (sym (read j d))
      (followed.done (exchange at old j) d (exchange-within at old (at + 1) j (omega arith) (omega arith) before) (exchange-within at old (length later) j inside (omega arith) (omega (arith, long, in_list)))));
  todo = λ j d behind in_list.
      let place = exchanged_none at old j (λ e. omega arith) (λ e. omega arith) in
      subst (λ (l : Entries). lookup (nat_eq (get_or l j d).0) rows ≡ Some (get_or l j d).1) (sym is)
      (subst (λ (e : Entry). lookup (nat_eq e.0) rows ≡ Some e.1) (sym (read j d ∙ ap (λ k. get_or later k d) place)) (followed.todo j d behind (omega (arith, long, in_list))));
  kept = λ name row in_rows. ⊎_elim (λ some. inl (ap (λ (o : Option IndexedRow). is_some o) (same name) ∙ some)) (λ left. inr left) (followed.kept name row in_rows);
}
  where
    long : length swapped ≡ length later
    long = ap (λ (l : Entries). length l) is ∙ length-swap later at old

    read : (j : ℕ) (d : Entry) → get_or (swap later at old) j d ≡ get_or later (exchange at old j) d
    read j d = get_or-swap later at old d inside (omega arith) j

-- what is asked of the row at a place
pub can_follow : (kind : Kind) (starts forward : List ℕ) (notes : List Place) (rows es : Entries) (at : ℕ) → at < length es → AreFollowedTo kind starts forward notes rows es at →
    ((name : ℕ) (r : IndexedRow) → lookup (nat_eq name) rows ≡ Some r → CanFollow kind starts forward notes r) → (row : IndexedRow) → slice_get (values_of es) at ≡ Some row → CanFollow kind starts forward notes row
can_follow kind starts forward notes rows es at inside followed can row found =
    can (get_or es at (0, row)).0 row
    (subst (λ (r : IndexedRow). lookup (nat_eq (get_or es at (0, row)).0) rows ≡ Some r) (value_of es at row (0, row) found) (followed.todo at (0, row) (omega arith) inside))

-- ---- the words of the cells of a row

place_of_either : (b : Bool) (x y : ℕ) → place_in (cond b x y) ≡ cond b (place_in x) (place_in y)
place_of_either true x y = refl
place_of_either false x y = refl

-- the place in the new word of a cell is where the cell is
places_followed : (from : ℕ → Bool) (starts forward words : List ℕ) → map place_in (map (followed_word from starts forward) words) ≡ map (followed_place from starts (new_place forward)) (map place_in words)
places_followed from starts forward [] = refl
places_followed from starts forward (word ∷ words) =
    ap (λ (p : Place). p ∷ map place_in (map (followed_word from starts forward) words)) (place_of_either (from (place_in word).space) _ word)
    ∙ ap (λ (ps : List Place). followed_place from starts (new_place forward) (place_in word) ∷ ps) (places_followed from starts forward words)

-- after a full collection each of them lies in Old
followed_old : (kind : Kind) (starts forward words : List ℕ) → kind ≡ Full → AreMovedToOld kind forward → All (λ word. IsNumbered starts (length forward) (place_in word)) words → All IsOldPlace (map place_in (map (followed_word (from_space kind) starts forward) words))
followed_old kind starts forward [] full old numbered k d low = absurd (omega arith)
followed_old kind starts forward (word ∷ words) full old numbered zero d low =
    subst (λ (other : Kind). IsOldPlace (place_in (followed_word (from_space other) starts forward word))) (sym full) (old full _ 0 (numbered zero word (omega arith)).inside)
followed_old kind starts forward (word ∷ words) full old numbered (suc k) d low = followed_old kind starts forward words full old (λ i e inside. numbered (suc i) e (omega (arith, inside))) k d (omega (arith, low))

-- what holds of all cells holds of those after the first ones
behind_front : (P : Place → Type 0) (front young : List ℕ) → All P (map place_in (front ++ young)) → All (λ word. P (place_in word)) young
behind_front P [] young all k e low =
    let d : Place = place_in 0 in
    subst P (get_or-map place_in young k e d low) (all k d (omega (arith, low, length-map young place_in)))
behind_front P (word ∷ front) young all k e low = behind_front P front young (λ i d inside. all (suc i) d (omega (arith, inside))) k e low

-- Of the words of a row the first ones stay, and the others are followed.
module _ (kind : Kind) (starts forward words front young new : List ℕ) (first : ℕ) (whole : words ≡ front ++ young) (front_is : front ≡ take first words) (front_long : length front ≡ first)
    (followed : new ≡ map (followed_word (from_space kind) starts forward) young) where
  pub words_long : length (front ++ new) ≡ length words
  words_long =
      omega (arith, length-append front new, ap (λ (ws : List ℕ). length ws) followed, length-map young (followed_word (from_space kind) starts forward), ap (λ (ws : List ℕ). length ws) whole, length-append front young)

  front_places : map place_in front ≡ take first (map place_in words)
  front_places = ap (map place_in) front_is ∙ sym (take-map place_in first words)

  pub words_moved : (kind ≡ Full → first ≡ 0) → All IsOldPlace (take first (map place_in words)) → map place_in (front ++ new) ≡ map (followed_place (from_space kind) starts (new_place forward)) (map place_in words)
  words_moved full old =
      let f = followed_place (from_space kind) starts (new_place forward) in
      map-append place_in front new
      ∙ ap (λ (ps : List Place). map place_in front ++ ps) (ap (map place_in) followed ∙ places_followed (from_space kind) starts forward young)
      ∙ moved_behind f (map place_in front) (map place_in young) (stay kind starts (new_place forward) (map place_in words) (map place_in front) first full old front_places)
      ∙ ap (map f) (sym (map-append place_in front young) ∙ ap (map place_in) (sym whole))

  pub words_old : (n : ℕ) → All IsOldPlace (take first (map place_in words)) → All IsOldPlace (take n (map place_in new)) → All IsOldPlace (take (first + n) (map place_in (front ++ new)))
  words_old n old behind =
      subst (λ (ps : List Place). All IsOldPlace (take (first + n) ps)) (sym (map-append place_in front new))
      (old_behind (map place_in front) (map place_in new) first n (length-map front place_in ∙ front_long) (subst (All IsOldPlace) (sym front_places) old) behind)

  pub young_numbered : All (IsNumbered starts (length forward)) (map place_in words) → All (λ word. IsNumbered starts (length forward) (place_in word)) young
  young_numbered numbered =
      behind_front (IsNumbered starts (length forward)) front young (subst (λ (ws : List ℕ). All (IsNumbered starts (length forward)) (map place_in ws)) whole numbered)

  pub young_old : AreMovedToOld kind forward → All (IsNumbered starts (length forward)) (map place_in words) → kind ≡ Full → All IsOldPlace (map place_in new)
  young_old old numbered full = subst (λ (ws : List ℕ). All IsOldPlace (map place_in ws)) (sym followed) (followed_old kind starts forward young full old (young_numbered numbered))
