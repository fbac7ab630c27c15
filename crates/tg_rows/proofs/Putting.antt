-- What rights that are put into a row, or taken from it, make of a graph.
use Rattle.std.proofs.Common.{◌≡◌, ◌≢◌, ℕ, ◌<◌, ◌≤◌, ◌⊎◌, inl, inr, ◌==◌, ◌||◌, Bool, true, false, cond, List, length, Option, Some, None, refl, sym, ap, subst, arith, ◌∙◌}
use Rattle.std.specs.Prelude.{slice_index}
use Rattle.std.specs.List.{All, Contains}
use Rattle.std.proofs.lemmas.Bool.{cases_Bool, cases_lt}
use Rattle.std.proofs.lemmas.Bool.Decides.{eqb_tells}
use Rattle.std.proofs.lemmas.List.Elements.{All-contains}
use Rattle.tg_rights.specs.declared.Right.{Right}
use Rattle.tg_rights.specs.RightSet.{RightSet, has, is_none_held, minus, no_rights, union}
use Rattle.tg_rights.proofs.RightLaws.{has-none_held, has-no_rights, has-union, none_held-same, same-none_held, same_rights}
use Rattle.tg_model.specs.declared.value.Value.{Value}
use Rattle.tg_model.specs.Graph.{with_rights, without_rights}
use Rattle.tg_word.specs.declared.Place.{Place}
use Rattle.tg_word.specs.Word.{IsPlace, place_in, rights_in, word_at}
use Rattle.tg_word.proofs.Packing.{is_present-word_at, place_in-word_at, rights_in-word_at}
use Rattle.tg_block.specs.Cells.{kind_of}
use Rattle.tg_block.specs.declared.CellKind.TheVariants.{Free, Object}
use Rattle.tg_space.specs.SpaceList.{SpaceList, HasCell, IsSpaceList, cell_at, cells_of, with_word_at}
use Rattle.tg_space.specs.SpaceTable.{SpaceTable, IsNursery, IsSpaceTable, number_in_space, place_in_space, used_of}
use Rattle.tg_space.specs.Soundness.{IsKindAt, RefersTo}
use Rattle.tg_space.proofs.Tables.{table_list}
use Rattle.tg_nursery.specs.Allocation.{HasRoomLeft}
use Rattle.tg_payload.specs.Table.{Payloads}
use Rattle.tg_rows.specs.Content.{IsNamed}
use Rattle.tg_rows.specs.Graph.{IsGraph, content_in}
use Rattle.tg_rows.specs.Rows.{name_at, name_in, row_words}
use Rattle.tg_space.specs.Rows.{chunks_from, link_at, row_of}
use Rattle.tg_rows.specs.Spots.{CanPut, CanWrite, IsSpotIn, cells_for, is_empty, last_of, narrowed, refers_to, table_put, widened, word_where}
use Rattle.tg_rows.specs.declared.rows.Spot.{Spot}
use Rattle.tg_rows.specs.declared.rows.Spot.TheVariants.{Reference, Empty, Full}
use Rattle.tg_rows.proofs.Layouts.{present_place}
use Rattle.tg_rows.proofs.Slots.{IsOther}
use Rattle.tg_rows.proofs.Changed.{Becomes, with_label, with_label-minus, with_label-union}
use Rattle.tg_rows.proofs.Fresh.{row_used}
use Rattle.tg_rows.proofs.Written.{slot_changed, slot_cleared, slot_filled}
use Rattle.tg_rows.proofs.Linked.{chunk_added}
use Rattle.tg_rows.proofs.Finding.{IsReferenceTo, cell_held, empty_found, found_refers, label_is_read, last_ends, none_refers, others_where, reference_found}
use Rattle.tg_rows.proofs.Places.{held_place}

-- ---- rights

or_first : (x y : Bool) → (x || y) ≡ false → x ≡ false
or_first true y e = e
or_first false y e = refl

-- a union with a set that isn't empty isn't empty
pub union_some : (a b : RightSet) → is_none_held a ≡ false → is_none_held (union a b) ≡ false
union_some a b some = by_test (cases_Bool (is_none_held (union a b)))
  where
    by_test : (is_none_held (union a b) ≡ true) ⊎ (is_none_held (union a b) ≡ false) → is_none_held (union a b) ≡ false
    by_test (inr e) = e
    by_test (inl e) =
        let each : (x : Right) → has a x ≡ has no_rights x = λ x. or_first (has a x) (has b x) (sym (has-union a b x) ∙ has-none_held (union a b) e x) ∙ sym (has-no_rights x) in
        let none : is_none_held a ≡ true = same-none_held a (same_rights a no_rights each) in
        absurd cc

-- ---- changes of labels

pub relabel : (h after : SpaceList) (payloads : Payloads) (named : ℕ → Type 0) (label other : ℕ → ℕ → RightSet) (value : ℕ → Option Value) → ((a b : ℕ) → label a b ≡ other a b) → Becomes h after payloads named label value → Becomes h after payloads named other value
relabel h after payloads named label other value same becomes = record {
  graph = becomes.graph;
  content = record { names = becomes.content.names; labels = λ x y. becomes.content.labels x y ∙ same x y; values = becomes.content.values };
  vertices = becomes.vertices;
}

module _ (t : SpaceTable) (table : IsSpaceTable t) (payloads : Payloads) (graph : IsGraph t.spaces payloads) (p : Place) (object : IsKindAt t.spaces Object p) where
  abbrev h : SpaceList
  h = t.spaces

  abbrev qs : List Place
  qs = chunks_from t.spaces (length (cells_of t.spaces)) (link_at t.spaces p)

  is : IsSpaceList t.spaces
  is = table_list t table

  -- the cells of a row were handed out, so their words may be written
  pub can_write : (q : Place) (i : ℕ) → Contains (row_of t.spaces p) q → i < 8 → CanWrite t q i
  can_write q i has inside = record { held = held; inside = inside; handed_out = λ young. by_count young (cases_lt (number_in_space q) (used_of t q.space)) }
    where
      held : HasCell t.spaces q
      held = cell_held t.spaces payloads is graph p object q has

      by_count : 2 ≤ q.space → (number_in_space q < used_of t q.space) ⊎ (used_of t q.space ≤ number_in_space q) → number_in_space q < used_of t q.space
      by_count young (inl low) = low
      by_count young (inr high) =
          let free : IsKindAt t.spaces Free q = record { held = held; is = ap kind_of (table.fresh q held young high) } in
          absurd (All-contains (λ c. c ≢ q) (row_of t.spaces p) q (row_used t.spaces p qs object (graph.ends p object) q free) has refl)

  module _ (name : ℕ) (spot : Spot) (found : IsSpotIn t.spaces name p (chunks_from t.spaces (length (cells_of t.spaces)) (link_at t.spaces p)) spot) (space : ℕ) (left : HasRoomLeft t space (cells_for spot)) where
    pub can_put : CanPut t space spot
    can_put = by_spot spot found left
      where
        by_spot : (spot : Spot) → IsSpotIn t.spaces name p qs spot → HasRoomLeft t space (cells_for spot) → CanPut t space spot
        by_spot (Reference q i) here enough =
            let reference = reference_found t.spaces p name q i here in
            let refers = found_refers t.spaces payloads is graph p object name q i reference in
            let to = reference.to in
            record { can = can_write q i reference.cell (omega arith); place = present_place (slice_index (cell_at t.spaces q) i) refers.present }
        by_spot (Empty q i) here enough = let place = empty_found t.spaces p q i here.1 in let to = place.to in can_write q i place.cell (omega arith)
        by_spot (Full last) here enough =
            let ends = last_ends t.spaces p qs (graph.ends p object) in
            (can_write last 7 (subst (Contains (row_of t.spaces p)) here.2 ends.0) (omega arith), enough)

    module _ (nursery : IsNursery t space) (to : Place) (target : IsKindAt t.spaces Object to) (named : name_at t.spaces to ≡ name) (rights : RightSet) (some : is_none_held rights ≡ false) where
      abbrev word : ℕ
      word = word_at rights to

      place : IsPlace to
      place = held_place t.spaces is to target.held

      to_is : place_in word ≡ to
      to_is = place_in-word_at rights to place

      rights_is : rights_in word ≡ rights
      rights_is = rights_in-word_at rights to place

      pub refers : RefersTo t.spaces (word_at rights to)
      refers = record {
        present = is_present-word_at rights to place;
        rights = ap is_none_held rights_is ∙ some;
        object = subst (IsKindAt t.spaces Object) (sym to_is) target;
      }

      pub name_is : name_in t.spaces (word_at rights to) ≡ name
      name_is = ap (name_at t.spaces) to_is ∙ named

      abbrev label : ℕ → ℕ → RightSet
      label = (content_in t.spaces payloads).label

      abbrev Result : SpaceList → Type 0
      Result after = Becomes t.spaces after payloads (IsNamed (content_in t.spaces payloads)) (with_rights label (name_at t.spaces p) name rights) (content_in t.spaces payloads).value

      -- where the row had no reference to the name
      pub others : word_where (refers_to t.spaces name) t.spaces (row_of t.spaces p) ≡ None → All (IsOther t.spaces (name_in t.spaces (word_at rights to))) (row_words t.spaces p)
      others none = subst (λ n. All (IsOther t.spaces n) (row_words t.spaces p)) (sym name_is) (others_where t.spaces name (row_of t.spaces p) none)

      new_label : word_where (refers_to t.spaces name) t.spaces (row_of t.spaces p) ≡ None → (a b : ℕ) → with_label label (name_at t.spaces p) (name_in t.spaces word) (rights_in word) a b ≡ with_rights label (name_at t.spaces p) name rights a b
      new_label none a b =
          let was : label (name_at t.spaces p) name ≡ no_rights = none_refers t.spaces payloads is graph p object name none in
          ap (λ n. with_label label (name_at t.spaces p) n (rights_in word) a b) name_is
          ∙ with_label-union label (name_at t.spaces p) name rights (rights_in word) (rights_is ∙ ap (λ r. union r rights) (sym was)) a b

      widened_becomes : (q : Place) (i : ℕ) → IsReferenceTo t.spaces p name q i → Result (with_word_at t.spaces q i (widened (slice_index (cell_at t.spaces q) i) rights))
      widened_becomes q i reference =
          let old = slice_index (cell_at t.spaces q) i in
          let at = found_refers t.spaces payloads is graph p object name q i reference in
          let there = present_place old at.present in
          let new = widened old rights in
          let more = union (rights_in old) rights in
          let same_place : place_in new ≡ place_in old = place_in-word_at more (place_in old) there in
          let new_rights : rights_in new ≡ more = rights_in-word_at more (place_in old) there in
          let new_refers : RefersTo t.spaces new = record {
            present = is_present-word_at more (place_in old) there;
            rights = ap is_none_held new_rights ∙ union_some (rights_in old) rights at.rights;
            object = subst (IsKindAt t.spaces Object) (sym same_place) at.object;
          } in
          let new_name : name_in t.spaces new ≡ name = ap (name_at t.spaces) same_place ∙ reference.named in
          let was : label (name_at t.spaces p) name ≡ rights_in old = label_is_read t.spaces payloads is graph p object name ∙ reference.rights in
          relabel t.spaces (with_word_at t.spaces q i new) payloads (IsNamed (content_in t.spaces payloads)) (with_label label (name_at t.spaces p) (name_in t.spaces new) (rights_in new))
          (with_rights label (name_at t.spaces p) name rights) (content_in t.spaces payloads).value
          (λ a b. ap (λ n. with_label label (name_at t.spaces p) n (rights_in new) a b) new_name
          ∙ with_label-union label (name_at t.spaces p) name rights (rights_in new) (new_rights ∙ ap (λ r. union r rights) (sym was)) a b)
          (slot_changed t.spaces payloads is graph p q i object reference.cell (reference.from, reference.to) new reference.some new_refers same_place)

      filled_becomes : (q : Place) (i : ℕ) → word_where (refers_to t.spaces name) t.spaces (row_of t.spaces p) ≡ None → word_where is_empty t.spaces (row_of t.spaces p) ≡ Some (q, i) → Result (with_word_at t.spaces q i word)
      filled_becomes q i none here =
          let empty = empty_found t.spaces p q i here in
          relabel t.spaces (with_word_at t.spaces q i word) payloads (IsNamed (content_in t.spaces payloads)) (with_label label (name_at t.spaces p) (name_in t.spaces word) (rights_in word))
          (with_rights label (name_at t.spaces p) name rights) (content_in t.spaces payloads).value (new_label none)
          (slot_filled t.spaces payloads is graph p q i object empty.cell (empty.from, empty.to) word empty.empty refers (others none))

      extended_becomes : (last : Place) → word_where (refers_to t.spaces name) t.spaces (row_of t.spaces p) ≡ None → last_of p qs ≡ last → HasRoomLeft t space 1 → Result (table_put t space (Full last) rights to).spaces
      extended_becomes last none is_last enough =
          let ends = last_ends t.spaces p qs (graph.ends p object) in
          let chunk = place_in_space space (used_of t space) in
          let held : HasCell t.spaces chunk = record { space = nursery.1; block = omega (arith, enough); cell = omega arith } in
          let free : IsKindAt t.spaces Free chunk = record { held = held; is = ap kind_of (table.fresh chunk held nursery.0 (omega arith)) } in
          relabel t.spaces (table_put t space (Full last) rights to).spaces payloads (IsNamed (content_in t.spaces payloads)) (with_label label (name_at t.spaces p) (name_in t.spaces word) (rights_in word))
          (with_rights label (name_at t.spaces p) name rights) (content_in t.spaces payloads).value (new_label none)
          (chunk_added t.spaces payloads is graph p last chunk word object (subst (Contains (row_of t.spaces p)) is_last ends.0) (ap (link_at t.spaces) (sym is_last) ∙ ends.1) free refers (others none))

      pub put_becomes : Becomes t.spaces (table_put t space spot rights to).spaces payloads (IsNamed (content_in t.spaces payloads)) (with_rights (content_in t.spaces payloads).label (name_at t.spaces p) name rights) (content_in t.spaces payloads).value
      put_becomes = by_spot spot found left
        where
          by_spot : (spot : Spot) → IsSpotIn t.spaces name p qs spot → HasRoomLeft t space (cells_for spot) → Result (table_put t space spot rights to).spaces
          by_spot (Reference q i) here enough = widened_becomes q i (reference_found t.spaces p name q i here)
          by_spot (Empty q i) here enough = filled_becomes q i here.0 here.1
          by_spot (Full last) here enough = extended_becomes last here.0 here.2 enough

  -- ---- rights are taken

  module _ (name : ℕ) (rights : RightSet) where
    abbrev fewer : ℕ → ℕ → RightSet
    fewer = without_rights (content_in t.spaces payloads).label (name_at t.spaces p) name rights

    pub narrowed_becomes : (q : Place) (i : ℕ) → word_where (refers_to t.spaces name) t.spaces (row_of t.spaces p) ≡ Some (q, i) →
        Becomes t.spaces (with_word_at t.spaces q i (narrowed (slice_index (cell_at t.spaces q) i) rights)) payloads (IsNamed (content_in t.spaces payloads)) (without_rights (content_in t.spaces payloads).label (name_at t.spaces p) name rights) (content_in t.spaces payloads).value
    narrowed_becomes q i here = by_test (is_none_held (minus (rights_in old) rights)) refl
      where
        old : ℕ
        old = slice_index (cell_at t.spaces q) i

        reference : IsReferenceTo t.spaces p name q i
        reference = reference_found t.spaces p name q i here

        at : RefersTo t.spaces old
        at = found_refers t.spaces payloads is graph p object name q i reference

        was : (content_in t.spaces payloads).label (name_at t.spaces p) name ≡ rights_in old
        was = label_is_read t.spaces payloads is graph p object name ∙ reference.rights

        by_test : (b : Bool) → is_none_held (minus (rights_in old) rights) ≡ b →
            Becomes t.spaces (with_word_at t.spaces q i (cond b 0 (word_at (minus (rights_in old) rights) (place_in old)))) payloads (IsNamed (content_in t.spaces payloads)) fewer (content_in t.spaces payloads).value
        by_test true none =
            let label = (content_in t.spaces payloads).label in
            relabel t.spaces (with_word_at t.spaces q i 0) payloads (IsNamed (content_in t.spaces payloads)) (with_label label (name_at t.spaces p) (name_in t.spaces old) no_rights)
            fewer (content_in t.spaces payloads).value
            (λ a b. ap (λ n. with_label label (name_at t.spaces p) n no_rights a b) reference.named
            ∙ with_label-minus label (name_at t.spaces p) name rights no_rights (sym (none_held-same (minus (rights_in old) rights) none) ∙ ap (λ r. minus r rights) (sym was)) a b)
            (slot_cleared t.spaces payloads is graph p q i object reference.cell (reference.from, reference.to) reference.some)
        by_test false some =
            let label = (content_in t.spaces payloads).label in
            let there = present_place old at.present in
            let less = minus (rights_in old) rights in
            let new = word_at less (place_in old) in
            let same_place : place_in new ≡ place_in old = place_in-word_at less (place_in old) there in
            let new_rights : rights_in new ≡ less = rights_in-word_at less (place_in old) there in
            let new_refers : RefersTo t.spaces new = record {
              present = is_present-word_at less (place_in old) there;
              rights = ap is_none_held new_rights ∙ some;
              object = subst (IsKindAt t.spaces Object) (sym same_place) at.object;
            } in
            let new_name : name_in t.spaces new ≡ name = ap (name_at t.spaces) same_place ∙ reference.named in
            relabel t.spaces (with_word_at t.spaces q i new) payloads (IsNamed (content_in t.spaces payloads)) (with_label label (name_at t.spaces p) (name_in t.spaces new) (rights_in new))
            fewer (content_in t.spaces payloads).value
            (λ a b. ap (λ n. with_label label (name_at t.spaces p) n (rights_in new) a b) new_name
            ∙ with_label-minus label (name_at t.spaces p) name rights (rights_in new) (new_rights ∙ ap (λ r. minus r rights) (sym was)) a b)
            (slot_changed t.spaces payloads is graph p q i object reference.cell (reference.from, reference.to) new reference.some new_refers same_place)

-- where there are no rights, none are taken
pub nothing_taken : (label : ℕ → ℕ → RightSet) (x y : ℕ) (rights : RightSet) → label x y ≡ no_rights → (a b : ℕ) → label a b ≡ without_rights label x y rights a b
nothing_taken label x y rights none a b = by_names (eqb_tells a x) (eqb_tells b y)
  where
    by_names : (((a == x) ≡ true) × (a ≡ x)) ⊎ (((a == x) ≡ false) × (a ≢ x)) → (((b == y) ≡ true) × (b ≡ y)) ⊎ (((b == y) ≡ false) × (b ≢ y)) → label a b ≡ without_rights label x y rights a b
    by_names (inl one) (inl two) =
        let here : label a b ≡ no_rights = ap (λ n. label n b) one.1 ∙ ap (label x) two.1 ∙ none in
        rw (one.0, two.0) (here ∙ ap (λ r. minus r rights) (sym here))
    by_names (inl one) (inr two) = rw (one.0, two.0) refl
    by_names (inr one) _ = rw (one.0) refl
