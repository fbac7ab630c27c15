-- The indexes of a heap's rows, once one row was changed.
use Rattle.std.proofs.Common.{◌≡◌, ◌≢◌, ℕ, Bool, true, false, cond, List, Option, Some, None, Result, Err, is_some, nat_eq, refl, sym, ap, subst, ◌∙◌, ◌<◌, length}
use Rattle.std.specs.Map.{lookup}
use Rattle.std.proofs.lemmas.Bool.Decides.{Decides-eqb}
use Rattle.tg_word.specs.declared.Place.{Place}
use Rattle.tg_block.specs.declared.CellKind.TheVariants.{Object}
use Rattle.tg_space.specs.SpaceList.{SpaceList}
use Rattle.tg_space.specs.Soundness.{IsKindAt}
use Rattle.tg_payload.specs.Table.{Payloads}
use Rattle.tg_rows.specs.Graph.{IsGraph}
use Rattle.tg_rows.specs.Inner.Deeds.{FollowsChange, KeepsIndexed, LooksAlong}
use Rattle.tg_rows.specs.declared.cells.Cells.{Cells}
use Rattle.tg_space.specs.SpaceTable.{SpaceTable}
use Rattle.tg_rows.specs.Index.{AreIndexed, Indexes, IsIndexed, IsMarked, IsRowIndex, KeepsOtherIndexes, MayIndex, SameIndexed, indexed_in, HasIndexAt}
use Rattle.tg_rows.specs.Rows.{IsVertexAt, name_at}
use Rattle.tg_rows.specs.declared.indexed_row.IndexedRow.{IndexedRow}
use Rattle.indexmap.specs.Layout.{set_value_at}
use Rattle.tg_rows.proofs.FollowedRows.{same_some}
use Rattle.tg_rows.proofs.Marked.{KeepsOthersMarked}
use Rattle.std.specs.Prelude.{slice_get}
use Rattle.std.proofs.lemmas.Option.{slice_get_within}
use Rattle.tg_rows.specs.Inner.Following.{IsWay}
use Rattle.tg_rows.specs.Spots.{IsSoundIndex, IsSoundRow}
use Rattle.tg_rows.specs.declared.indexes.Way.{Way}
use Rattle.tg_rows.specs.declared.indexes.Way.TheVariants.{Index}

abbrev pub Entries : Type 0
Entries = List (ℕ × IndexedRow)

-- the index under the name of an object is that of its row
pub index_at : (h : SpaceList) (payloads : Payloads) → IsGraph h payloads → (remembered : List Place) (rows : Entries) → AreIndexed h remembered rows → (from : Place) → IsKindAt h Object from → (own : ℕ) → own ≡ name_at h from → (row : IndexedRow) →
    lookup (nat_eq own) rows ≡ Some row → IsRowIndex h from row.names row.cells.items × IsMarked remembered row
index_at h payloads graph remembered rows indexed from object own named row found =
    let is = indexed own row found in
    (subst (λ (p : Place). IsRowIndex h p row.names row.cells.items) (graph.names is.place from is.vertex.object object (is.vertex.named ∙ named)) is.index, is.marked)

-- an entry of the name that was written is the one that was written, and any other is as it was
module _ (own name : ℕ) (new row : IndexedRow) (rows later : Entries) (written : (q : ℕ) → lookup (nat_eq q) later ≡ cond (nat_eq own q) (Some new) (lookup (nat_eq q) rows)) (found : lookup (nat_eq name) later ≡ Some row) where
  is_written : nat_eq own name ≡ true → (own ≡ name) × (new ≡ row)
  is_written same =
      let one : Some new ≡ Some row = ap (λ (b : Bool). cond b (Some new) (lookup (nat_eq name) rows)) (sym same) ∙ sym (written name) ∙ found in
      ((Decides-eqb own name).0 same, let row_is : new ≡ row = cc in row_is)

  is_kept : nat_eq own name ≡ false → lookup (nat_eq name) rows ≡ Some row
  is_kept other = ap (λ (b : Bool). cond b (Some new) (lookup (nat_eq name) rows)) (sym other) ∙ sym (written name) ∙ found

module _ (h after : SpaceList) (vertices : (x : ℕ) (p : Place) → IsVertexAt h x p → IsVertexAt after x p) (from : Place) (object : IsKindAt h Object from) (others : KeepsOtherIndexes h after from)
    (before now : List Place) (marks_kept : KeepsOthersMarked h before now from) (rows : Entries) (indexed : AreIndexed h before rows) (own : ℕ) (named : own ≡ name_at h from) where
  -- an index under another name stays
  other_stays : (name : ℕ) (row : IndexedRow) → name ≢ own → lookup (nat_eq name) rows ≡ Some row → IsIndexed after now name row
  other_stays name row other found =
      let is = indexed name row found in
      record {
        place = is.place;
        vertex = vertices name is.place is.vertex;
        index = others is.place row.names row.cells.items (λ same. other (sym is.vertex.named ∙ ap (name_at h) same ∙ sym named)) is.vertex.object is.index;
        marked = marks_kept is.place row (λ same. other (sym is.vertex.named ∙ ap (name_at h) same ∙ sym named)) is.vertex.object is.index.cells is.marked;
      }

  -- the row that was changed has no index
  pub indexes_kept : (later : Entries) → later ≡ rows → lookup (nat_eq own) rows ≡ None → AreIndexed after now later
  indexes_kept later same none name row found =
      let here = subst (λ (es : Entries). lookup (nat_eq name) es ≡ Some row) same found in
      other_stays name row (λ at. let gone : ◌≡◌ {A = Option IndexedRow} None (Some row) = sym none ∙ subst (λ n. lookup (nat_eq n) rows ≡ Some row) at here in let no : ⊥ = cc in no) here

  -- it has this one now
  pub indexes_written : (later : Entries) (new : IndexedRow) → ((q : ℕ) → lookup (nat_eq q) later ≡ cond (nat_eq own q) (Some new) (lookup (nat_eq q) rows)) → IsRowIndex after from new.names new.cells.items → IsMarked now new → AreIndexed after now later
  indexes_written later new written index marked name row found = by_name (nat_eq own name) refl
    where
      by_name : (b : Bool) → nat_eq own name ≡ b → IsIndexed after now name row
      by_name true same =
          let this = is_written own name new row rows later written found same in
          subst (λ n. IsIndexed after now n row) this.0
          (subst (IsIndexed after now own) this.1 (record { place = from; vertex = vertices own from (record { object = object; named = sym named }); index = index; marked = marked }))
      by_name false other =
          let ne : name ≢ own = λ e. let yes : nat_eq own name ≡ true = (Decides-eqb own name).1 (sym e) in let no : false ≡ true = sym other ∙ yes in absurd cc in
          other_stays name row ne (is_kept own name new row rows later written found other)

-- an index was replaced by another one of the same row
pub indexes_replaced : (rows later : Entries) (own : ℕ) (row new : IndexedRow) → lookup (nat_eq own) rows ≡ Some row → ((q : ℕ) → lookup (nat_eq q) later ≡ cond (nat_eq own q) (Some new) (lookup (nat_eq q) rows)) →
    ((h : SpaceList) (p : Place) → IsRowIndex h p row.names row.cells.items → IsRowIndex h p new.names new.cells.items) → ((places : List Place) → IsMarked places row → IsMarked places new) →
    (h : SpaceList) (remembered : List Place) → AreIndexed h remembered rows → AreIndexed h remembered later
indexes_replaced rows later own row new there written kept marked h remembered indexed name shown found = by_name (nat_eq own name) refl
  where
    by_name : (b : Bool) → nat_eq own name ≡ b → IsIndexed h remembered name shown
    by_name true same =
        let this = is_written own name new shown rows later written found same in
        let is = indexed own row there in
        subst (λ n. IsIndexed h remembered n shown) this.0
        (subst (IsIndexed h remembered own) this.1 (record { place = is.place; vertex = is.vertex; index = kept h is.place is.index; marked = marked remembered is.marked }))
    by_name false other = indexed name shown (is_kept own name new shown rows later written found other)

-- ---- which names have an index

pub entries_indexed : (rows later : Entries) → later ≡ rows → SameIndexed rows later
entries_indexed rows later same name = ap (λ (es : Entries). indexed_in es name) same

pub looked_indexed : (rows later : Entries) → ((q : ℕ) → lookup (nat_eq q) later ≡ lookup (nat_eq q) rows) → SameIndexed rows later
looked_indexed rows later same name = ap (λ (o : Option IndexedRow). is_some o) (same name)

pub written_indexed : (rows es : Entries) (at : ℕ) (row : IndexedRow) → SameIndexed rows es → SameIndexed rows (set_value_at es at row)
written_indexed rows es at row same name = same_some name es at row ∙ same name

pub may_index : (own : ℕ) (rows later : Entries) → SameIndexed rows later → MayIndex own rows later
may_index own rows later same = record { kept = λ yes. same own ∙ yes; others = λ x other. same x }

pub may_index_after : (own : ℕ) (rows mid later : Entries) → SameIndexed rows mid → MayIndex own mid later → MayIndex own rows later
may_index_after own rows mid later same then = record { kept = λ yes. then.kept (same own ∙ yes); others = λ x other. then.others x other ∙ same x }

pub same_after : (rows mid later : Entries) → SameIndexed rows mid → SameIndexed mid later → SameIndexed rows later
same_after rows mid later first then name = then name ∙ first name

-- the index that was added
module _ (own : ℕ) (rows later : Entries) (row : IndexedRow) (added : (q : ℕ) → lookup (nat_eq q) later ≡ cond (nat_eq own q) (Some row) (lookup (nat_eq q) rows)) where
  pub added_here : indexed_in later own ≡ true
  added_here =
      let same : nat_eq own own ≡ true = (Decides-eqb own own).1 refl in
      ap (λ (o : Option IndexedRow). is_some o) (added own) ∙ ap (λ (b : Bool). is_some (cond b (Some row) (lookup (nat_eq own) rows))) same

  pub added_index : MayIndex own rows later
  added_index = record { kept = λ yes. added_here; others = λ x other. by_test x other (nat_eq own x) refl }
    where
      by_test : (x : ℕ) → x ≢ own → (b : Bool) → nat_eq own x ≡ b → indexed_in later x ≡ indexed_in rows x
      by_test x other true same = absurd (other (sym ((Decides-eqb own x).0 same)))
      by_test x other false apart = ap (λ (o : Option IndexedRow). is_some o) (added x) ∙ ap (λ (b : Bool). is_some (cond b (Some row) (lookup (nat_eq x) rows))) apart

-- where a change is refused, the indexes are those of the rows still
pub change_refused : {P A E : Type 0} (old new : Cells P) (rows later : Indexes) (p : Place) (result : Result A E) (e : E) → result ≡ Err e → new.spaces ≡ old.spaces → new.remembered.places ≡ old.remembered.places → KeepsIndexed old rows later → FollowsChange old new rows later p result
change_refused old new rows later p result e is spaces places kept = record {
  indexed = subst (λ (x : SpaceTable). AreIndexed x.spaces new.remembered.places later.entries) (sym spaces) (subst (λ (ps : List Place). AreIndexed old.spaces.spaces ps later.entries) (sym places) kept.indexed);
  long = rw is tt;
  names = may_index (name_at old.spaces.spaces p) rows.entries later.entries kept.kept;
  kept = rw is kept.kept;
}

-- ---- the index by which a row is looked along

module _ {P : Type 0} (cells : Cells P) (rows : Indexes) (w : Way) (p : Place) (looks : LooksAlong cells rows w p) where
  pub row_looked : IsSoundRow cells.spaces.spaces p
  row_looked = record { sound = looks.graph.sound; row = record { object = looks.from; ends = looks.graph.ends p looks.from } }

  pub index_looked : (row : IndexedRow) → IsRowIndex cells.spaces.spaces p row.names row.cells.items → IsSoundIndex cells.spaces.spaces p row
  index_looked row index = record { sound = row_looked.sound; row = row_looked.row; index = index }

  here : (at : ℕ) → w ≡ Index at → HasIndexAt rows.entries (name_at cells.spaces.spaces p) at
  here at is = subst (λ (w : Way). IsWay cells.spaces.spaces rows.entries p w) is looks.way

  pub inside_looked : (at : ℕ) → w ≡ Index at → at < length rows.entries
  inside_looked at is = slice_get_within rows.entries at (name_at cells.spaces.spaces p, (here at is).row) (here at is).here

  -- the index at the place is that of the row
  pub there_looked : (at : ℕ) → w ≡ Index at → (row : IndexedRow) → ((name : ℕ) (r : IndexedRow) → slice_get rows.entries at ≡ Some (name, r) → row ≡ r) → IsSoundIndex cells.spaces.spaces p row
  there_looked at is row same =
      let own = name_at cells.spaces.spaces p in
      let found = here at is in
      let index = index_at cells.spaces.spaces cells.payloads looks.graph cells.remembered.places rows.entries looks.indexed p looks.from own refl found.row found.found in
      index_looked row (subst (λ (r : IndexedRow). IsRowIndex cells.spaces.spaces p r.names r.cells.items) (sym (same own found.row found.here)) index.0)
