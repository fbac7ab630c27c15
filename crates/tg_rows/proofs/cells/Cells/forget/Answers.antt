use Rattle.std.proofs.Common.{◌<◌, length, refl, sym, subst}
use Rattle.std.proofs.lemmas.Cmp.{nat_eq_equiv}
use Rattle.std.proofs.lemmas.Option.{slice_get_within}
use Rattle.indexmap.proofs.CallerLemmas.{updates-with_value_at}
use Rattle.indexmap.specs.Layout.{set_value_at}
use Rattle.tg_rows.specs.Inner.Following.{IsWay}
use Rattle.tg_rows.specs.Index.{AreIndexed, HasIndexAt, Indexes, IsAged, IsOldRow, SameIndexed}
use Rattle.tg_rows.specs.Rows.{name_at}
use Rattle.tg_rows.specs.declared.indexed_row.IndexedRow.{IndexedRow}
use Rattle.tg_rows.specs.declared.indexes.Way.{Way}
use Rattle.tg_rows.proofs.Ages.{aged_at, old_or_behind, row_there, same_row, written_aged}
use Rattle.tg_rows.proofs.Following.{index_narrowed, narrowed_number, narrowed_others, narrowed_vertices, way_none}
use Rattle.tg_rows.proofs.IndexedRows.{index_at, indexes_kept, indexes_written, written_indexed}
use Rattle.tg_rows.proofs.Marked.{aged_by, marked_by, others_marked_same}
use Rattle.std.proofs.lemmas.Bool.{false≢true}
use Rattle.tg_rows.proofs.cells.Cells.forget.Goals as goal

pub returns-in_default : goal.returns-in_default
returns-in_default g c =
    let old = c.requires.old.spaces in
    let places = c.args.self.now.remembered.places in
    let taken = c.requires.narrowed in
    let rows = c.args.rows.now.entries in
    record {
      indexed = indexes_kept old c.args.self.now.spaces.spaces (narrowed_vertices taken) c.requires.from taken.object (narrowed_others taken) places places (others_marked_same old places places c.requires.from refl) rows c.requires.indexed
          (name_at old c.requires.from) refl rows refl (way_none old rows c.requires.from c.args.way c.requires.looked c.in_default.not-Index);
      kept = λ x. refl;
    }

pub forget_if_empty-requires : goal.forget_if_empty-requires
forget_if_empty-requires g c =
    let old = c.requires.old.spaces in
    let own = name_at old c.requires.from in
    let es = c.rows.inside.indexes.entries in
    let places = c.args.self.now.remembered.places in
    let taken = c.requires.narrowed in
    let here : HasIndexAt c.args.rows.now.entries own c.in-Index.at = subst (λ (w : Way). IsWay old c.args.rows.now.entries c.requires.from w) c.in-Index.is c.requires.looked in
    let was : HasIndexAt es own c.in-Index.at = subst (λ (s : Indexes). HasIndexAt s.entries own c.in-Index.at) (sym c.rows.view_is) here in
    let indexed : AreIndexed old places es = subst (λ (s : Indexes). AreIndexed old places s.entries) (sym c.rows.view_is) c.requires.indexed in
    let row = c.in-Some.row.now in
    narrowed_number taken row.names row.cells.items
    (index_at old taken.payloads taken.graph places es indexed c.requires.from taken.object own refl row (row_there es own c.in-Index.at was row c.in-Some.ensures.value)).0

pub unreachable-requires : goal.unreachable-requires
unreachable-requires g c =
    let old = c.requires.old.spaces in
    let own = name_at old c.requires.from in
    let es = c.rows.inside.indexes.entries in
    let here : HasIndexAt c.args.rows.now.entries own c.in-Index.at = subst (λ (w : Way). IsWay old c.args.rows.now.entries c.requires.from w) c.in-Index.is c.requires.looked in
    let was : HasIndexAt es own c.in-Index.at = subst (λ (s : Indexes). HasIndexAt s.entries own c.in-Index.at) (sym c.rows.view_is) here in
    let low : c.in-Index.at < length es = slice_get_within es c.in-Index.at (own, was.row) was.here in
    false≢true (rw c.in-None.is at (c.get_index_mut.ensures.found.1 low))

pub invariant_of-rows : goal.invariant_of-rows
invariant_of-rows g c =
    let old = c.requires.old.spaces in
    let own = name_at old c.requires.from in
    let es = c.rows.inside.indexes.entries in
    let here : HasIndexAt c.args.rows.now.entries own c.in-Index.at = subst (λ (w : Way). IsWay old c.args.rows.now.entries c.requires.from w) c.in-Index.is c.requires.looked in
    let was : HasIndexAt es own c.in-Index.at = subst (λ (s : Indexes). HasIndexAt s.entries own c.in-Index.at) (sym c.rows.view_is) here in
    let low : c.in-Index.at < length es = slice_get_within es c.in-Index.at (own, was.row) was.here in
    let row = c.in-Some.row.now in
    let new : IndexedRow = record { names = c.forget_if_empty.new.names; cells = row.cells; old_cells = row.old_cells; noted = row.noted } in
    let same = same_row es own c.in-Index.at was c.in-Some.row.now c.in-Some.ensures.value in
    written_aged es (set_value_at es c.in-Index.at new) c.rows.inside.old_rows c.in-Index.at low c.rows.invariant new refl (aged_by row new refl refl (λ n. refl) (subst IsAged (sym same) (aged_at es c.rows.inside.old_rows c.rows.invariant own c.in-Index.at was)))
    (old_or_behind es c.rows.inside.old_rows c.rows.invariant own c.in-Index.at was new (λ is_old. subst IsOldRow (sym same) is_old))

pub returns : goal.returns
returns g c =
    let old = c.requires.old.spaces in
    let own = name_at old c.requires.from in
    let es = c.rows.inside.indexes.entries in
    let places = c.args.self.now.remembered.places in
    let taken = c.requires.narrowed in
    let here : HasIndexAt c.args.rows.now.entries own c.in-Index.at = subst (λ (w : Way). IsWay old c.args.rows.now.entries c.requires.from w) c.in-Index.is c.requires.looked in
    let was : HasIndexAt es own c.in-Index.at = subst (λ (s : Indexes). HasIndexAt s.entries own c.in-Index.at) (sym c.rows.view_is) here in
    let indexed : AreIndexed old places es = subst (λ (s : Indexes). AreIndexed old places s.entries) (sym c.rows.view_is) c.requires.indexed in
    let row = c.in-Some.row.now in
    let new : IndexedRow = record { names = c.forget_if_empty.new.names; cells = row.cells; old_cells = row.old_cells; noted = row.noted } in
    let is = index_at old taken.payloads taken.graph places es indexed c.requires.from taken.object own refl row (row_there es own c.in-Index.at was row c.in-Some.ensures.value) in
    let index = index_narrowed taken row.names row.cells.items is.0 c.args.word c.requires.left new.names c.forget_if_empty.ensures.len (λ empty. (c.forget_if_empty.ensures.gone empty).rows) c.forget_if_empty.ensures.kept in
    let written = updates-with_value_at c.rows.inside.indexes c.in-Index.at new nat_eq_equiv c.get_index_mut.ensures.unique own was.row was.here in
    let rows = c.args.rows.now.entries in
    let first : SameIndexed rows es = subst (λ (s : Indexes). SameIndexed rows s.entries) (sym c.rows.view_is) (λ x. refl) in
    record {
      indexed = indexes_written old c.args.self.now.spaces.spaces (narrowed_vertices taken) c.requires.from taken.object (narrowed_others taken) places places (others_marked_same old places places c.requires.from refl) es indexed own refl
          (set_value_at es c.in-Index.at new) new written.0 index
          (marked_by places row new refl refl (λ n. refl) is.1);
      kept = written_indexed rows es c.in-Index.at new first;
    }
