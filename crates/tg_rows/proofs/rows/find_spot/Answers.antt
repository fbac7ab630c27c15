use Rattle.std.proofs.Common.{[], ◌∙◌, ◌<◌, sym, subst, length, arith}
use Rattle.std.specs.List.{All}
use Rattle.tg_space.specs.SpaceList.{cell_at, cells_of}
use Rattle.tg_space.specs.Soundness.{IsReference}
use Rattle.tg_space.proofs.Tables.{table_list}
use Rattle.tg_rows.specs.Rows.{references_of}
use Rattle.tg_space.specs.Rows.{chunks_from, link_at}
use Rattle.tg_rows.specs.Spots.{IsSpotIn}
use Rattle.tg_rows.proofs.Layouts.{references_at}
use Rattle.tg_rows.proofs.Walks.{search_found, slice_is, search_ends, search_goes_on, spot_is}
use Rattle.tg_rows.proofs.rows.find_spot.Goals as goal

pub position_of-requires : goal.position_of-requires
position_of-requires c =
    let h = c.args.spaces.now.spaces in
    let references : All (IsReference h) (references_of (cell_at h c.row.at)) =
    references_at h (table_list c.args.spaces.now c.cells-left.ensures.table) [] c.requires.sound c.row.at c.row.invariant.row.held in
    subst (All (IsReference h)) (sym (slice_is h c.row.at c.words-cell.result.now c.first_pointer-first.result c.words-cell.ensures.words c.first_pointer-first.ensures.word)) references

pub row-preserved : goal.row-preserved
row-preserved c =
    let h = c.args.spaces.now.spaces in
    let on = search_goes_on h c.args.name c.args.from c.row.at c.row.left c.row.empty c.first_empty-empty.result c.words-cell.result.now c.first_pointer-first.result
    c.words-cell.ensures.words c.first_pointer-first.ensures.word c.row.invariant (sym c.in_default.is ∙ c.position_of.ensures.is) c.first_empty-empty.ensures
    c.if-cell-eq0.false c.place_of-at.result c.place_of-at.ensures in
    on.1

-- a cell is left, since the row goes on
pub overflow_sub-left : goal.overflow_sub-left
overflow_sub-left c =
    let h = c.args.spaces.now.spaces in
    (search_goes_on h c.args.name c.args.from c.row.at c.row.left c.row.empty c.first_empty-empty.result c.words-cell.result.now c.first_pointer-first.result
    c.words-cell.ensures.words c.first_pointer-first.ensures.word c.row.invariant (sym c.in_default.is ∙ c.position_of.ensures.is) c.first_empty-empty.ensures
    c.if-cell-eq0.false c.place_of-at.result c.place_of-at.ensures).0

pub row-smaller : goal.row-smaller
row-smaller c = let some : 0 < c.row.left = overflow_sub-left c in omega arith

pub returns-then-cell-eq0 : goal.returns-then-cell-eq0
returns-then-cell-eq0 c =
    let h = c.args.spaces.now.spaces in
    let qs = chunks_from h (length (cells_of h)) (link_at h c.args.from) in
    let ended = search_ends h c.args.name c.args.from c.row.at c.row.left c.row.empty c.first_empty-empty.result c.words-cell.result.now c.first_pointer-first.result
    c.words-cell.ensures.words c.first_pointer-first.ensures.word c.row.invariant (sym c.in_default.is ∙ c.position_of.ensures.is) c.first_empty-empty.ensures c.if-cell-eq0.true in
    record {
      table = c.cells-left.ensures.table;
      spot = subst (IsSpotIn h c.args.name c.args.from qs) (sym c.spot_for_new.ensures)
          (spot_is h c.args.name c.args.from c.row.at qs c.first_empty-empty.result ended.0 ended.1 ended.2);
    }

pub returns-in-Some : goal.returns-in-Some
returns-in-Some c = record {
  table = c.cells-left.ensures.table;
  spot = search_found c.args.spaces.now.spaces c.args.name c.args.from c.row.at c.row.left c.row.empty c.row.empty c.words-cell.result.now c.first_pointer-first.result
      c.words-cell.ensures.words c.first_pointer-first.ensures.word c.row.invariant c.in-Some.k (sym c.in-Some.is ∙ c.position_of.ensures.is);
}
