use Rattle.std.proofs.Common.{sym, subst, [], ◌<◌, arith}
use Rattle.std.specs.List.{All}
use Rattle.tg_space.specs.SpaceList.{cell_at}
use Rattle.tg_space.specs.Soundness.{IsReference}
use Rattle.tg_space.proofs.Tables.{table_list}
use Rattle.tg_rows.specs.Rows.{references_of}
use Rattle.tg_rows.proofs.Layouts.{references_at}
use Rattle.tg_rows.proofs.Walks.{slice_is, collect_ends, collect_goes_on}
use Rattle.tg_rows.proofs.rows.edges_of.Goals as goal

pub push_edges-requires : goal.push_edges-requires
push_edges-requires c =
    let h = c.args.spaces.now.spaces in
    let references : All (IsReference h) (references_of (cell_at h c.row.at)) =
    references_at h (table_list c.args.spaces.now c.cells-left.ensures.table) [] c.requires.sound c.row.at c.row.invariant.row.held in
    subst (All (IsReference h)) (sym (slice_is h c.row.at c.words-cell.result.now c.first_pointer-first.result c.words-cell.ensures.words c.first_pointer-first.ensures.word)) references

pub returns-then-cell-eq0-clause-edges : goal.returns-then-cell-eq0-clause-edges
returns-then-cell-eq0-clause-edges c =
    let h = c.args.spaces.now.spaces in
    collect_ends h c.args.from c.row.at c.row.left c.row.edges.items c.push_edges.new.edges.items c.words-cell.result.now c.first_pointer-first.result
    c.words-cell.ensures.words c.first_pointer-first.ensures.word c.row.invariant c.in_ok-push_edges.ensures c.if-cell-eq0.true

-- a cell is left, since the row goes on
pub overflow_sub-left : goal.overflow_sub-left
overflow_sub-left c =
    let h = c.args.spaces.now.spaces in
    (collect_goes_on h c.args.from c.row.at c.row.left c.row.edges.items c.push_edges.new.edges.items c.words-cell.result.now c.first_pointer-first.result
    c.words-cell.ensures.words c.first_pointer-first.ensures.word c.row.invariant c.in_ok-push_edges.ensures c.if-cell-eq0.false c.place_of-at.result c.place_of-at.ensures).0

pub row-smaller : goal.row-smaller
row-smaller c = let some : 0 < c.row.left = overflow_sub-left c in omega arith

pub row-preserved : goal.row-preserved
row-preserved c =
    let h = c.args.spaces.now.spaces in
    let on = collect_goes_on h c.args.from c.row.at c.row.left c.row.edges.items c.push_edges.new.edges.items c.words-cell.result.now c.first_pointer-first.result
    c.words-cell.ensures.words c.first_pointer-first.ensures.word c.row.invariant c.in_ok-push_edges.ensures c.if-cell-eq0.false c.place_of-at.result c.place_of-at.ensures in
    on.1
