use Rattle.std.proofs.Common.{◌∙◌, ◌≤◌, ◌+◌, length, take, arith, ap, refl, sym, subst, get_or, ⊎_elim}
use Rattle.std.proofs.lemmas.Bool.{cases_eq, false≢true}
use Rattle.std.proofs.lemmas.List.{get_or-take, length-take-le}
use Rattle.std.proofs.lemmas.Option.{get_or_from_slice_get}
use Rattle.std.specs.List.{All, Contains}
use Rattle.tg_index.specs.Bits.{bit_in}
use Rattle.tg_rows.specs.Inner.Cells.{CellList}
use Rattle.tg_rows.specs.Inner.Followed.{KeepsMarks}
use Rattle.tg_rows.specs.Index.{IsOldPlace}
use Rattle.tg_rows.specs.declared.indexed_row.IndexedRow.{IndexedRow}
use Rattle.tg_rows.proofs.Marked.{aged_one, marked_by, unmarked}
use Rattle.tg_rows.proofs.followed.mark_noted.Goals.{then-contains+in-Ok, else-contains}
use Rattle.tg_rows.proofs.followed.mark_noted.Goals as goal

pub returns-then-len-eq0 : goal.returns-then-len-eq0
returns-then-len-eq0 c =
    let can = c.requires in
    record {
      names = refl;
      cells = refl;
      marked = unmarked c.args.noted.now.places (sym c.len.ensures.len ∙ c.if-len-eq0.true) _ can.within can.old (λ n set. let low = can.marked.aged.marks n set in omega (arith, low, can.from));
    }

pub loop-row-init : goal.loop-row-init
loop-row-init c = record { names = refl; cells = refl; marked = c.requires.marked }

pub returns-in_default : goal.returns-in_default
returns-in_default c =
    let was = c.loop-row.invariant in
    record { names = was.names; cells = was.cells; marked = marked_by c.args.noted.now.places c.loop-row.row _ refl refl c.in_default.ensures.refused was.marked }

pub place-requires : goal.place-requires
place-requires c = let long = subst (λ (v : CellList). c.args.old ≤ length v.items) (sym c.loop-row.invariant.cells) c.requires.within in omega (arith, long, c.loop-row-test.true)

pub loop-row-preserved : goal.loop-row-preserved
loop-row-preserved c =
    let was = c.loop-row.invariant in
    let notes = c.args.noted.now.places in
    let row = c.loop-row.row in
    let cell = c.place.result in
    let below = c.loop-row-test.true in
    let long = subst (λ (v : CellList). c.args.old ≤ length v.items) (sym was.cells) c.requires.within in
    let here = get_or_from_slice_get row.cells.items row.old_cells cell cell c.place.ensures in
    let first = subst (λ (v : CellList). All IsOldPlace (take c.args.old v.items)) (sym was.cells) c.requires.old in
    let old : IsOldPlace (get_or row.cells.items row.old_cells cell) =
    subst IsOldPlace (get_or-take c.args.old row.cells.items row.old_cells cell below) (first row.old_cells cell (omega (arith, below, length-take-le c.args.old row.cells.items long))) in
    elim c.if-contains.branch [
      | then-contains+in-Ok w ↦
          let marks = w.mark_cell.new.marks in
          let here_now = w.in-Ok.ensures.here in
          let others = w.mark_cell.ensures.others in
          let marked = aged_one notes row marks
          (λ n set. ⊎_elim (λ same. omega (arith, same)) (λ other. let low = was.marked.aged.marks n (sym (others n other) ∙ set) in omega (arith, low)) (cases_eq n row.old_cells))
          (λ n set. ⊎_elim (λ same. ap (λ k. bit_in marks k) same ∙ here_now) (λ other. others n other ∙ set) (cases_eq n row.old_cells))
          cell (omega (arith, below, long)) old (λ has. here_now) was.marked in
          subst (λ (r : IndexedRow). KeepsMarks notes c.args.row.now (record { names = r.names; cells = r.cells; old_cells = r.old_cells + 1; noted = r.noted })) (sym w.row-is)
          (record { names = was.names; cells = was.cells; marked = marked })
      | else-contains w ↦
          let marked = aged_one notes row row.noted (λ n set. let low = was.marked.aged.marks n set in omega (arith, low)) (λ n set. set) cell (omega (arith, below, long)) old
          (λ has. absurd (false≢true (sym w.if-contains.false ∙ c.contains.ensures.1 (subst (Contains notes) here has)))) was.marked in
          subst (λ (r : IndexedRow). KeepsMarks notes c.args.row.now (record { names = r.names; cells = r.cells; old_cells = r.old_cells + 1; noted = r.noted })) (sym w.row-is)
          (record { names = was.names; cells = was.cells; marked = marked })
    ]
