use Rattle.std.proofs.Common.{◌∙◌, ap, arith, refl, subst, sym}
use Rattle.std.proofs.lemmas.Bool.{false≢true}
use Rattle.std.proofs.lemmas.Option.{get_or_from_slice_get}
use Rattle.tg_rows.specs.Inner.Followed.{KeepsMarks}
use Rattle.tg_rows.specs.declared.indexed_row.IndexedRow.{IndexedRow}
use Rattle.tg_rows.proofs.Marked.{forgot_one}
use Rattle.tg_rows.proofs.followed.forget_unnoted.Goals.{then-not-contains, else-not-contains}
use Rattle.tg_rows.proofs.followed.forget_unnoted.Goals as goal

pub place-requires : goal.place-requires
place-requires c =
    let aged = c.loop-number.invariant.kept.marked.aged in
    let below = aged.marks c.in-Some.number c.in-Some.ensures.some.here in
    omega (arith, below, aged.within)

pub loop-number-preserved : goal.loop-number-preserved
loop-number-preserved c =
    let was = c.loop-number.invariant in
    let notes = c.args.noted.now.places in
    let row = c.loop-number.row in
    let number = c.in-Some.number in
    let cell = c.place.result in
    let before = c.args.row.now in
    elim c.if-not-contains.branch [
      | then-not-contains w ↦
          let marked = forgot_one notes row w.remove.new.self number cell w.remove.ensures (get_or_from_slice_get row.cells.items number cell cell c.place.ensures)
          (λ has. false≢true (sym w.if-not-contains.true ∙ c.contains.ensures.1 has)) was.kept.marked in
          record {
            kept = subst (λ (r : IndexedRow). KeepsMarks notes before r) (sym w.row-is) (record { names = was.kept.names; cells = was.kept.cells; marked = marked });
            old = ap (λ (r : IndexedRow). r.old_cells) w.row-is ∙ was.old;
          }
      | else-not-contains w ↦ record {
        kept = subst (λ (r : IndexedRow). KeepsMarks notes before r) (sym w.row-is) was.kept;
        old = ap (λ (r : IndexedRow). r.old_cells) w.row-is ∙ was.old;
      }
    ]

pub loop-number-init : goal.loop-number-init
loop-number-init c = record { kept = record { names = refl; cells = refl; marked = c.requires }; old = refl }

pub loop-number-smaller : goal.loop-number-smaller
loop-number-smaller c =
    let was = c.loop-number.invariant in
    let next = c.in-Some.ensures.some in
    let behind = next.behind in
    let below = was.kept.marked.aged.marks c.in-Some.number next.here in
    omega (arith, behind, below, was.old)

pub overflow_add-from : goal.overflow_add-from
overflow_add-from c = let below = c.loop-number.invariant.kept.marked.aged.marks c.in-Some.number c.in-Some.ensures.some.here in omega (arith, below)
