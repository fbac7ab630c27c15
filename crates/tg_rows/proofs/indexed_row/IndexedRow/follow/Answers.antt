use Rattle.std.proofs.Common.{◌∙◌, ◌++◌, ◌∷◌, ℕ, List, [], Some, ap, arith, nat_eq, refl, sym, subst}
use Rattle.std.specs.Map.{lookup}
use Rattle.tg_word.specs.Word.{place_in}
use Rattle.tg_index.specs.Slots.{IsFirstVacant}
use Rattle.tg_rows.specs.Spots.{with_note}
use Rattle.tg_rows.specs.declared.indexed_row.IndexedRow.{IndexedRow}
use Rattle.tg_rows.proofs.Following.{behind_noted, behind_short, empty_absent, empty_vacant, full_lacks, index_extended, index_filled, index_widened, last_held}
use Rattle.tg_rows.proofs.Marked.{aged_by, aged_grown, marked_by, marked_grown}
use Rattle.tg_rows.proofs.indexed_row.IndexedRow.follow.Goals as goal

pub mark-requires : goal.mark-requires
mark-requires c = record { noted = behind_noted c.requires.put; short = behind_short c.requires.put; room = c.requires.room.marks }

pub returns-in-Reference-clause-index : goal.returns-in-Reference-clause-index
returns-in-Reference-clause-index c = rw c.mark.ensures.names (rw c.mark.ensures.cells (index_widened c.requires.put _ _ c.in-Reference.is))

pub put-requires : goal.put-requires
put-requires c = record { room = rw c.mark.ensures.names c.requires.room.names; absent = rw c.mark.ensures.names (empty_absent c.requires.put _ _ c.in-Empty.is); vacant = rw c.mark.ensures.names (empty_vacant c.requires.put _ _ c.in-Empty.is) }

pub returns-in-Empty-clause-index : goal.returns-in-Empty-clause-index
returns-in-Empty-clause-index c =
    rw c.mark.ensures.cells (index_filled c.requires.put _ _ c.in-Empty.is c.put.new.self (rw c.mark.ensures.names at c.put.ensures.len) (rw c.mark.ensures.names at c.put.ensures.rows))

pub grow-requires : goal.grow-requires
grow-requires c = rw c.mark.ensures.names (behind_short c.requires.put)

pub put-requires-in-Full : goal.put-requires-in-Full
put-requires-in-Full c = record { room = c.grow.ensures.room (rw c.mark.ensures.names c.requires.room.names); absent = ap (λ (es : List (ℕ × ℕ)). lookup (nat_eq c.args.put.name) es) c.grow.ensures.entries ∙ rw c.mark.ensures.names (full_lacks c.requires.put c.in-Full.last c.in-Full.is); vacant = c.grow.ensures.vacant (omega arith) }

pub push-requires : goal.push-requires
push-requires c = rw c.mark.ensures.cells c.requires.room.cells

pub read-requires-clause-held : goal.read-requires-clause-held
read-requires-clause-held c = last_held c.requires.put c.in-Full.last c.in-Full.is

pub returns-in-Full-clause-index : goal.returns-in-Full-clause-index
returns-in-Full-clause-index c =
    let cells = c.args.self.now.cells.items in
    index_extended c.requires.put c.in-Full.last c.in-Full.is c.put-in-Full.new.self c.push.new.self.items (rw c.mark.ensures.names at (c.put-in-Full.ensures.len ∙ c.grow.ensures.len))
    (λ slots later n of first puts. c.put-in-Full.ensures.rows slots later n (c.grow.ensures.grown slots (rw c.mark.ensures.names of)) (subst (λ l. IsFirstVacant slots l (Some n)) (sym (rw c.mark.ensures.names at c.grow.ensures.len)) first) puts)
    (c.push.ensures ∙ rw c.mark.ensures.cells (ap (λ word. cells ++ place_in word ∷ []) c.read.ensures))

pub returns-in-Empty-clause-marks : goal.returns-in-Empty-clause-marks
returns-in-Empty-clause-marks c =
    let m = c.mark.new.self in
    let later : IndexedRow = record { names = c.put.new.self; cells = m.cells; old_cells = m.old_cells; noted = m.noted } in
    record {
      aged = λ aged. aged_by m later refl refl (λ n. refl) (c.mark.ensures.marks.aged aged);
      marked = λ places marked. marked_by (with_note places c.args.put.note) m later refl refl (λ n. refl) (c.mark.ensures.marks.marked places marked);
    }

pub returns-in-Full-clause-marks : goal.returns-in-Full-clause-marks
returns-in-Full-clause-marks c =
    let m = c.mark.new.self in
    let later : IndexedRow = record { names = c.put-in-Full.new.self; cells = c.push.new.self; old_cells = m.old_cells; noted = m.noted } in
    record {
      aged = λ aged. aged_grown m later (place_in c.read.result) c.push.ensures refl refl (c.mark.ensures.marks.aged aged);
      marked = λ places marked. marked_grown (with_note places c.args.put.note) m later (place_in c.read.result) c.push.ensures refl refl (c.mark.ensures.marks.marked places marked);
    }
