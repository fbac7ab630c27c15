use Rattle.std.proofs.Common.{◌-◌, ◌/◌, ◌+◌, arith, ap, sym, subst, ◌∙◌}
use Rattle.std.proofs.lemmas.Option.{none-some, same_Some}
use Rattle.tg_index.specs.Slots.{IsFirstVacant}
use Rattle.tg_rows.specs.Index.{row_slots}
use Rattle.tg_rows.proofs.Marked.{note_is}
use Rattle.tg_rows.proofs.indexed_row.IndexedRow.number_noted.Goals as goal

pub overflow_add-result : goal.overflow_add-result
overflow_add-result c =
    let noted = c.requires.noted in
    let first = subst (IsFirstVacant (row_slots noted.spaces noted.from) c.args.self.now.names.len) c.in-Some.is (c.first_empty.ensures.first (row_slots noted.spaces noted.from) noted.index.names) in
    let low = first.0 in
    omega (arith, low, c.requires.short)

pub returns-in-Some : goal.returns-in-Some
returns-in-Some c =
    let noted = c.requires.noted in
    note_is noted.spaces noted.list noted.sound noted.from noted.whole c.args.self.now.names c.args.self.now.cells.items noted.index c.args.note noted.noted c.first_empty.result (c.first_empty.ensures.first (row_slots noted.spaces noted.from) noted.index.names)
    ((c.in-Some.number + 3) / 6)
    (λ n same. ap (λ k. (k + 3) / 6) (same_Some c.in-Some.number n (sym c.in-Some.is ∙ same)))
    (λ same. absurd (none-some c.in-Some.number (sym same ∙ c.in-Some.is)))

pub returns-in-None : goal.returns-in-None
returns-in-None c =
    let noted = c.requires.noted in
    note_is noted.spaces noted.list noted.sound noted.from noted.whole c.args.self.now.names c.args.self.now.cells.items noted.index c.args.note noted.noted c.first_empty.result (c.first_empty.ensures.first (row_slots noted.spaces noted.from) noted.index.names)
    (c.len.result - 1)
    (λ n same. absurd (none-some n (sym c.in-None.is ∙ same)))
    (λ same. ap (λ k. k - 1) c.len.ensures.len)
