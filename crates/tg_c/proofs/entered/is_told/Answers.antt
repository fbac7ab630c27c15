use Rattle.std.proofs.Common.{◌≡◌, ◌⊎◌, inl, inr, ◌≤◌, length}
use Rattle.std.proofs.lemmas.Bool.{both_ways, eqb-true}
use Rattle.tg_c.proofs.EnteredLaws.{form_of, labelled, read_is_entry}
use Rattle.tg_c.proofs.entered.is_told.Goals as goal

pub returns-then-not-has_form-clause-none : goal.returns-then-not-has_form-clause-none
returns-then-not-has_form-clause-none c =
    λ no e is. both_ways c.has_form.result c.if-not-has_form.true (c.has_form.ensures.1 (form_of c.args.it.now c.args.numbers.now c.args.edges.now e is))

pub returns-clause-none : goal.returns-clause-none
returns-clause-none c =
    λ no e is. both_ways c.have_labels.result no (c.have_labels.ensures.1 (labelled c.args.it.now c.args.numbers.now c.args.edges.now e is))

pub returns-clause-told : goal.returns-clause-told
returns-clause-told c = λ labels.
    let it = c.args.it.now in
    let numbers = c.is_counted.ensures.0 c.if-not-is_counted.false in
    let edges = c.is_counted-2.ensures.0 c.if-not-is_counted-2.false in
    read_is_entry it c.args.numbers.now c.args.edges.now
    (λ high three. both_ways c.is_making_of_values.result c.if-is_making_of_values.false (c.is_making_of_values.ensures.1 (high, three)))
    numbers.0 edges.0
    (elim (numbers.1) as (λ x. ((16 ≤ it.deed) ⊎ (it.reply ≡ 3)) ⊎ (length c.args.numbers.now ≡ 0)) [ inl may ↦ inl (c.has_numbers.ensures.0 may) | inr none ↦ inr none ])
    (elim (edges.1) as (λ x. (it.reply ≡ 4) ⊎ (length c.args.edges.now ≡ 0)) [ inl four ↦ inl (eqb-true it.reply 4 four) | inr none ↦ inr none ])
    (c.has_form.ensures.0 c.if-not-has_form.false) (c.have_labels.ensures.0 labels)
