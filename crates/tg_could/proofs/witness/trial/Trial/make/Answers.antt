use Rattle.std.proofs.Common.{◌++◌, ◌∷◌, [], ℕ, List, sym, ap, ◌∙◌, arith}
use Rattle.std.proofs.lemmas.Bool.{iff_false}
use Rattle.tg_model.specs.Making.{subjects_making}
use Rattle.tg_model.specs.declared.making.Making.{Making}
use Rattle.tg_could.proofs.TurnLaws.{stands-made}
use Rattle.tg_could.proofs.witness.trial.Trial.make.Goals as goal

pub returns-in-Object : goal.returns-in-Object
returns-in-Object c t edges g value =
    let t = c.args.self.now in
    let e = c.in_ok-add.ensures in
    stands-made edges t c.add.new.self g c.args.worker c.args.making c.args.label value (omega (arith, c.if-name-self.false))
    (λ (is, many). iff_false c.is_one_too_many.ensures c.if-is_one_too_many.false (is, omega (arith, many, c.len.ensures)))
    e.added (e.subjects ∙ ap (λ (m : Making). subjects_making m t.subjects.items t.made) (sym c.in-Object.is)) e.made e.limit

pub returns-in_ok-push-in-Subject : goal.returns-in_ok-push-in-Subject
returns-in_ok-push-in-Subject c t edges g value =
    let t = c.args.self.now in
    let e = c.in_ok-add.ensures in
    stands-made edges t _ g c.args.worker c.args.making c.args.label value (omega (arith, c.if-name-self.false))
    (λ (is, many). iff_false c.is_one_too_many.ensures c.if-is_one_too_many.false (is, omega (arith, many, c.len.ensures)))
    e.added
    (c.in_ok-push-in-Subject.ensures.items
    ∙ (ap (λ (l : List ℕ). l ++ t.made ∷ []) e.subjects ∙ ap (λ (m : Making). subjects_making m t.subjects.items t.made) (sym c.in-Subject.is)))
    e.made e.limit
