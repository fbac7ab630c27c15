use Rattle.std.proofs.Common.{◌∙◌, List, ℕ, Ok, refl, sym, ap, length}
use Rattle.std.proofs.lemmas.List.{length-map}
use Rattle.tg_subjects.specs.Subjects.{names_of}
use Rattle.tg_subjects.specs.declared.subject.Subject.{Subject}
use Rattle.tg_c.specs.Calls.{AreSubjectNames, IsShown}
use Rattle.tg_c.proofs.CallLaws.{served_as}
use Rattle.tg_c.proofs.calls.subjects.Goals as goal

pub returns : goal.returns
returns c =
    let store = c.deref.result.now.store in
    let names : List ℕ = names_of c.subjects-subjects.result.now in
    served_as (λ why. why) AreSubjectNames c.args.place.now c.put.new.self (IsShown c.args.into.now c.put_names.new.out (Ok (length c.subjects-subjects.result.now))) store store (Ok names)
    c.in-Some.ensures.taken.0 c.put.ensures.open (sym (ap (λ s. s.store) (c.deref.ensures ∙ c.in-Some.ensures.taken.1))) (ap (λ s. s.store) (c.put.ensures.opened ∙ sym c.deref.ensures))
    (ap Ok (sym (length-map c.subjects-subjects.result.now (λ (x : Subject). x.name))), c.put_names.ensures) (record { same = refl; names = λ graph stands. ap Ok (c.subjects-subjects.ensures.names graph stands) })
