-- A new subject is the last of those in the table.
use Rattle.std.proofs.Common.{◌≡◌, ◌∙◌, ◌++◌, ◌∷◌, [], ℕ, ap, sym}
use Rattle.std.proofs.lemmas.List.{map_push}
use Rattle.std.proofs.lemmas.Result.{on_ok_weaker}
use Rattle.tg_model.specs.Making.{subjects_making}
use Rattle.tg_model.specs.declared.making.Making.{Making}
use Rattle.tg_model.specs.declared.making.Making.TheVariants as making
use Rattle.tg_subjects.specs.declared.subject.Subject.{Subject}
use Rattle.tg_subjects.specs.Subjects.{names_of}
use Rattle.tg_graph.specs.Heap.{AddsSubject, HeapState, subject_names}
use Rattle.tg_store.proofs.making.add_vertex.Goals as goal

added : (kind : Making) (old new : HeapState) (name : ℕ) → kind ≡ making.Subject → AddsSubject old new name → subject_names new ≡ subjects_making kind (subject_names old) name
added kind old new name is adds =
    ap names_of adds.subjects
    ∙ map_push (λ (s : Subject). s.name) old.subjects adds.subject
    ∙ ap (λ (n : ℕ). subject_names old ++ n ∷ []) adds.named
    ∙ ap (λ (k : Making). subjects_making k (subject_names old) name) (sym is)

pub returns-in-Subject-clause-subjects : goal.returns-in-Subject-clause-subjects
returns-in-Subject-clause-subjects g c =
    on_ok_weaker c.new_subject.result (λ adds. added c.args.kind c.args.heap.now c.new_subject.new.self c.args.name c.in-Subject.is adds) c.new_subject.ensures.added
