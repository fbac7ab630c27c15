use Rattle.std.proofs.Common.{◌∙◌, ◌∷◌, [], ℕ, List, ap, subst, sym}
use Rattle.std.specs.List.{Contains}
use Rattle.std.proofs.lemmas.List.Elements.{Contains-append_left}
use Rattle.tg_subjects.specs.Subjects.{names_of}
use Rattle.tg_graph.specs.Heap.{subject_names}
use Rattle.tg_rebuild.proofs.RaisingLaws.{names_push}
use Rattle.tg_rebuild.proofs.bare.add_subject.Goals as goal

pub let_go-requires-clause-holder : goal.let_go-requires-clause-holder
let_go-requires-clause-holder g c =
    subst (λ (xs : List ℕ). Contains xs c.args.holder) (sym (names_push c.args.heap.now c.new_subject.new.self c.args.name c.in-Ok.ensures.added))
    (Contains-append_left (subject_names c.args.heap.now) (c.args.name ∷ []) c.args.holder c.requires.holder)

pub returns-in-Ok-clause-added : goal.returns-in-Ok-clause-added
returns-in-Ok-clause-added g c =
    let made = c.in-Ok.ensures.made in
    let bare = c.let_go.ensures.bare in
    record {
      names = λ x. (λ named. (made.names x).0 ((bare.names x).0 named), λ is. (bare.names x).1 ((made.names x).1 is));
      labels = bare.labels;
      values = λ x. bare.values x ∙ made.values x;
    }

pub returns-in-Ok-clause-subjects : goal.returns-in-Ok-clause-subjects
returns-in-Ok-clause-subjects g c =
    ap names_of c.let_go.ensures.kept.subjects ∙ names_push c.args.heap.now c.new_subject.new.self c.args.name c.in-Ok.ensures.added

pub returns-in-Ok-clause-kept : goal.returns-in-Ok-clause-kept
returns-in-Ok-clause-kept g c = record {
  limits = c.let_go.ensures.kept.limits ∙ c.in-Ok.ensures.added.limits;
  vertices = λ x p is. c.let_go.ensures.kept.vertices x p (c.in-Ok.ensures.added.vertices x p is);
}
