use Rattle.std.proofs.Common.{◌≡◌, ◌∙◌, ℕ, ap, subst, sym}
use Rattle.std.proofs.lemmas.Result.{on_ok_weaker}
use Rattle.tg_model.specs.declared.command.Command.{Command}
use Rattle.tg_model.specs.declared.command.Command.TheVariants.{Retire}
use Rattle.tg_model.specs.Graph.{without_rights}
use Rattle.tg_rows.specs.Content.{Content, IsContent, IsNamed}
use Rattle.tg_rows.specs.Graph.{content_in}
use Rattle.tg_rows.specs.Rows.{IsVertexAt}
use Rattle.tg_space.specs.SpaceTable.{SpaceTable}
use Rattle.tg_subjects.specs.Subjects.{names_of}
use Rattle.tg_graph.specs.Heap.{content_of}
use Rattle.tg_graph.proofs.StandingLaws.{IsSameContent-self}
use Rattle.tg_rules.specs.Effect.{AddsEdge, IsContentAfter}
use Rattle.tg_rules.specs.Parties.{owner_of_row}
use Rattle.tg_rules.proofs.IndexLaws.{adds_edge, indexes_added}
use Rattle.tg_rules.proofs.SubjectNames.{names_without}
use Rattle.tg_rules.proofs.effect.change_between.Goals as goal
use Rattle.tg_rules.proofs.effect.change_between.Goals.{in-Take, in-Take-2}

pub returns-in-Remove-clause-content : goal.returns-in-Remove-clause-content
returns-in-Remove-clause-content g c =
    let old : Content = content_of c.args.heap.now in
    let new : Content = content_of c.drop_rights.new.self in
    let x = c.args.subject.name in
    let parties = c.requires.parties in
    subst (λ (command : Command). IsContentAfter old new x command) (sym c.in-Remove.is)
    (subst (λ (a : ℕ). IsContent new (IsNamed old) (without_rights old.label a c.in-Remove.name c.in-Remove.rights) old.value) (parties.from.named ∙ parties.from_name ∙ ap (owner_of_row x) c.in-Remove.is) c.drop_rights.ensures.dropped)

pub returns-in-Retire-clause-content : goal.returns-in-Retire-clause-content
returns-in-Retire-clause-content g c =
    let old : Content = content_of c.args.heap.now in
    let same : content_of c.retire.new.self ≡ old = λ i. content_in (c.retire.ensures.table i).spaces (c.retire.ensures.payloads i) in
    subst (λ (command : Command). IsContentAfter old (content_of c.retire.new.self) c.args.subject.name command) (sym c.in-Retire.is)
    (subst (λ (new : Content). IsContentAfter old new c.args.subject.name Retire) (sym same) (IsSameContent-self old))

pub returns-in-Retire-clause-subjects : goal.returns-in-Retire-clause-subjects
returns-in-Retire-clause-subjects g c =
    rw c.in-Retire.is (ap names_of c.retire.ensures.subjects ∙ names_without c.args.heap.now.subjects c.args.subject.name)

pub returns-in-Retire-clause-left : goal.returns-in-Retire-clause-left
returns-in-Retire-clause-left g c = record {
  kept = record {
    limits = ap (λ (t : SpaceTable). t.limits) c.retire.ensures.table;
    vertices = λ y p at. subst (λ (t : SpaceTable). IsVertexAt t.spaces y p) (sym c.retire.ensures.table) at;
  };
  looks = λ looks. absurd (c.requires.changes looks);
  refused = tt;
}

pub returns-in-Take-clause-indexed : goal.returns-in-Take-clause-indexed
returns-in-Take-clause-indexed g c =
    let adds : AddsEdge c.args.command.now = elim c.in-Take-1.branch [
      | in-Take w ↦ adds_edge c.args.command.now w.in-Take.rights w.in-Take.is
      | in-Take-2 w ↦ adds_edge c.args.command.now w.in-Take.rights w.in-Take.is
    ] in
    on_ok_weaker c.add.result (indexes_added c.args.heap.now c.add.new.heap c.args.subject.name c.args.command.now c.args.parties adds c.requires.parties) c.add.ensures.indexed
