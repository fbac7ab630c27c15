use Rattle.std.proofs.Common.{◌≡◌, ◌∙◌, ap, rules, sym}
use Rattle.std.proofs.lemmas.Fn.{filter_same}
use Rattle.tg_model.specs.Graph.{without_subject}
use Rattle.tg_model.specs.Rules.{subjects_after}
use Rattle.tg_past.proofs.actors.Actors.serve.Goals as goal

pub returns-in-Retire-clause-subjects : goal.returns-in-Retire-clause-subjects
returns-in-Retire-clause-subjects c =
    let left : c.retain.new.self.items ≡ without_subject c.args.self.now.subjects.items c.args.worker = filter_same _ _ _ (λ x b f' k. search rules) _ _ c.retain.ensures.filtered in
    left ∙ ap (subjects_after c.args.self.now.subjects.items c.args.worker) (sym c.in-Retire.is)
