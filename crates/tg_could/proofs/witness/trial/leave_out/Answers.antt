use Rattle.std.proofs.Common.{◌≡◌, rules}
use Rattle.std.proofs.lemmas.Fn.{filter_same}
use Rattle.tg_model.specs.Graph.{without_subject}
use Rattle.tg_could.proofs.witness.trial.leave_out.Goals as goal

pub returns : goal.returns
returns c =
    let left : c.retain.new.self.items ≡ without_subject c.args.names.now.items c.args.name = filter_same _ _ _ (λ x b f' k. search rules) _ _ c.retain.ensures.filtered in
    left
