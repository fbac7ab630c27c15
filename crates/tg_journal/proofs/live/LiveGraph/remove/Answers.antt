use Rattle.std.proofs.Common.{ap, ◌∙◌}
use Rattle.tg_rights.specs.RightSet.{RightSet}
use Rattle.tg_model.specs.Graph.{without_rights}
use Rattle.tg_model.proofs.ReachLaws.{targets-without_rights}
use Rattle.tg_journal.specs.Live.{label_between}
use Rattle.tg_journal.proofs.DeedLaws.{relabelled}
use Rattle.tg_journal.proofs.live.LiveGraph.remove.Goals as goal

pub returns : goal.returns
returns c =
    relabelled c.self.inside.subjects.items c.self.inside.made c.self.inside.max_vertices c.self.inside.vertices c.args.self.now c.self.view_is
    c.lose.new.self (λ label. without_rights label c.args.from c.args.to c.args.label)
    (c.lose.ensures.labels ∙ ap (λ (r : RightSet). without_rights (label_between c.self.inside.vertices) c.args.from c.args.to r) c.rights.ensures.same)
    c.lose.ensures.values

pub invariant_of-self : goal.invariant_of-self
invariant_of-self c =
    targets-without_rights (label_between c.self.inside.vertices) (label_between c.lose.new.self) c.args.from c.args.to c.self.inside.made c.rights.result
    (λ a b i. c.lose.ensures.labels i a b) c.self.invariant
