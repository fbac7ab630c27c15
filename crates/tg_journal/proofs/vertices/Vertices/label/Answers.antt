use Rattle.std.proofs.Common.{◌∙◌, sym, ap}
use Rattle.tg_journal.specs.Live.{label_between}
use Rattle.tg_journal.proofs.VertexLaws.{label_there, no_label}
use Rattle.tg_journal.proofs.vertices.Vertices.label.Goals as goal

pub returns-in-Ok : goal.returns-in-Ok
returns-in-Ok c =
    c.rights_over.ensures
    ∙ sym (label_there c.self.inside.items.items c.args.from c.in-Ok.at c.index.result.now c.self.invariant (rw c.self.view_is c.in-Ok.ensures.found) c.index.ensures c.args.to)
    ∙ ap (λ vs. label_between vs c.args.from c.args.to) c.self.view_is

pub returns-in-Err : goal.returns-in-Err
returns-in-Err c = c.empty.ensures ∙ sym (no_label c.args.self.now c.args.from c.in-Err.field-0 c.in-Err.ensures.absent c.args.to)
