use Rattle.std.proofs.Common.{◌∙◌, sym, ap}
use Rattle.tg_journal.specs.Live.{value_of}
use Rattle.tg_journal.proofs.VertexLaws.{value_there, no_value}
use Rattle.tg_journal.proofs.vertices.Vertices.value.Goals as goal

pub returns-in-Ok : goal.returns-in-Ok
returns-in-Ok c =
    c.as_ref.ensures.value
    ∙ sym (value_there c.self.inside.items.items c.args.name c.in-Ok.at c.index.result.now c.self.invariant (rw c.self.view_is c.in-Ok.ensures.found) c.index.ensures)
    ∙ ap (λ vs. value_of vs c.args.name) c.self.view_is

pub returns-in-Err : goal.returns-in-Err
returns-in-Err c = sym (no_value c.args.self.now c.args.name c.in-Err.field-0 c.in-Err.ensures.absent)
