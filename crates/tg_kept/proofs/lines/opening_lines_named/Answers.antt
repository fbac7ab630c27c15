use Rattle.std.proofs.Common.{◌≡◌, ◌∙◌, [], ap}
use Rattle.tg_keep.specs.Batches.{batch_texts}
use Rattle.tg_keep.specs.Lines.{texts_after}
use Rattle.tg_keep.proofs.Reading.{no_texts}
use Rattle.tg_kept.proofs.TextLaws.{opening_added}
use Rattle.tg_kept.proofs.lines.opening_lines_named.Goals as goal

pub returns-clause-texts : goal.returns-clause-texts
returns-clause-texts g c =
    let none : batch_texts c.new-batch.result ≡ [] = ap (texts_after c.new-batch.result.before.digits) c.new-batch.ensures.none ∙ no_texts c.new-batch.result.before.digits in
    opening_added c.args.opening.now (batch_texts c.new-batch.result) (batch_texts c.add_said.new.batch) (batch_texts c.add_workers.new.batch) (batch_texts c.add_edges.new.batch)
    c.workers.result c.max_vertices.result c.values.result.now c.edges.result.now none c.in_ok-add_said.ensures.texts c.in_ok-add_workers.ensures.texts c.in_ok-add_edges.ensures.texts
    c.workers.ensures.number c.max_vertices.ensures c.values.ensures c.edges.ensures
