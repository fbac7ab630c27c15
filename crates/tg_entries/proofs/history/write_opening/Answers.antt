use Rattle.std.proofs.Common.{List, ℕ, refl, subst}
use Rattle.tg_text.specs.Sinks.{Writes}
use Rattle.tg_text.proofs.SinkLaws.{writes_then, writes_cut_first}
use Rattle.tg_entries.proofs.OpeningLaws.{opening_same}
use Rattle.tg_entries.proofs.history.write_opening.Goals as goal

pub returns : goal.returns
returns g c =
    let s = g.K.Sink in
    let now = c.args.opening.now in
    subst (λ (text : List ℕ). Writes (s.taken c.args.sink.now) (s.failures c.args.sink.now) text c.write_edges.result (s.taken c.write_edges.new.sink) (s.failures c.write_edges.new.sink))
    (opening_same c.workers.result now.workers c.max_vertices.result now.limit c.values.result.now now.values c.edges.result.now now.edges
    c.workers.ensures.number c.max_vertices.ensures c.values.ensures c.edges.ensures)
    (writes_then _ _ _ _ _ _ _ _ _ c.in_ok-write_valued.ensures c.write_edges.ensures)

pub returns-in_err-write_valued : goal.returns-in_err-write_valued
returns-in_err-write_valued g c =
    let s = g.K.Sink in
    let now = c.args.opening.now in
    subst (λ (text : List ℕ). Writes (s.taken c.args.sink.now) (s.failures c.args.sink.now) text c.from_residual.result (s.taken c.write_valued.new.sink) (s.failures c.write_valued.new.sink))
    (opening_same c.workers.result now.workers c.max_vertices.result now.limit c.values.result.now now.values now.edges now.edges
    c.workers.ensures.number c.max_vertices.ensures c.values.ensures refl)
    (writes_cut_first _ _ _ _ _ _ _ c.from_residual.ensures.0 c.in_err-write_valued.ensures)
