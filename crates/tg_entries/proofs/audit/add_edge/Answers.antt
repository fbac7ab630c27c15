use Rattle.std.proofs.Common.{refl}
use Rattle.tg_saved.specs.Texts.{edge_line_text}
use Rattle.tg_entries.proofs.ReadLaws.{edge_read}
use Rattle.tg_entries.proofs.audit.add_edge.Goals as goal

pub returns-in-Ok : goal.returns-in-Ok
returns-in-Ok c = λ text was.
    let h = c.args.head.now in
    edge_read text (edge_line_text c.args.edge) h.workers h.max_vertices h.values.items h.edges.items c.push.new.self.items c.args.edge c.in-Ok.ensures.items was refl
