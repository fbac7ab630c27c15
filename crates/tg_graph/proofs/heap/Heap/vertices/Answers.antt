-- There are as many payloads as objects.
use Rattle.std.proofs.Common.{◌==◌, ◌∙◌, length, ap, subst}
use Rattle.std.specs.List.{IsDistinct}
use Rattle.tg_space.proofs.Tables.{table_list}
use Rattle.tg_graph.specs.Heap.{HeapState, content_of, heap_of}
use Rattle.tg_graph.proofs.Counted.{names_once, payloads_counted}
use Rattle.tg_graph.proofs.heap.Heap.vertices.Goals as goal

pub returns : goal.returns
returns g c =
    let s = heap_of c.self.inside.cells c.self.inside.subjects c.self.inside.rows.entries in
    let h = s.table.spaces in
    let whole = table_list s.table c.blocks-2.ensures.table in
    record {
      number = c.len.ensures ∙ payloads_counted h s.payloads whole c.self.invariant.0.graph ∙ ap (λ (heap : HeapState). length (content_of heap).names) c.self.view_is;
      once = subst (λ (heap : HeapState). IsDistinct (λ a b. a == b) (content_of heap).names) c.self.view_is (names_once h s.payloads whole c.self.invariant.0.graph);
    }
