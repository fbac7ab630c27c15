use Rattle.std.proofs.Common.{◌≤◌, ◌<◌, length, sym, subst, arith, ◌∙◌}
use Rattle.tg_graph.specs.Heap.{content_of, subject_names}
use Rattle.tg_store.specs.Inner.Reaching.{AreBelow}
use Rattle.tg_store.specs.Inner.Withdrawing.{content_left}
use Rattle.tg_store.proofs.ReachingLaws.{few_found, find_begins, find_over, find_row, vertex_at}
use Rattle.tg_store.proofs.store.withdrawal.Withdrawal.find_after.Goals as goal

pub loop-next-init : goal.loop-next-init
loop-next-init g c = record {
  found = c.in_ok-found.ensures.found;
  made = c.in_ok-found.ensures.made;
  finds = find_begins (content_left c.args.self.now (content_of c.args.heap.now)) (subject_names c.args.heap.now) c.in_ok-found.found c.in_ok-found.ensures.names;
}

pub follow_row-requires-clause-vertex : goal.follow_row-requires-clause-vertex
follow_row-requires-clause-vertex g c =
    let low : c.loop-next.next < length c.loop-next.found.vertices.items = omega (arith, c.count.ensures, c.loop-next-test.true) in
    vertex_at c.args.heap.now.table.spaces c.loop-next.found c.loop-next.next c.vertex-vertex.result c.loop-next.invariant.found low c.vertex-vertex.ensures

pub follow_row-requires-clause-below : goal.follow_row-requires-clause-below
follow_row-requires-clause-below g c = subst (AreBelow (content_of c.args.heap.now)) (sym c.loop-next.invariant.made) c.requires

pub loop-next-preserved : goal.loop-next-preserved
loop-next-preserved g c =
    let was = c.loop-next.invariant in
    let low : c.loop-next.next < length c.loop-next.found.vertices.items = omega (arith, c.count.ensures, c.loop-next-test.true) in
    record {
      found = c.in_ok-follow_row.ensures.found;
      made = c.in_ok-follow_row.ensures.made ∙ was.made;
      finds = find_row (content_left c.args.self.now (content_of c.args.heap.now)) (subject_names c.args.heap.now) c.loop-next.found c.follow_row.new.found c.loop-next.next c.vertex-vertex.result low c.vertex-vertex.ensures
          c.in_ok-follow_row.ensures.more was.finds;
    }

pub loop-next-smaller : goal.loop-next-smaller
loop-next-smaller g c =
    let low : c.loop-next.next < length c.loop-next.found.vertices.items = omega (arith, c.count.ensures, c.loop-next-test.true) in
    let few = few_found c.args.heap.now.table.spaces c.loop-next.found c.loop-next.invariant.found in
    let same = c.loop-next.invariant.made in
    omega (arith, low, few, same)

pub returns-clause-names : goal.returns-clause-names
returns-clause-names g c =
    let past : length c.loop-next.found.vertices.items ≤ c.loop-next.next = omega (arith, c.count.ensures, c.loop-next-test.false) in
    find_over (content_left c.args.self.now (content_of c.args.heap.now)) (subject_names c.args.heap.now) c.loop-next.found c.loop-next.next c.loop-next.invariant.finds past
