use Rattle.std.proofs.Common.{◌≡◌, ◌≢◌, ◌∙◌, ◌+◌, length, ap, subst, arith, sym, Bool, cond}
use Rattle.tg_model.specs.Opened.{label_in}
use Rattle.tg_word.specs.Word.{nursery_space}
use Rattle.tg_payload.specs.Table.{Payloads}
use Rattle.tg_rows.specs.Graph.{content_in, IsGraph}
use Rattle.tg_graph.specs.Opened.{labels_before, with_row}
use Rattle.tg_graph.proofs.Openings.{labels_before-all, labels_before-more, relabels_more, relabels_to, row_no_loop}
use Rattle.std.proofs.lemmas.Bool.{le-ltb}
use Rattle.tg_rights.specs.RightSet.{no_rights}
use Rattle.tg_graph.proofs.opening.add_edges.Goals as goal

pub loop-from-preserved : goal.loop-from-preserved
loop-from-preserved g c =
    let before = c.loop-from.invariant in
    let from = c.loop-from.from in
    let edges = c.args.edges.now in
    let row = c.read_row.new.row in
    record {
      labels = relabels_more c.args.cells.now c.loop-from.cells c.add_row.new.cells (labels_before edges from) (labels_before edges (from + 1)) (λ l. with_row l from row) before.labels c.add_row.ensures.added (labels_before-more edges from row c.read_row.ensures);
      unused = λ x past.
          let few = before.unused x (omega arith) in
          let other : nursery_space x ≢ nursery_space from = λ e. omega arith in
          let same = c.add_row.ensures.others (nursery_space x) other in
          omega arith;
    }

pub returns : goal.returns
returns g c =
    let edges = c.args.edges.now in
    let workers = length c.args.subjects.now in
    let whole : c.loop-from.from ≡ workers = omega (arith, c.loop-from-test.false, c.loop-from.auto.from-end) in
    relabels_to c.args.cells.now c.loop-from.cells (labels_before edges c.loop-from.from) (label_in edges) (λ a b. ap (λ n. labels_before edges n a b) whole ∙ labels_before-all edges workers c.requires.edges a b) c.loop-from.invariant.labels

pub add_row-requires-clause-worker : goal.add_row-requires-clause-worker
add_row-requires-clause-worker g c =
    let from = c.loop-from.from in
    let before = c.loop-from.invariant.labels in
    let workers = c.requires.workers in
    record {
      workers = record {
        few = workers.few;
        graph = subst (λ (s : Payloads). IsGraph c.loop-from.cells.spaces.spaces s) (sym before.payloads) before.changed.graph;
        spaces = let same = before.changed.spaces in let many = workers.spaces in omega (arith, same, many);
        vertices = λ x p at. before.changed.vertices x p (workers.vertices x p at);
        old = before.blocks 0 ∙ workers.old;
      };
      inside = c.loop-from-test.true;
      labels = λ y. subst (λ (s : Payloads). (content_in c.loop-from.cells.spaces.spaces s).label from y ≡ no_rights) (sym before.payloads)
          (before.changed.content.labels from y ∙ ap (λ (b : Bool). cond b (label_in c.args.edges.now from y) no_rights) (le-ltb from from (omega arith)));
      unused = c.loop-from.invariant.unused from (omega arith);
      block =
          let some = c.requires.blocks from c.loop-from-test.true in
          let same = before.blocks (nursery_space from) in
          omega (arith, some, same);
    }

pub add_row-requires-clause-no_loop : goal.add_row-requires-clause-no_loop
add_row-requires-clause-no_loop g c =
    c.read_row.ensures c.loop-from.from ∙ row_no_loop c.args.edges.now (length c.args.subjects.now) c.loop-from.from c.requires.edges
