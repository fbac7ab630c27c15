-- The names of the cells before the loop's number, and of all.
use Rattle.std.proofs.Common.{List, [], ap, arith, get_or, length, subst, sym, ℕ, ◌<◌, ◌==◌, ◌∙◌, ◌≡◌, ◌≤◌}
use Rattle.tg_space.specs.SpaceList.{cells_of}
use Rattle.tg_space.proofs.Tables.{table_list}
use Rattle.tg_graph.specs.Shown.{shown_in}
use Rattle.tg_graph.proofs.NamesShown.{count_object, names_all, next_other, shown_object}
use Rattle.tg_graph.proofs.heap.Heap.names.Goals.{else-words-eq-OBJECT_TAG, then-words-eq-OBJECT_TAG}
use Rattle.std.specs.List.{IsDistinct}
use Rattle.tg_graph.specs.Heap.{HeapState, content_of, heap_of}
use Rattle.tg_graph.proofs.Counted.{names_once}
use Rattle.tg_graph.proofs.heap.Heap.names.Goals as goal

pub loop-number-preserved : goal.loop-number-preserved
loop-number-preserved g c =
    let cells = cells_of c.self.inside.cells.spaces.spaces in
    let n = c.loop-number.number in
    let words = c.numbered_words-words.result.now in
    let is : words ≡ get_or cells n [] = c.numbered_words-words.ensures.words in
    let low : n < length cells = omega (arith, c.cells-number-end.ensures.cells) in
    let was = c.loop-number.invariant in
    elim c.if-words-eq-OBJECT_TAG.branch [
      | then-words-eq-OBJECT_TAG w ↦
          record {
            few = omega (arith, was.few);
            count = w.count-is ∙ count_object cells n low words is c.loop-number.count c.loop-number.into c.args.into.now was.count was.shown w.if-words-eq-OBJECT_TAG.true;
            shown = shown_object cells n low words is c.loop-number.count c.loop-number.into c.args.into.now was.count was.shown w.if-words-eq-OBJECT_TAG.true
                c.if-words-eq-OBJECT_TAG.into (w.into-is ∙ w.put_at.ensures);
          }
      | else-words-eq-OBJECT_TAG w ↦
          let same = next_other cells n low words is c.loop-number.count c.loop-number.into c.args.into.now was.count was.shown w.if-words-eq-OBJECT_TAG.false in
          record {
            few = omega (arith, was.few);
            count = w.count-is ∙ was.count ∙ ap length (sym same);
            shown = w.into-is ∙ was.shown ∙ ap (λ (xs : List ℕ). shown_in xs c.args.into.now) (sym same);
          }
    ]

pub returns : goal.returns
returns g c =
    let s = heap_of c.self.inside.cells c.self.inside.subjects c.self.inside.rows.entries in
    let h = s.table.spaces in
    let whole = table_list s.table c.cells-number-end.ensures.table in
    let end : length (cells_of h) ≤ c.loop-number.number = omega (arith, c.cells-number-end.ensures.cells) in
    let all = names_all h whole c.loop-number.number end in
    let done = c.loop-number.invariant in
    record {
      number = done.count ∙ ap length all ∙ ap (λ (heap : HeapState). length (content_of heap).names) c.self.view_is;
      shown = done.shown ∙ ap (λ (xs : List ℕ). shown_in xs c.args.into.now) all ∙ ap (λ (heap : HeapState). shown_in (content_of heap).names c.args.into.now) c.self.view_is;
      once = subst (λ (heap : HeapState). IsDistinct (λ a b. a == b) (content_of heap).names) c.self.view_is (names_once h s.payloads whole c.self.invariant.0.graph);
    }
