use Rattle.std.proofs.Common.{◌∙◌, ◌+◌, ◌<◌, ◌++◌, ◌∷◌, [], inr, ap, arith, get_or, length, subst, sym}
use Rattle.std.proofs.lemmas.Option.{get_or_from_slice_get}
use Rattle.tg_word.specs.declared.Place.{Place}
use Rattle.tg_space.specs.SpaceList.{HasCell, cell_at}
use Rattle.tg_space.specs.Soundness.{HasLayout}
use Rattle.tg_space.specs.Targets.{targets_at, young_spaces}
use Rattle.tg_space.specs.declared.root.Root.TheVariants.{Row}
use Rattle.tg_rows.specs.Index.{IsOldPlace}
use Rattle.tg_graph.specs.Heap.{AddsRoots, HeapState, heap_of}
use Rattle.tg_graph.proofs.Starts.{cell_held, cell_layout, row_done, row_is, row_rest, row_young, stepped}
use Rattle.tg_graph.proofs.heap.Heap.add_indexed.Goals as goal

pub add_named-requires : goal.add_named-requires
add_named-requires g c =
    let inside = c.self.inside in
    let x = c.args.subject in
    let row = c.args.row.now in
    let is = row_is (heap_of inside.cells inside.subjects inside.rows.entries) c.args.self.now c.self.view_is c.self.invariant.0 c.blocks-2.ensures.table x row c.requires.subject c.requires.index in
    let known = is.indexed.marked.aged.marks c.in-Some.number c.in-Some.ensures.some.here in
    let within = is.indexed.marked.aged.within in
    let low : c.in-Some.number < length row.cells.items = omega (arith, known, within) in
    let at = get_or_from_slice_get row.cells.items c.in-Some.number c.place.result c.place.result c.place.ensures in
    record {
      held = subst (λ (heap : HeapState). HasCell heap.table.spaces c.place.result) (sym c.self.view_is) (subst (HasCell c.args.self.now.table.spaces) at (cell_held c.args.self.now x row is c.in-Some.number c.place.result low));
      layout = subst (λ (heap : HeapState). HasLayout heap.table.spaces (cell_at heap.table.spaces c.place.result)) (sym c.self.view_is)
          (subst (λ (p : Place). HasLayout c.args.self.now.table.spaces (cell_at c.args.self.now.table.spaces p)) at (cell_layout c.args.self.now x row is c.in-Some.number c.place.result low));
    }

pub loop-number-preserved : goal.loop-number-preserved
loop-number-preserved g c =
    let inside = c.self.inside in
    let row = c.args.row.now in
    let is = row_is (heap_of inside.cells inside.subjects inside.rows.entries) c.args.self.now c.self.view_is c.self.invariant.0 c.blocks-2.ensures.table c.args.subject row c.requires.subject c.requires.index in
    let next = c.in-Some.ensures.some in
    let low = is.indexed.marked.aged.marks c.in-Some.number next.here in
    let at = get_or_from_slice_get row.cells.items c.in-Some.number c.place.result c.place.result c.place.ensures in
    let Named : HeapState → Place → Type 0 = λ heap p. AddsRoots heap.table.spaces (targets_at young_spaces heap.table.spaces p) c.loop-number.roots.items c.add_named.new.roots.items in
    let here = subst (Named c.args.self.now) (sym at) (subst (λ (heap : HeapState). Named heap c.place.result) c.self.view_is c.in_ok-add_named.ensures) in
    record {
      added = stepped c.args.self.now c.args.subject row is c.loop-number.from c.in-Some.number c.place.result next.behind low next.before c.args.roots.now.items c.loop-number.roots.items c.add_named.new.roots.items c.loop-number.invariant.added here;
      low = omega (arith, low);
    }

pub returns-then-row-len : goal.returns-then-row-len
returns-then-row-len g c =
    let inside = c.self.inside in
    let row = c.args.row.now in
    let is = row_is (heap_of inside.cells inside.subjects inside.rows.entries) c.args.self.now c.self.view_is c.self.invariant.0 c.blocks-2.ensures.table c.args.subject row c.requires.subject c.requires.index in
    row_done c.args.self.now c.args.subject row is c.loop-number.from c.loop-number.invariant.low (c.next.ensures.none c.in_default.is) (c.if-row-len.true ∙ c.len-2.ensures.len) c.args.roots.now.items c.loop-number.roots.items c.loop-number.invariant.added

pub returns-then-moves : goal.returns-then-moves
returns-then-moves g c =
    let inside = c.self.inside in
    let row = c.args.row.now in
    let is = row_is (heap_of inside.cells inside.subjects inside.rows.entries) c.args.self.now c.self.view_is c.self.invariant.0 c.blocks-2.ensures.table c.args.subject row c.requires.subject c.requires.index in
    let within = is.indexed.marked.aged.within in
    let at = get_or_from_slice_get row.cells.items row.old_cells c.place-rest.result c.place-rest.result c.place-rest.ensures in
    row_young c.args.self.now c.args.subject row is c.loop-number.from c.loop-number.invariant.low (c.next.ensures.none c.in_default.is) c.requires.some c.place-rest.result (omega (arith, within, c.if-row-len.false, c.len-2.ensures.len))
    (ap (λ (p : Place). young_spaces p.space) at ∙ sym c.moves.ensures ∙ c.if-moves.true) c.args.roots.now.items c.loop-number.roots.items c.loop-number.invariant.added

pub returns : goal.returns
returns g c =
    let inside = c.self.inside in
    let row = c.args.row.now in
    let is = row_is (heap_of inside.cells inside.subjects inside.rows.entries) c.args.self.now c.self.view_is c.self.invariant.0 c.blocks-2.ensures.table c.args.subject row c.requires.subject c.requires.index in
    let within = is.indexed.marked.aged.within in
    let at = get_or_from_slice_get row.cells.items row.old_cells c.place-rest.result c.place-rest.result c.place-rest.ensures in
    let old : IsOldPlace (get_or row.cells.items row.old_cells c.place-rest.result) = ap (λ (p : Place). young_spaces p.space) at ∙ sym c.moves.ensures ∙ c.if-moves.false in
    row_rest c.args.self.now c.args.subject row is c.loop-number.from c.loop-number.invariant.low (c.next.ensures.none c.in_default.is) c.place-rest.result (omega (arith, within, c.if-row-len.false, c.len-2.ensures.len))
    (inr old) c.args.roots.now.items c.loop-number.roots.items c.push.new.self.items c.loop-number.invariant.added (c.in_ok-push.ensures.items ∙ ap (λ (p : Place). c.loop-number.roots.items ++ Row p ∷ []) (sym at))
