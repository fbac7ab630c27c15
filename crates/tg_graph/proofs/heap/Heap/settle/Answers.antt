-- The heap that a collection leaves.
use Rattle.std.proofs.Common.{◌≡◌, ◌∙◌, refl, subst, sym}
use Rattle.tg_space.specs.SpaceTable.{SpaceTable, with_adopted}
use Rattle.tg_space.specs.declared.kind.Kind.{Kind}
use Rattle.tg_space.specs.declared.kind.Kind.TheVariants.{Full, Nursery}
use Rattle.tg_space.specs.Collection.{collected_in}
use Rattle.tg_rows.specs.Index.{AreIndexed, names_indexed}
use Rattle.tg_graph.specs.Heap.{HeapState, IsWellFormed, heap_of}
use Rattle.tg_graph.specs.Kept.{AreWritten, rewritten}
use Rattle.tg_graph.proofs.KeptHeap.{IsLeft, collected_here, followable, indexed_beside, moved_to_old, numbers_here, remembered_cells, subjects_numbered}
use Rattle.tg_graph.proofs.KeptWritten.{left}
use Rattle.tg_graph.proofs.heap.Heap.settle.Given.{Over}
use Rattle.tg_graph.proofs.heap.Heap.settle.Goals as goal

pub move_cells-requires : goal.move_cells-requires
move_cells-requires g c =
    let s = heap_of c.self.inside.cells c.self.inside.subjects c.self.inside.rows.entries in
    let formed = c.self.invariant.0 in
    let table = c.of-numbering.ensures.table in
    let made = collected_in c.args.copied in
    let numbers = numbers_here s c.args.self.now c.self.view_is formed table c.args.kind made c.requires c.of-numbering.result.starts c.of-numbering.ensures.starts in
    let collected = collected_here s c.args.self.now c.self.view_is formed table c.args.kind made c.requires in
    λ lifetimes outlives. (outlives, record { before = refl; graph = formed.graph; numbers = numbers; remembered = remembered_cells s formed; few = collected.few })

pub follow_subjects-requires : goal.follow_subjects-requires
follow_subjects-requires g c =
    let s = heap_of c.self.inside.cells c.self.inside.subjects c.self.inside.rows.entries in
    subjects_numbered s c.args.self.now c.self.view_is c.self.invariant.0 c.of-numbering.ensures.table c.args.kind (collected_in c.args.copied) c.requires c.of-numbering.result.starts c.of-numbering.ensures.starts

pub follow-requires : goal.follow-requires
follow-requires g c =
    let s = heap_of c.self.inside.cells c.self.inside.subjects c.self.inside.rows.entries in
    let table = c.of-numbering.ensures.table in
    let made = collected_in c.args.copied in
    record {
      rows = followable s c.args.self.now c.self.view_is c.self.invariant.0 table c.args.kind made c.requires c.of-numbering.result.starts c.of-numbering.ensures.starts c.self.inside.rows.entries c.self.invariant.1;
      to_old = moved_to_old s c.args.self.now c.self.view_is c.self.invariant.0 table c.args.kind made c.requires;
    }

-- the heap as its parts are at the end
abbrev now : (g : Over) → goal.After-keep_words g → SpaceTable → HeapState
now g c t = record { table = t; payloads = c.move_cells.new.cells.payloads; subjects = c.follow_subjects.new.subjects; remembered = c.args.copied.remembered.places; indexed = names_indexed t.spaces c.follow.new.self.entries }

left_now : (g : Over) (c : goal.After-keep_words g) → IsLeft c.args.kind c.args.self.now (now g c c.keep_words.new.self) c.follow.new.self.entries
left_now g c =
    let rows = c.self.inside.rows.entries in
    let s = heap_of c.self.inside.cells c.self.inside.subjects rows in
    let kind = c.args.kind in
    let made = collected_in c.args.copied in
    let formed = c.self.invariant.0 in
    let table = c.of-numbering.ensures.table in
    let moved = c.in_ok-move_cells.ensures.moved in
    let t = c.move_cells.new.cells.spaces in
    subst (λ (t : SpaceTable). IsLeft kind c.args.self.now (now g c t) c.follow.new.self.entries) (sym c.keep_words.ensures)
    (subst (λ (before : HeapState). IsLeft kind before (now g c t) c.follow.new.self.entries) c.self.view_is
    (left s formed table kind made (collected_here s c.args.self.now c.self.view_is formed table kind made c.requires) (now g c t) moved.written moved.table moved.dropped c.follow.new.self.entries
    (record {
      rows = rows;
      starts = c.of-numbering.result.starts;
      starts_are = c.of-numbering.ensures.starts;
      placed = c.follow_subjects.ensures;
      remembered = refl;
      indexed = indexed_beside s c.args.self.now c.self.view_is formed table kind made c.requires rows c.self.invariant.1;
      followed = c.follow.ensures;
      before = refl;
      after = refl;
    })))

pub invariant_of-self-2 : goal.invariant_of-self-2
invariant_of-self-2 g c = ((left_now g c).well_formed, (left_now g c).indexed)

pub returns : goal.returns
returns g c =
    let settled = (left_now g c.before).settled in
    let copied = c.args.copied in
    let Writes : HeapState → SpaceTable → Kind → Type 0 = λ heap t kind. AreWritten (with_adopted heap.table kind copied.adoption.aged copied.adoption.old) t (rewritten kind heap.table.spaces copied.forward.words heap.remembered) in
    record {
      kept = settled.keeps;
      blocks = λ full. c.keep_words.ensures ∙ subst (λ (heap : HeapState). c.move_cells.new.cells.spaces ≡ with_adopted heap.table Full c.args.copied.adoption.aged c.args.copied.adoption.old) c.self.view_is (c.move_cells.ensures.full full).1;
      written = λ nursery.
          subst (λ (t : SpaceTable). Writes c.args.self.now t Nursery) (sym c.keep_words.ensures)
          (subst (λ (heap : HeapState). Writes heap c.move_cells.new.cells.spaces Nursery) c.self.view_is
          (subst (Writes (heap_of c.self.inside.cells c.self.inside.subjects c.self.inside.rows.entries) c.move_cells.new.cells.spaces) nursery c.in_ok-move_cells.ensures.moved.written));
      only_old = settled.only_old;
      no_nursery = settled.no_nursery;
      limits = settled.limits;
      needed = settled.needed;
      none_needed = settled.none_needed;
      stay = settled.stay;
      subjects = settled.subjects;
      nurseries = settled.nurseries;
      left = c.vertices.ensures.number;
      indexed = settled.indexed;
      refused = tt;
      full = λ full. refl;
    }

-- where memory was refused the heap is as it was
pub invariant_of-self : goal.invariant_of-self
invariant_of-self g c =
    let inside = c.self.inside in
    let before = sym c.in_err-move_cells.ensures.refused in
    subst (λ (kept : Type 0). kept) (λ i. IsWellFormed (heap_of (before i) inside.subjects inside.rows.entries) × AreIndexed (before i).spaces.spaces (before i).remembered.places inside.rows.entries) c.self.invariant
