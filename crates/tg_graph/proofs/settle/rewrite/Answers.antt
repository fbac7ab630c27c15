use Rattle.std.proofs.Common.{List, ℕ, length, map, subst, sym, arith, ◌∙◌}
use Rattle.std.specs.List.{All}
use Rattle.std.proofs.lemmas.List.{take_all}
use Rattle.tg_space.specs.Collection.{new_place}
use Rattle.tg_space.specs.Numbering.{NamesNumbered}
use Rattle.tg_space.specs.Soundness.{IsPointer}
use Rattle.tg_space.specs.SpaceList.{cell_at}
use Rattle.tg_space.specs.Targets.{from_space, image_of, pointers_of}
use Rattle.tg_space.proofs.Numbered.{names_numbered}
use Rattle.tg_word.specs.declared.Place.{Place}
use Rattle.tg_graph.specs.Kept.{AreWritten, rewritten_at}
use Rattle.tg_graph.proofs.KeptWritten.{held_still, is_left, none_written, words_still, written_next}
use Rattle.tg_graph.proofs.settle.rewrite.Goals as goal

pub loop-i-init : goal.loop-i-init
loop-i-init g c = none_written c.args.spaces.now

pub cell-requires : goal.cell-requires
cell-requires g c = held_still g.h c.args.moves.forward.now.words c.args.spaces.now c.loop-i.spaces c.args.remembered.now.places c.requires.cells c.len-i-end.ensures.each_once c.loop-i.i c.nth-place.result c.nth-place.ensures c.loop-i.invariant

pub image-words-requires : goal.image-words-requires
image-words-requires g c =
    let forward = c.args.moves.forward.now.words in
    let places = c.args.remembered.now.places in
    let still = words_still g.h forward c.args.spaces.now c.loop-i.spaces places c.requires.cells c.len-i-end.ensures.each_once c.loop-i.i c.nth-place.result c.nth-place.ensures c.loop-i.invariant in
    let left = is_left g.h forward c.args.spaces.now c.loop-i.spaces places c.requires.cells c.len-i-end.ensures.each_once c.loop-i.i c.nth-place.result c.nth-place.ensures c.loop-i.invariant in
    let starts = c.args.moves.numbering.now.starts in
    let named = names_numbered g.h starts (length forward) c.requires.numbers (pointers_of (cell_at g.h c.nth-place.result)) left.pointers in
    subst (λ (words : List ℕ). All (NamesNumbered starts (length forward)) (pointers_of words)) (sym (c.cell.ensures.words ∙ still)) named

pub write_cell-requires-clause-held : goal.write_cell-requires-clause-held
write_cell-requires-clause-held g c = held_still g.h c.args.moves.forward.now.words c.args.spaces.now c.loop-i.spaces c.args.remembered.now.places c.requires.cells c.len-i-end.ensures.each_once c.loop-i.i c.nth-place.result c.nth-place.ensures c.loop-i.invariant

pub loop-i-preserved : goal.loop-i-preserved
loop-i-preserved g c =
    let h = g.h in
    let places = c.args.remembered.now.places in
    let forward = c.args.moves.forward.now.words in
    let p = c.nth-place.result in
    let still = words_still h forward c.args.spaces.now c.loop-i.spaces places c.requires.cells c.len-i-end.ensures.each_once c.loop-i.i p c.nth-place.ensures c.loop-i.invariant in
    let left = is_left h forward c.args.spaces.now c.loop-i.spaces places c.requires.cells c.len-i-end.ensures.each_once c.loop-i.i p c.nth-place.ensures c.loop-i.invariant in
    let words = c.cell.ensures.words ∙ still in
    let pointers = subst (λ (ws : List ℕ). All (IsPointer h) (pointers_of ws)) (sym words) left.pointers in
    written_next h forward c.args.spaces.now c.loop-i.spaces places c.requires.cells c.len-i-end.ensures.each_once c.loop-i.i p c.nth-place.ensures c.loop-i.invariant c.write_cell.new.self c.image-words.result c.cell.ensures.table
    (c.image-words.ensures h c.requires.numbers.before pointers ∙ (λ i. image_of (from_space (c.requires.nursery i)) h (new_place forward) (words i))) c.write_cell.ensures

pub returns : goal.returns
returns g c =
    let places = c.args.remembered.now.places in
    let past = c.loop-i-test.false in
    let long = c.len-i-end.ensures.len in
    record {
      written = subst (λ (ps : List Place). AreWritten c.args.spaces.now c.loop-i.spaces (map (rewritten_at g.h c.args.moves.forward.now.words) ps)) (take_all c.loop-i.i places (omega (arith, past, long))) c.loop-i.invariant;
      table = c.blocks-2.ensures.table;
    }
