use Rattle.std.proofs.Common.{◌≡◌, ◌∙◌, ◌++◌, ◌+◌, ℕ, List, ap, length, map, refl, subst, sym, take, arith}
use Rattle.std.specs.List.{All}
use Rattle.std.specs.Vec.{with_items}
use Rattle.std.proofs.lemmas.List.{length-append, length-map, with_items_is}
use Rattle.tg_word.specs.Word.{place_in}
use Rattle.tg_space.specs.Collection.{new_place}
use Rattle.tg_space.specs.Targets.{from_space}
use Rattle.tg_rows.specs.Inner.Cells.{CellList}
use Rattle.tg_space.specs.Numbering.{IsNumbered, followed_place}
use Rattle.tg_rows.specs.Index.{IsOldPlace}
use Rattle.tg_rows.proofs.FollowedRows.{words_long, words_moved, words_old, young_numbered, young_old}
use Rattle.tg_rows.proofs.followed.follow_cells.Goals as goal

pub split_at_mut-young-requires : goal.split_at_mut-young-requires
split_at_mut-young-requires c =
    let long = ap (λ (ws : List ℕ). length ws) c.deref_mut.ensures.value in
    let same = ap (λ (cells : CellList). length cells.items) c.cells.view_is in
    let within = c.requires.within in
    omega (arith, long, same, within, length-map c.cells.inside.words.items place_in)

pub follow_words-requires : goal.follow_words-requires
follow_words-requires c =
    let split = c.split_at_mut-young.ensures in
    let numbered = subst (λ (cells : CellList). All (IsNumbered c.args.moves.numbering.now.starts (length c.args.moves.forward.now.words)) cells.items) (sym c.cells.view_is) c.requires.numbered in
    young_numbered c.args.moves.kind c.args.moves.numbering.now.starts c.args.moves.forward.now.words c.cells.inside.words.items c.split_at_mut-young.result.0.now c.split_at_mut-young.result.1.now _ c.args.first
    (sym c.deref_mut.ensures.value ∙ split.value) (split.front ∙ ap (take c.args.first) c.deref_mut.ensures.value) split.front_len refl numbered

pub count_moved-requires : goal.count_moved-requires
count_moved-requires c =
    let split = c.split_at_mut-young.ensures in
    let numbered = subst (λ (cells : CellList). All (IsNumbered c.args.moves.numbering.now.starts (length c.args.moves.forward.now.words)) cells.items) (sym c.cells.view_is) c.requires.numbered in
    young_old c.args.moves.kind c.args.moves.numbering.now.starts c.args.moves.forward.now.words c.cells.inside.words.items c.split_at_mut-young.result.0.now c.split_at_mut-young.result.1.now c.follow_words.new.words c.args.first
    (sym c.deref_mut.ensures.value ∙ split.value) (split.front ∙ ap (take c.args.first) c.deref_mut.ensures.value) split.front_len c.follow_words.ensures c.requires.to_old numbered

-- the words of the row then: those that stay, and the others once they were followed
words_now : (c : goal.After-cells-3-1) → (with_items c.cells.inside.words (c.split_at_mut-young.result.0.now ++ c.follow_words.new.words)).items ≡ c.split_at_mut-young.result.0.now ++ c.follow_words.new.words
words_now c =
    let split = c.split_at_mut-young.ensures in
    with_items_is c.cells.inside.words (c.split_at_mut-young.result.0.now ++ c.follow_words.new.words) (words_long c.args.moves.kind c.args.moves.numbering.now.starts c.args.moves.forward.now.words c.cells.inside.words.items c.split_at_mut-young.result.0.now c.split_at_mut-young.result.1.now c.follow_words.new.words c.args.first
    (sym c.deref_mut.ensures.value ∙ split.value) (split.front ∙ ap (take c.args.first) c.deref_mut.ensures.value) split.front_len c.follow_words.ensures ∙ sym c.cells.inside.words.ok.0)

pub returns : goal.returns
returns c =
    let split = c.split_at_mut-young.ensures in
    let old = subst (λ (cells : CellList). All IsOldPlace (take c.args.first cells.items)) (sym c.cells.view_is) c.requires.old in
    let within = c.count_moved.ensures.within in
    let words = c.split_at_mut-young.result.0.now ++ c.follow_words.new.words in
    let long : length (map place_in (with_items c.cells.inside.words words).items) ≡ length words = length-map (with_items c.cells.inside.words words).items place_in ∙ ap (λ (ws : List ℕ). length ws) (words_now c) in
    record {
      moved = ap (map place_in) (words_now c)
          ∙ words_moved c.args.moves.kind c.args.moves.numbering.now.starts c.args.moves.forward.now.words c.cells.inside.words.items c.split_at_mut-young.result.0.now c.split_at_mut-young.result.1.now c.follow_words.new.words c.args.first
          (sym c.deref_mut.ensures.value ∙ split.value) (split.front ∙ ap (take c.args.first) c.deref_mut.ensures.value) split.front_len c.follow_words.ensures c.requires.full old
          ∙ ap (λ (cells : CellList). map (followed_place (from_space c.args.moves.kind) c.args.moves.numbering.now.starts (new_place c.args.moves.forward.now.words)) cells.items) c.cells.view_is;
      from = omega arith;
      within = omega (arith, split.front_len, within, long, length-append c.split_at_mut-young.result.0.now c.follow_words.new.words);
      old = subst (λ (ws : List ℕ). All IsOldPlace (take (c.args.first + c.count_moved.result) (map place_in ws))) (sym (words_now c))
          (words_old c.args.moves.kind c.args.moves.numbering.now.starts c.args.moves.forward.now.words c.cells.inside.words.items c.split_at_mut-young.result.0.now c.split_at_mut-young.result.1.now c.follow_words.new.words c.args.first
          (sym c.deref_mut.ensures.value ∙ split.value) (split.front ∙ ap (take c.args.first) c.deref_mut.ensures.value) split.front_len c.follow_words.ensures c.count_moved.result old c.count_moved.ensures.old);
    }
