use Rattle.std.proofs.Common.{List, ℕ, [], refl, subst, below_more, arith}
use Rattle.std.proofs.lemmas.List.Elements.{All-from_get_or}
use Rattle.tg_space.specs.Soundness.{HasLayout}
use Rattle.tg_space.specs.SpaceList.{cells_of}
use Rattle.tg_space.specs.Targets.{cell_numbered}
use Rattle.heap_tests.proofs.collections.sound.have_layouts.Goals as goal

pub loop-number-preserved : goal.loop-number-preserved
loop-number-preserved c =
    let h = c.args.spaces.now.spaces in
    below_more (λ k. HasLayout h (cell_numbered h k)) c.loop-number.number c.loop-number.invariant
    (subst (λ (ws : List ℕ). HasLayout h ws) c.numbered_words.ensures.words (c.if-not-has_layout.ensures refl))

pub returns : goal.returns
returns c _ =
    let h = c.args.spaces.now.spaces in
    let count = c.cells-number-end.ensures.cells in
    All-from_get_or (HasLayout h) (cells_of h) [] (λ k low. c.loop-number.invariant k (omega arith))
