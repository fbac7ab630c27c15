use Rattle.std.proofs.Common.{List, ℕ, subst}
use Rattle.std.proofs.lemmas.List.{take_all}
use Rattle.tg_space.specs.Targets.{named_by, young_spaces}
use Rattle.tg_graph.specs.Heap.{AddsRoots}
use Rattle.tg_graph.proofs.Starts.{words_more}
use Rattle.tg_graph.proofs.settle.add_young.Goals as goal

pub loop-word-preserved : goal.loop-word-preserved
loop-word-preserved c = λ h rows.
    words_more h c.args.words.now c.loop-word.word-index 0 c.loop-word-test.true c.args.roots.now.items c.loop-word.roots.items c.add_if_young.new.roots.items (c.loop-word.invariant h rows)
    (c.in_ok-add_if_young.ensures h (rows c.loop-word.word-index 0 c.loop-word-test.true))

pub returns : goal.returns
returns c = λ h rows.
    subst (λ (words : List ℕ). AddsRoots h (named_by young_spaces h words) c.args.roots.now.items c.loop-word.roots.items) (take_all c.loop-word.word-index c.args.words.now c.loop-word-test.false) (c.loop-word.invariant h rows)
