use Rattle.std.proofs.Common.{◌≡◌, ◌∙◌, ◌-◌, ap, arith, drop, take, subst, sym, List, ℕ}
use Rattle.std.specs.List.{All}
use Rattle.std.specs.Result.{OnOk}
use Rattle.tg_space.specs.Targets.{named_by, pointers_of, young_spaces}
use Rattle.tg_graph.specs.Heap.{AddsRoots, NamesRow}
use Rattle.tg_graph.proofs.Starts.{cell_names_rows, rest_taken}
use Rattle.tg_graph.proofs.settle.add_named.Goals as goal

pub returns : goal.returns
returns c =
    let h = c.args.spaces.now.spaces in
    let words = c.words-words.result.now in
    let first = c.first_pointer.result in
    let part : take (8 - first) (drop first words) ≡ pointers_of words = rest_taken words first (8 - first) (omega (arith, c.words-words.ensures.whole)) ∙ ap (λ n. drop n words) c.first_pointer.ensures.word in
    let rows : All (NamesRow h) (pointers_of words) = rw c.words-words.ensures.words (cell_names_rows h _ (rw c.words-words.ensures.words at c.words-words.ensures.whole) c.requires.layout) in
    subst (λ (ws : List ℕ). OnOk c.add_young.result (AddsRoots h (named_by young_spaces h (pointers_of ws)) c.args.roots.now.items c.add_young.new.roots.items)) c.words-words.ensures.words
    (subst (λ (ws : List ℕ). OnOk c.add_young.result (AddsRoots h (named_by young_spaces h ws) c.args.roots.now.items c.add_young.new.roots.items)) part
    (c.add_young.ensures h (subst (All (NamesRow h)) (sym part) rows)))
