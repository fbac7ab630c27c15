use Rattle.std.proofs.Common.{ℕ, List, get_or, subst, sym, ap, ◌∙◌}
use Rattle.tg_space.proofs.Tables.{table_list}
use Rattle.tg_graph.specs.Kept.{IsDeadAt}
use Rattle.tg_graph.proofs.KeptDropped.{dead_numbered, dead_tagged}
use Rattle.tg_graph.proofs.settle.object_key.Goals as goal

pub returns-then-words-ne-OBJECT_TAG-clause-none : goal.returns-then-words-ne-OBJECT_TAG-clause-none
returns-then-words-ne-OBJECT_TAG-clause-none c _ forward key is =
    let whole = table_list c.args.spaces.now c.requires.table in
    let tag = dead_tagged c.args.spaces.now.spaces whole forward c.args.number key is in
    c.if-words-ne-OBJECT_TAG.true (ap (λ (words : List ℕ). get_or words 0 0) c.words_near-words.ensures.words ∙ tag)

pub returns-clause-some : goal.returns-clause-some
returns-clause-some c forward unmoved =
    let h = c.args.spaces.now.spaces in
    let whole = table_list c.args.spaces.now c.requires.table in
    let tag = ap (λ (words : List ℕ). get_or words 0 0) (sym c.words_near-words.ensures.words) ∙ c.if-words-ne-OBJECT_TAG.false in
    subst (λ (words : List ℕ). IsDeadAt h forward c.args.number (get_or words 2 0)) (sym c.words_near-words.ensures.words)
    (dead_numbered h whole forward c.args.number c.requires.inside unmoved tag)
