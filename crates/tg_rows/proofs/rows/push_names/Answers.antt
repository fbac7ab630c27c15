use Rattle.std.proofs.Common.{◌++◌, ◌∷◌, ◌∙◌, ℕ, List, Option, [], map, take, get_or, sym, ap, append_assoc, length}
use Rattle.std.proofs.lemmas.List.{map-append, take_more, take_all}
use Rattle.tg_rows.specs.Index.{name_referred}
use borrow.Author.Count.{falls}
use Rattle.tg_rows.proofs.rows.push_names.Goals as goal

pub loop-word-preserved : goal.loop-word-preserved
loop-word-preserved c =
    let f = name_referred c.args.spaces.now.spaces in
    let words = c.args.words.now in
    let i = c.loop-word.word-index in
    let before = c.args.names.now.items in
    let one = c.name_of_target.result in
    c.in_ok-push.ensures.items
    ∙ ap (λ (names : List (Option ℕ)). names ++ one ∷ []) c.loop-word.invariant
    ∙ append_assoc before (map f (take i words)) (one ∷ [])
    ∙ ap (λ (o : Option ℕ). before ++ (map f (take i words) ++ o ∷ [])) c.name_of_target.ensures
    ∙ ap (λ (names : List (Option ℕ)). before ++ names) (sym (map-append f (take i words) (get_or words i 0 ∷ [])) ∙ ap (map f) (sym (take_more words i 0 c.loop-word-test.true)))

pub loop-word-smaller : goal.loop-word-smaller
loop-word-smaller c = falls (length c.args.words.now) c.loop-word.word-index c.loop-word-test.true

pub returns : goal.returns
returns c =
    c.loop-word.invariant
    ∙ ap (λ (words : List ℕ). c.args.names.now.items ++ map (name_referred c.args.spaces.now.spaces) words) (take_all c.loop-word.word-index c.args.words.now c.loop-word-test.false)
