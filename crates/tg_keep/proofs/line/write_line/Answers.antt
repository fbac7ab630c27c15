use Rattle.std.proofs.Common.{[], ◌∷◌, ◌++◌, ◌∙◌, ap, append_assoc}
use Rattle.tg_keep.specs.Sums.{sum_after}
use Rattle.tg_keep.specs.Lines.{line_of, mark_of}
use Rattle.tg_keep.proofs.line.write_line.Goals as goal

pub returns-in-Ok-clause-written : goal.returns-in-Ok-clause-written
unfolding line_of
returns-in-Ok-clause-written c =
    let old = c.args.bytes.now.items in
    let text = c.args.text.now in
    let mark = mark_of c.args.begins in
    let sum = sum_after c.args.before.now text in
    c.in-Ok.ensures.written
    ∙ ap (λ s. ((old ++ text) ++ (32 ∷ mark ∷ s)) ++ (10 ∷ [])) c.sum_after-sum.ensures
    ∙ ap (λ l. l ++ (10 ∷ [])) (append_assoc old text (32 ∷ mark ∷ sum))
    ∙ append_assoc old (text ++ (32 ∷ mark ∷ sum)) (10 ∷ [])
