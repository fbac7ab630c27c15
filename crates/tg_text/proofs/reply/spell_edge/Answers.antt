use Rattle.std.proofs.Common.{◌≡◌, ◌∙◌, ◌∷◌, ◌++◌, ◌+◌, ◌-◌, [], List, ℕ, arith, ap, decimal, drop, sym, append_assoc, append-nil}
use Rattle.std.proofs.lemmas.List.{drop-set, drop_all}
use Rattle.tg_rights.specs.RightSet.{text_of}
use Rattle.tg_text.proofs.reply.spell_edge.Goals as goal

pub returns-clause-spelt : goal.returns-clause-spelt
returns-clause-spelt c =
    let rights = c.spell_rights-colon in
    let text = rights.new.text in
    let name = 32 ∷ decimal c.args.edge.0 in
    let next : rights.result - 1 + 1 ≡ rights.result = omega (arith, rights.ensures.taken.short) in
    let letters : drop rights.result text ≡ text_of c.args.edge.1 =
    rights.ensures.spelt ∙ ap (λ (x : List ℕ). text_of c.rights.result ++ x) (drop_all 30 c.args.text.now (omega (arith, c.told-text))) ∙ append-nil (text_of c.rights.result) ∙ ap text_of c.rights.ensures.same in
    c.spell_value.ensures.spelt
    ∙ ap (λ (x : List ℕ). name ++ x) (
    drop-set text (rights.result - 1) 58 (omega (arith, rights.ensures.taken.short, rights.ensures.taken.within, rights.ensures.taken.long, c.told-text))
    ∙ ap (λ (at : ℕ). 58 ∷ drop at text) next
    ∙ ap (λ (x : List ℕ). 58 ∷ x) letters)
    ∙ sym (append_assoc name (58 ∷ []) (text_of c.args.edge.1))
