use Rattle.std.proofs.Common.{◌≡◌, ◌∙◌, ◌∷◌, ◌++◌, ◌+◌, ◌-◌, Bool, ℕ, false, true, arith, ap, drop, sym}
use Rattle.std.proofs.lemmas.List.{drop-set}
use Rattle.tg_rights.specs.RightSet.{has, holds_all, letter_if, letter_of}
use Rattle.tg_rights.proofs.RightLaws.{holds_all-only}
use Rattle.tg_text.proofs.reply.spell_held.Goals as goal

pub returns-then-not-contains-clause-spelt : goal.returns-then-not-contains-clause-spelt
returns-then-not-contains-clause-spelt c =
    let lacks : has c.args.rights c.args.right ≡ false = sym (holds_all-only c.args.rights c.args.right) ∙ ap (holds_all c.args.rights) (sym c.of.ensures) ∙ sym c.contains.ensures ∙ c.if-not-contains.true in
    sym (ap (λ (held : Bool). letter_if held (letter_of c.args.right) ++ drop c.args.end c.args.text.now) lacks)

pub returns-clause-spelt : goal.returns-clause-spelt
returns-clause-spelt c =
    let holds : has c.args.rights c.args.right ≡ true = sym (holds_all-only c.args.rights c.args.right) ∙ ap (holds_all c.args.rights) (sym c.of.ensures) ∙ sym c.contains.ensures ∙ c.if-not-contains.false in
    let text = c.args.text.now in
    let end = c.args.end in
    let next : end - 1 + 1 ≡ end = omega (arith, c.requires.room) in
    drop-set text (end - 1) c.letter.result (omega (arith, c.requires.room, c.requires.inside))
    ∙ ap (λ (at : ℕ). c.letter.result ∷ drop at text) next
    ∙ ap (λ (letter : ℕ). letter ∷ drop end text) c.letter.ensures
    ∙ sym (ap (λ (held : Bool). letter_if held (letter_of c.args.right) ++ drop end text) holds)
