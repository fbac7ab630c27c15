use Rattle.std.proofs.Common.{◌≡◌, ◌∙◌, sym, ap, subst, ℕ, false}
use Rattle.tg_could.specs.Reached.{with_edges}
use Rattle.tg_could.specs.Names.{number_in}
use Rattle.tg_could.specs.View.{name_word, meets}
use Rattle.tg_could.proofs.ViewLaws.{perhaps_not, since-pictured, viewed-same, viewed-alone, viewed-never}
use Rattle.tg_could.proofs.view.Facts.could.Goals as goal

pub returns-then-question : goal.returns-then-question
returns-then-question c silent shown g since picture never =
    let supposed = c.args.supposed.now in
    viewed-same silent since.opened c.args.added.now supposed (with_edges g supposed) c.args.self.now c.args.question c.in-Some.word
    (since-pictured silent shown c.args.self.now c.args.added.now supposed g since picture (c.have_ends.ensures c.if-not-have_ends.false)) since.checked c.in-Some.ensures
    c.if-question.true

pub returns-then-is_alone : goal.returns-then-is_alone
returns-then-is_alone c silent shown g since picture never =
    let supposed = c.args.supposed.now in
    let is = c.is_alone.ensures c.if-is_alone.true in
    viewed-alone silent since.opened c.args.added.now supposed (with_edges g supposed) c.args.self.now c.args.question c.in-Some.word
    (since-pictured silent shown c.args.self.now c.args.added.now supposed g since picture (c.have_ends.ensures c.if-not-have_ends.false)) since.checked c.in-Some.ensures
    is.0 is.1

pub returns : goal.returns
returns c silent shown g since picture never =
    let f = c.args.self.now in
    let supposed = c.args.supposed.now in
    let word = c.in-Some.word in
    let at : c.granted.result ≡ name_word f.islands.granted.items (number_in f.names c.args.question.x) =
    c.granted.ensures ∙ ap (λ (n : ℕ). name_word f.islands.granted.items n) c.number-number.ensures in
    viewed-never silent since.opened c.args.added.now supposed (with_edges g supposed) f c.args.question word
    (since-pictured silent shown c.args.self.now c.args.added.now supposed g since picture (c.have_ends.ensures c.if-not-have_ends.false)) since.checked c.in-Some.ensures
    (subst (λ (n : ℕ). meets n word ≡ false) at (sym c.meets.ensures ∙ c.if-meets.false))
    (c.are_placed.ensures c.if-not-are_placed.false)

pub returns-then-meets : goal.returns-then-meets
returns-then-meets c silent shown g since picture never = absurd (perhaps_not never)

pub returns-then-not-are_placed : goal.returns-then-not-are_placed
returns-then-not-are_placed c silent shown g since picture never = absurd (perhaps_not never)

pub returns-in_default : goal.returns-in_default
returns-in_default c silent shown g since picture never = absurd (perhaps_not never)

pub returns-then-not-have_ends : goal.returns-then-not-have_ends
returns-then-not-have_ends c silent shown g since picture never = absurd (perhaps_not never)
