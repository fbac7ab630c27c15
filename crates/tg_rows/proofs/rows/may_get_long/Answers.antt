use Rattle.std.proofs.Common.{◌≡◌, ◌∙◌, ◌+◌, length, refl, sym, ap, arith}
use Rattle.tg_word.specs.Word.{place_in}
use Rattle.tg_space.specs.Rows.{row_of}
use Rattle.tg_rows.proofs.Indexing.{follow_begins, follow_ends, follow_goes_on}
use Rattle.std.proofs.lemmas.Bool.{false≢true}
use Rattle.tg_rows.proofs.rows.may_get_long.Goals as goal

pub loop-step-init : goal.loop-step-init
loop-step-init c = follow_begins c.args.spaces.now.spaces c.args.from c.requires

pub loop-step-preserved : goal.loop-step-preserved
loop-step-preserved c =
    follow_goes_on c.args.spaces.now.spaces c.args.from c.loop-step.at c.loop-step._step c.loop-step.invariant c.place_of-at.result
    (λ none. c.if-link-eq0.false (c.read-link.ensures ∙ none)) (c.place_of-at.ensures ∙ ap place_in c.read-link.ensures)

pub returns-then-link-eq0 : goal.returns-then-link-eq0
returns-then-link-eq0 c =
    let long : length (row_of c.args.spaces.now.spaces c.args.from) ≡ c.loop-step._step + 1 =
    follow_ends c.args.spaces.now.spaces c.args.from c.loop-step.at c.loop-step._step c.loop-step.invariant (sym c.read-link.ensures ∙ c.if-link-eq0.true) in
    (λ yes. absurd (false≢true yes), λ more. absurd (omega (arith, long, more, c.loop-step-test.true)))

pub returns : goal.returns
returns c =
    let long = c.loop-step.invariant.long in
    (λ _. omega (arith, long, c.loop-step-test.false), λ _. refl)
