use Rattle.std.proofs.Common.{◌<◌, ℕ, List, [], ◌∷◌, ◌++◌, take, sym, ap, ◌∙◌, subst}
use Rattle.std.specs.List.{Contains}
use Rattle.std.proofs.lemmas.List.{take_more, take_all}
use Rattle.std.proofs.lemmas.Bool.{false≢true}
use Rattle.tg_could.specs.Turns.{Turn, AreTurns, after}
use Rattle.tg_could.specs.Inner.Trial.{Stands}
use Rattle.tg_could.proofs.MoveLaws.{AreTurns-append, after-append}
use Rattle.tg_could.proofs.witness.trial.Trial.take_turns.Goals as goal

pub loop-turn-init : goal.loop-turn-init
loop-turn-init c g stands = (tt, stands)

pub loop-turn-preserved : goal.loop-turn-preserved
loop-turn-preserved c g stands =
    let kept = c.loop-turn.invariant g stands in
    let i = c.loop-turn.turn-index in
    let x = c.turn-item.result in
    let before = take i c.args.turns.now in
    let more = take_more c.args.turns.now i x c.loop-turn-test.true ∙ ap (λ y. before ++ y ∷ []) (sym c.turn-item.is) in
    let silent : ℕ → Type 0 = λ p. Contains c.args.silent.now p × (p < c.args.first) in
    let edges = c.args.edges.now in
    let taken = c.if-not-taken.false in (
      subst (AreTurns silent g) (sym more) (AreTurns-append silent g before (x ∷ []) kept.0 (c.in_ok-taken.ensures.acts taken (after g before) kept.1, tt)),
      subst (λ (l : List Turn). Stands edges c.take_turn.new.self (after g l)) (sym more)
          (subst (Stands edges c.take_turn.new.self) (sym (after-append g before (x ∷ []))) (c.in_ok-taken.ensures.step taken (after g before) kept.1)),
    )

pub returns : goal.returns
returns c t g stands =
    let kept = c.loop-turn.invariant g stands in
    let silent : ℕ → Type 0 = λ p. Contains c.args.silent.now p × (p < c.args.first) in
    let all = take_all c.loop-turn.turn-index c.args.turns.now c.loop-turn-test.false in (
      subst (AreTurns silent g) all kept.0,
      subst (λ (l : List Turn). Stands c.args.edges.now c.loop-turn.self (after g l)) all kept.1,
    )

pub returns-then-not-taken : goal.returns-then-not-taken
returns-then-not-taken c t = absurd (false≢true t)
