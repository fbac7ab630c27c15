use Rattle.std.proofs.Common.{◌≡◌, ◌==◌, ◌+◌, ℕ, suc, Bool, true, false, if◌then◌else◌, length, slice_index_or, refl, sym, ap, ◌∙◌, subst, arith, eq-eqb}
use Rattle.std.proofs.lemmas.Bool.{ne_eqb}
use Rattle.tg_could.specs.Names.{halved, part_after, place_in}
use Rattle.tg_could.proofs.search.names.place_of.Goals as goal

pub loop-step-init : goal.loop-step-init
unfolding part_after
loop-step-init c = (refl, omega arith)

pub loop-step-preserved : goal.loop-step-preserved
unfolding part_after
loop-step-preserved c =
    let names = c.args.names.now in
    let step = c.loop-step.step in
    let next : suc step ≡ step + 1 = omega arith in (
      c.halve-part.ensures.half ∙ ap (halved names c.args.name) c.loop-step.invariant.0 ∙ ap (part_after names c.args.name) next,
      c.halve-part.ensures.within,
    )

pub returns-then-word_of-name : goal.returns-then-word_of-name
unfolding place_in
returns-then-word_of-name c =
    let names = c.args.names.now in
    let name = c.args.name in
    let part = c.loop-step.part in
    let all : c.loop-step.step ≡ c.args.steps = omega (arith, c.loop-step-test.false, c.loop-step.auto.step-end) in
    let is : part ≡ part_after names name c.args.steps = c.loop-step.invariant.0 ∙ ap (part_after names name) all in
    let test : (slice_index_or names part.0 0 == name) ≡ true = eq-eqb (slice_index_or names part.0 0) name (sym c.word_of.ensures ∙ c.if-word_of-name.true) in
    subst (λ (p : ℕ × ℕ). part.0 ≡ (if slice_index_or names p.0 0 == name then p.0 else length names)) is
    (sym (ap (λ (b : Bool). if b then part.0 else length names) test))

pub returns-else-word_of-name : goal.returns-else-word_of-name
unfolding place_in
returns-else-word_of-name c =
    let names = c.args.names.now in
    let name = c.args.name in
    let part = c.loop-step.part in
    let all : c.loop-step.step ≡ c.args.steps = omega (arith, c.loop-step-test.false, c.loop-step.auto.step-end) in
    let is : part ≡ part_after names name c.args.steps = c.loop-step.invariant.0 ∙ ap (part_after names name) all in
    let test : (slice_index_or names part.0 0 == name) ≡ false = ne_eqb (slice_index_or names part.0 0) name (λ same. c.if-word_of-name.false (c.word_of.ensures ∙ same)) in
    subst (λ (p : ℕ × ℕ). length names ≡ (if slice_index_or names p.0 0 == name then p.0 else length names)) is
    (sym (ap (λ (b : Bool). if b then part.0 else length names) test))
