use Rattle.std.proofs.Common.{◌≡◌, ◌∙◌, ℕ, Bool, true, false, refl, sym, arith}
use Rattle.std.proofs.lemmas.Bool.{false≢true}
use Rattle.tgcould.specs.Policies.{status_after}
use Rattle.tgcould.proofs.answers.Answers.add_noted.Goals as goal

-- where the status is 0 after an answer, it was before
was_zero : (old new : ℕ) (must is : Bool) → new ≡ status_after old must is → new ≡ 0 → old ≡ 0
was_zero old new true true after zero = sym after ∙ zero
was_zero old new true false after zero = absurd (omega arith)
was_zero old new false is after zero = sym after ∙ zero

-- and the answer to what must never come about is that it never does
is_never : (old new : ℕ) (must is : Bool) → new ≡ status_after old must is → new ≡ 0 → must ≡ true → is ≡ true
is_never old new true true after zero told = refl
is_never old new true false after zero told = absurd (omega arith)
is_never old new false is after zero told = absurd (false≢true told)

pub returns : goal.returns
returns c = record {
  before = λ zero. sym c.add-told.ensures.status ∙ was_zero _ _ c.args.must_never c.add-told.result.is_never c.add.ensures zero;
  kept = λ zero must. c.add-told.ensures.never (is_never _ _ c.args.must_never c.add-told.result.is_never c.add.ensures zero must);
}
