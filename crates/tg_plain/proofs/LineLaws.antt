-- RunsLines of lines.
use Rattle.std.proofs.Common.{◌≡◌, ◌∙◌, ℕ, ◌+◌, refl, sym, ap, subst, arith, List, [], ◌∷◌, ◌++◌, length, append_assoc, append-nil}
use Rattle.tg_text.specs.declared.answer.Answer.{Answer}
use Rattle.tg_plain.specs.declared.refused.RefusedLine.{RefusedLine}
use Rattle.tg_plain.specs.declared.script.ScriptLine.{ScriptLine}
use Rattle.tg_plain.specs.Refused.{noted}
use Rattle.tg_plain.specs.Lines.{AreNumbered, Boxes, Leads, RunsLines, Stage}

-- one line more
pub runs_more : (boxes : Boxes) (lines : List ScriptLine) (refused : List RefusedLine) (s m t : Stage) (l : ScriptLine) (a : Answer) →
    RunsLines boxes s lines refused m → Leads boxes m l.line a t → RunsLines boxes s (lines ++ l ∷ []) (refused ++ noted l a) t
runs_more boxes [] refused s m t l a runs leads = (
  t,
  a,
  [],
  subst (λ (k : Stage). Leads boxes k l.line a t) runs.0 leads,
  ap (λ (x : List RefusedLine). x ++ noted l a) runs.1 ∙ sym (append-nil (noted l a)),
  (refl, refl),
)
runs_more boxes (x ∷ lines) refused s m t l a runs leads =
    let rest = runs.2 in (
      runs.0,
      runs.1,
      rest ++ noted l a,
      runs.3,
      ap (λ (y : List RefusedLine). y ++ noted l a) runs.4 ∙ append_assoc (noted x runs.1) rest (noted l a),
      runs_more boxes lines rest runs.0 m t l a runs.5 leads,
    )

-- one line more with the next number
pub numbers_more : (first : ℕ) (lines : List ScriptLine) (l : ScriptLine) → AreNumbered first lines → l.number ≡ first + length lines → AreNumbered first (lines ++ l ∷ [])
numbers_more first [] l numbers next = (omega (arith, next), tt)
numbers_more first (x ∷ lines) l numbers next = (numbers.0, numbers_more (first + 1) lines l numbers.1 (omega (arith, next)))
