use Rattle.std.proofs.Common.{◌≡◌, ◌∙◌, Some, inl, inr, ⊎_elim, ap, sym}
use Rattle.tg_rows.proofs.cells.remember.Goals as goal

pub returns-in-Some-clause-members : goal.returns-in-Some-clause-members
returns-in-Some-clause-members c =
    λ q.
    let cell = c.in-Some.cell in
    let members = c.note.ensures.members q in (
      λ has. ⊎_elim (λ old. inl old) (λ same. inr (c.in-Some.is ∙ ap Some (sym same))) (members.0 has),
      λ either. members.1 (⊎_elim (λ old. inl old) (λ at. let same : Some cell ≡ Some q = sym c.in-Some.is ∙ at in let here : q ≡ cell = cc in inr here) either),
    )
