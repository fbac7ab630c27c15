use Rattle.std.proofs.Common.{◌≡◌, List, [], subst, arith, inl, inr, ⊎_elim}
use Rattle.std.specs.List.{Contains}
use Rattle.tg_word.specs.declared.Place.{Place}
use Rattle.tg_evac.proofs.notes.Made.notes.Goals as goal

nothing : (places : List Place) → places ≡ [] → (p : Place) → Contains places p → ⊥
nothing places none p held = let empty : Contains [] p = subst (λ (ps : List Place). Contains ps p) none held in absurd (let low = empty.1 in omega arith)

pub returns-in-Full : goal.returns-in-Full
returns-in-Full c p = (
  (λ held. ⊎_elim (λ early. absurd (nothing c.new-remembered.result.places c.new-remembered.ensures p early)) (λ root. inl root) ((c.in_ok-note_roots.ensures p).0 held)),
  (λ has. ⊎_elim (λ root. (c.in_ok-note_roots.ensures p).1 (inr root)) (λ young. absurd (c.requires.full c.in-Full.is p young.0 young.1)) has),
)

pub returns-in_ok-note_blocks-in-Nursery : goal.returns-in_ok-note_blocks-in-Nursery
returns-in_ok-note_blocks-in-Nursery c p = (
  (λ held. ⊎_elim
      (λ early. ⊎_elim (λ before. absurd (nothing c.new-remembered.result.places c.new-remembered.ensures p before)) (λ root. inl root) ((c.in_ok-note_roots.ensures p).0 early))
      (λ young. inr young) ((c.in_ok-note_blocks-in-Nursery.ensures p).0 held)),
  (λ has. (c.in_ok-note_blocks-in-Nursery.ensures p).1 (⊎_elim (λ root. inl ((c.in_ok-note_roots.ensures p).1 (inr root))) (λ young. inr young) has)),
)
