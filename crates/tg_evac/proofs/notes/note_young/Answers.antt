use Rattle.std.proofs.Common.{List, refl, inl, inr, sym, subst, ⊎_elim}
use Rattle.std.specs.List.{Contains}
use Rattle.tg_word.specs.declared.Place.{Place}
use Rattle.tg_evac.proofs.notes.note_young.Goals as goal

pub returns-in_ok-reserve : goal.returns-in_ok-reserve
returns-in_ok-reserve c p = (
  (λ held. ⊎_elim
      (λ (early : Contains c.reserve.new.self.places p). inl (subst (λ (ps : List Place). Contains ps p) c.reserve.ensures.kept early))
      (λ is. inr (is, c.if-place-eq-OLD.true, c.if-names_young.ensures.0 refl))
      ((c.note.ensures.members p).0 held)),
  (λ has. (c.note.ensures.members p).1 (⊎_elim
      (λ (early : Contains c.args.remembered.now.places p). inl (subst (λ (ps : List Place). Contains ps p) (sym c.reserve.ensures.kept) early))
      (λ is. inr is.0)
      has)),
)
