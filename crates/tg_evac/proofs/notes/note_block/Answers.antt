use Rattle.std.proofs.Common.{◌≡◌, ℕ, List, ◌<◌, ◌≤◌, ◌+◌, ◌-◌, [], get_or, refl, sym, ap, subst, inl, inr, arith, ⊎_elim, ◌∙◌}
use Rattle.std.proofs.lemmas.Bool.{cases_lt}
use Rattle.tg_block.specs.Cells.{cell_of}
use Rattle.tg_word.specs.declared.Place.{Place}
use Rattle.tg_space.specs.Generations.{NamesYoung}
use Rattle.tg_evac.specs.Copies.{IsPlaceIn, new_cell}
use Rattle.tg_evac.proofs.Copying.{same_place}
use Rattle.tg_evac.proofs.notes.note_block.Goals as goal

pub loop-cell-init : goal.loop-cell-init
loop-cell-init c p = (λ held. inl held, λ has. ⊎_elim (λ held. held) (λ new. absurd (let low = new.2 in omega arith)) has)

pub loop-cell-preserved : goal.loop-cell-preserved
loop-cell-preserved c p =
    let kept = c.args.kept in let block = c.args.block in let cell = c.loop-cell.cell in let blocks = c.args.blocks.now in
    let place : Place = record { space = 0; block = kept + block; cell = cell } in
    let at : kept + block - kept ≡ block = omega arith in
    let words : c.words.result.now ≡ new_cell kept blocks place = c.words.ensures ∙ ap (λ (b : ℕ). cell_of (get_or blocks b []) cell) (sym at) in
    let inside : IsPlaceIn 0 kept blocks place = record { space = refl; behind = omega arith; block = (let low = c.requires.inside in omega arith); cell = (let low = c.loop-cell-test.true in omega arith) } in (
      (λ held. ⊎_elim
          (λ early. ⊎_elim (λ old. inl old) (λ new. inr (new.0, new.1, (let low = new.2 in omega arith), new.3)) ((c.loop-cell.invariant p).0 early))
          (λ here.
          let is = here.0 in
          inr (subst (λ (q : Place). IsPlaceIn 0 kept blocks q) (sym is) inside, ap (λ (q : Place). q.block) is, (let same = ap (λ (q : Place). q.cell) is in omega arith), subst (λ (q : Place). NamesYoung (new_cell kept blocks q)) (sym is) (subst (λ (ws : List ℕ). NamesYoung ws) words here.2)))
          ((c.in_ok-note_young.ensures p).0 held)),
      (λ has. (c.in_ok-note_young.ensures p).1 (⊎_elim
          (λ old. inl ((c.loop-cell.invariant p).1 (inl old)))
          (λ new. ⊎_elim
          (λ (early : p.cell < cell). inl ((c.loop-cell.invariant p).1 (inr (new.0, new.1, early, new.3))))
          (λ (past : cell ≤ p.cell).
          let is : p ≡ place = same_place p place new.0.space new.1 (let low = new.2 in omega arith) in
          inr (is, refl, subst (λ (ws : List ℕ). NamesYoung ws) (sym words) (subst (λ (q : Place). NamesYoung (new_cell kept blocks q)) is new.3)))
          (cases_lt p.cell cell))
          has)),
    )

pub returns : goal.returns
returns c p = (
  (λ held. ⊎_elim (λ old. inl old) (λ new. inr (new.0, new.1, new.3)) ((c.loop-cell.invariant p).0 held)),
  (λ has. (c.loop-cell.invariant p).1 (⊎_elim (λ old. inl old) (λ new. inr (new.0, new.1, (let low = new.0.cell in let end = c.loop-cell-test.false in omega arith), new.2)) has)),
)
