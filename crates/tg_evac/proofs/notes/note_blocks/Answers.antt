use Rattle.std.proofs.Common.{◌<◌, ◌≤◌, ◌+◌, inl, inr, arith, ⊎_elim}
use Rattle.std.proofs.lemmas.Bool.{cases_lt}
use Rattle.tg_evac.proofs.notes.note_blocks.Goals as goal

pub loop-block-init : goal.loop-block-init
loop-block-init c p = (λ held. inl held, λ has. ⊎_elim (λ held. held) (λ new. absurd (let behind = new.0.behind in let low = new.1 in omega arith)) has)

pub loop-block-preserved : goal.loop-block-preserved
loop-block-preserved c p =
    let kept = c.args.kept in let b = c.loop-block.block in (
      (λ held. ⊎_elim
          (λ early. ⊎_elim (λ old. inl old) (λ new. inr (new.0, (let low = new.1 in omega arith), new.2)) ((c.loop-block.invariant p).0 early))
          (λ here. inr (here.0, (let at = here.1 in omega arith), here.2))
          ((c.in_ok-note_block.ensures p).0 held)),
      (λ has. (c.in_ok-note_block.ensures p).1 (⊎_elim
          (λ old. inl ((c.loop-block.invariant p).1 (inl old)))
          (λ new. ⊎_elim
          (λ (early : p.block < kept + b). inl ((c.loop-block.invariant p).1 (inr (new.0, early, new.2))))
          (λ (past : kept + b ≤ p.block). inr (new.0, (let low = new.1 in omega arith), new.2))
          (cases_lt p.block (kept + b)))
          has)),
    )

pub returns : goal.returns
returns c p = (
  (λ held. ⊎_elim (λ old. inl old) (λ new. inr (new.0, new.2)) ((c.loop-block.invariant p).0 held)),
  (λ has. (c.loop-block.invariant p).1 (⊎_elim (λ old. inl old) (λ new. inr (new.0, (let low = new.0.block in let behind = new.0.behind in omega (arith, c.loop-block-test.false, c.len-block-end.ensures.blocks)), new.1)) has)),
)
