use Rattle.std.proofs.Common.{ℕ, inl, inr, ⊎_elim, below_more, arith}
use Rattle.std.proofs.lemmas.Bool.Decides.{leb_tells}
use Rattle.tg_rights.specs.declared.Right.{Right}
use Rattle.tg_could.specs.Listed.{IsLeftOut}
use Rattle.tgcould.specs.Told.{IsHeldOverBy}
use Rattle.tgcould.proofs.stars.list_held.Goals as goal

pub loop-y-preserved : goal.loop-y-preserved
loop-y-preserved c =
    let Shown : ℕ → Type 0 = λ k. (right : Right) → (¬ IsHeldOverBy c.add_rights.new.rows.items right k) → IsLeftOut c.args.what.now right k in
    below_more Shown c.loop-y.y
    (λ k below right without. c.loop-y.invariant k below right (λ has. without (c.in_ok-add_rights.ensures.kept right k has)))
    (λ right without. (c.over.ensures right).0 (λ has. without (c.in_ok-add_rights.ensures.added right has)))

pub returns : goal.returns
returns c =
    let made = c.args.scene.now.picture.now.made in
    λ right y unlisted g picture.
    c.requires.never g picture right y
    (⊎_elim
    (λ (which, late). (c.over_later-later.ensures right).0 (λ has. unlisted (inr (has, late))) y (omega (arith, late, c.requires.made)))
    (λ (which, below). c.loop-y.invariant y (omega (arith, below, c.made-y-end.ensures, c.loop-y-test.false)) right (λ has. unlisted (inl has)))
    (leb_tells made y))
