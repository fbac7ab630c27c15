use Rattle.std.proofs.Common.{ℕ, ap, not, inl, inr, ⊎_elim, below_more, arith}
use Rattle.std.proofs.lemmas.Bool.{true_from_ne_false}
use Rattle.std.specs.List.{Contains}
use Rattle.std.proofs.lemmas.Bool.Decides.{leb_tells}
use Rattle.tg_could.specs.Told.{IsLeftOut}
use Rattle.tgcould.proofs.stars.list_holders.Goals as goal

pub loop-x-preserved : goal.loop-x-preserved
loop-x-preserved c =
    let Shown : ℕ → Type 0 = λ k. (¬ Contains c.add_unless_never.new.names.items k) → IsLeftOut c.args.who.now k in
    below_more Shown c.loop-x.x (λ k below without. c.loop-x.invariant k below (λ has. without (c.in_ok-add_unless_never.ensures.kept k has)))
    c.in_ok-add_unless_never.ensures.shown

pub returns : goal.returns
returns c =
    let made = c.args.scene.now.picture.now.made in
    λ x unlisted g picture.
    c.requires.never g picture x
    (⊎_elim
    (λ (which, late). c.of_later.ensures.0 (c.is_never-later.ensures (true_from_ne_false c.is_never-later.result (λ ne. unlisted (inr (ap not ne, late))))) x (omega (arith, late, c.requires.made)))
    (λ (which, below). c.loop-x.invariant x (omega (arith, below, c.made-x-end.ensures, c.loop-x-test.false)) (λ has. unlisted (inl has)))
    (leb_tells made x))
