use Rattle.std.proofs.Common.{◌≡◌, sym, ap, ◌∙◌, arith, get_or, length, subst, ⊎_elim}
use Rattle.tg_rows.specs.Rows.{name_at}
use Rattle.tg_rows.specs.Spots.{refers_to}
use Rattle.tg_rows.proofs.Walks.{position_is, position_none}
use Rattle.tg_rows.proofs.Slots.{same_test}
use borrow.Author.Count.{falls}
use Rattle.tg_space.specs.SpaceList.{HasCell}
use Rattle.tg_space.specs.Soundness.{RefersTo}
use Rattle.tg_rows.proofs.rows.position_of.Goals as goal

pub returns-then-read-name : goal.returns-then-read-name
returns-then-read-name c =
    let h = c.args.spaces.now.spaces in
    let words = c.args.words.now in
    let word = get_or words c.loop-k.k 0 in
    let named : name_at h c.place_of.result ≡ c.args.name = sym c.read.ensures ∙ c.if-read-name.true in
    let here = same_test h c.args.name word c.if-word-ne0.true (ap (name_at h) (sym c.place_of.ensures) ∙ named) in
    record { is = sym (position_is (refers_to h c.args.name) words c.loop-k.k 0 c.loop-k-test.true c.loop-k.invariant here); inside = c.loop-k-test.true }

pub returns : goal.returns
returns c =
    let h = c.args.spaces.now.spaces in
    let words = c.args.words.now in
    record { is = sym (position_none (refers_to h c.args.name) words 0 (λ k inside. c.loop-k.invariant k (omega (arith, inside, c.loop-k-test.false)))); inside = tt }

pub loop-k-init : goal.loop-k-init
loop-k-init c = λ j low. absurd (omega arith)

pub read-requires-clause-held : goal.read-requires-clause-held
read-requires-clause-held c =
    let h = c.args.spaces.now.spaces in
    let word = get_or c.args.words.now c.loop-k.k 0 in
    subst (HasCell h) (sym c.place_of.ensures) (⊎_elim (λ zero. absurd (c.if-word-ne0.true zero)) (λ (to : RefersTo h word). to.object.held) (c.requires c.loop-k.k 0 c.loop-k-test.true))

pub loop-k-smaller : goal.loop-k-smaller
loop-k-smaller c = falls (length c.args.words.now) c.loop-k.k c.loop-k-test.true
