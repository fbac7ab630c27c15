use Rattle.std.proofs.Common.{◌≡◌, ◌+◌, ◌<◌, ℕ, Some, length, map, slice_get, slice_index, slice_set, sym, ap, ◌∙◌, subst, get_or, refl, arith}
use Rattle.std.proofs.lemmas.Grind.{get_or_default_zero}
use Rattle.std.proofs.lemmas.Option.{same_Some}
use Rattle.tg_threads.specs.Shares.{runner_of}
use Rattle.tg_threads.proofs.ShareLaws.{runner_below}
use Rattle.tg_threads.proofs.OrderLaws.{next_inside, next_one}
use Rattle.tg_threads.proofs.weaving.next_told.Goals as goal

pub returns-clause-own : goal.returns-clause-own
returns-clause-own g c = λ x brought by has.
    let names = c.args.names.now in
    let seen = c.args.seen.now.items in
    let w = c.in-Some.thread in
    let by_w : runner_of names c.args.line.now ≡ Some w = sym c.runner.ensures.thread ∙ c.in-Some.is in
    let same : w ≡ x = same_Some w x (sym by_w ∙ by) in
    let below : w < length names = runner_below names w c.args.line.now c.requires.some by_w in
    let low : w < length c.args.finished.now = omega (arith, below, c.requires.each) in
    let read : c.index-at.result.now ≡ slice_index seen w = c.index-at.ensures ∙ get_or_default_zero seen w c.index-at.result.now (omega (arith, below, c.requires.places)) in
    let f = c.index-finished-thread.result in
    let t = c.index-told.result.now in
    let is : t ≡ get_or f.told.items (slice_index seen w) t = c.index-told.ensures ∙ (λ i. get_or (sym c.index-finished-thread.is i).told.items (read i) t) in
    let told = next_one (λ h. h.told.items) c.args.finished.now seen w f brought t low c.index-finished-thread.is (subst (λ y. slice_get (map (λ h. h.told.items) c.args.finished.now) y ≡ Some brought) (sym same) has) (c.requires.more w by_w) is in (
      subst (λ y. slice_get brought (slice_index seen y) ≡ Some t) same told,
      (λ i. slice_set seen w (read i + 1)) ∙ ap (λ (y : ℕ). slice_set seen y (slice_index seen y + 1)) same,
    )

pub index-told-requires : goal.index-told-requires
index-told-requires g c =
    let names = c.args.names.now in
    let seen = c.args.seen.now.items in
    let w = c.in-Some.thread in
    let by : runner_of names c.args.line.now ≡ Some w = sym c.runner.ensures.thread ∙ c.in-Some.is in
    let below : w < length names = runner_below names w c.args.line.now c.requires.some by in
    let low : w < length c.args.finished.now = omega (arith, below, c.requires.each) in
    let read : c.index-at.result.now ≡ slice_index seen w = c.index-at.ensures ∙ get_or_default_zero seen w c.index-at.result.now (omega (arith, below, c.requires.places)) in
    let f = get_or c.args.finished.now w c.index-finished-thread.result in
    subst (λ (m : ℕ). c.index-at.result.now < m) (sym f.told.ok.0) (next_inside (λ h. h.told.items) c.args.finished.now seen w c.index-at.result.now f c.index-finished-thread.result low refl read (c.requires.more w by))
