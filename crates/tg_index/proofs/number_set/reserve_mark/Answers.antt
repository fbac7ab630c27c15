use Rattle.std.proofs.Common.{◌≡◌, ◌/◌, ◌+◌, ℕ, List, [], ◌∷◌, ◌++◌, length, length-append, ap, arith, subst}
use Rattle.tg_index.specs.Bits.{AreMarks}
use Rattle.tg_index.proofs.BitLemmas.{marks_all_longer, marks_longer}
use Rattle.tg_index.proofs.number_set.reserve_mark.Goals as goal

pub returns-in_err-widen-clause-kept : goal.returns-in_err-widen-clause-kept
returns-in_err-widen-clause-kept c = λ lower len are. rw c.in_err-widen.ensures.err are

pub returns-then-least-end-clause-kept : goal.returns-then-least-end-clause-kept
returns-then-least-end-clause-kept c =
    λ lower len are.
    let short = are.short in
    let each = are.each in
    let full : length lower / 64 ≡ length c.args.marks.now.words.items = omega arith in
    rw c.in_ok-widen.ensures.ok (marks_longer lower c.args.marks.now.words.items c.args.least.now are full (omega arith))

pub returns-clause-kept : goal.returns-clause-kept
returns-clause-kept c =
    λ lower len are.
    let short = are.short in
    let each = are.each in
    let within = are.within in
    let full : length lower / 64 ≡ length c.args.marks.now.words.items = omega arith in
    let long = length-append c.args.marks.now.words.items (0 ∷ []) in
    let end : c.args.least.now ≡ length c.args.marks.now.words.items = omega arith in
    let items = ap (λ (xs : List ℕ). length xs) c.in_ok-widen.ensures.ok in
    let more : c.args.least.now + 1 ≡ c.len.result = omega (arith, long, end, items, c.len.ensures) in
    rw c.in_ok-widen.ensures.ok
    (subst (λ k. AreMarks lower (c.args.marks.now.words.items ++ 0 ∷ []) k) more (marks_all_longer lower c.args.marks.now.words.items c.args.least.now are full end))
