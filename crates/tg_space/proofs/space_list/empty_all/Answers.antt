use Rattle.std.proofs.Common.{◌≡◌, ◌<◌, ◌≤◌, ◌∙◌, [], ℕ, ap, arith, length, replicate, ⊎_elim}
use Rattle.std.proofs.lemmas.Bool.{cases_lt}
use Rattle.tg_space.specs.SpaceList.{BlockList, space_of}
use Rattle.tg_space.proofs.Counting.{all_empty}
use Rattle.tg_space.proofs.space_list.empty_all.Goals as goal

pub returns : goal.returns
returns c =
    let now = c.loop-space.spaces in
    let each : (k : ℕ) → k < length now → space_of now k ≡ [] = λ k low.
    ⊎_elim (λ (before : k < c.args.filled). c.loop-space.invariant.0 k (omega (arith, before, c.loop-space-test.false)))
    (λ (behind : c.args.filled ≤ k). c.loop-space.invariant.1.empty k behind) (cases_lt k c.args.filled) in
    all_empty now each ∙ ap (λ n. replicate {A = BlockList} n []) c.loop-space.auto.spaces
