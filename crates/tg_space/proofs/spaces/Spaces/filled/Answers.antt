use Rattle.std.proofs.Common.{◌≡◌, ◌≤◌, ◌∙◌, ap, arith, get_or, subst}
use Rattle.std.proofs.lemmas.List.{get_or_read}
use Rattle.tg_space.specs.SpaceList.{IsEmptyFrom, block_count, blocks_before}
use Rattle.tg_space.specs.SpaceTable.{SpaceTable}
use Rattle.tg_space.proofs.Counting.{empty_behind}
use Rattle.tg_space.proofs.spaces.Spaces.filled.Goals as goal

pub returns-clause-empty : goal.returns-clause-empty
returns-clause-empty c =
    let inside = c.self.inside in
    let n = c.loop-self.filled in
    let t : SpaceTable = record { spaces = inside.spaces.items; used = inside.used.items; limits = inside.limits } in
    let read : c.index.result.now ≡ get_or inside.starts.items n 0 = get_or_read inside.starts.items n c.index.result.now (omega (arith, c.self.invariant.1.long, c.loop-self.invariant.1)) c.index.ensures 0 in
    let counted : c.index.result.now ≡ blocks_before t.spaces n = read ∙ c.self.invariant.1.counts n (omega (arith, c.loop-self.invariant.1)) in
    let all : block_count t.spaces ≤ blocks_before t.spaces n = omega (arith, counted, c.blocks-all.ensures.blocks, ap (λ (x : SpaceTable). block_count x.spaces) c.self.view_is, c.loop-self-test.false) in
    subst (λ (x : SpaceTable). IsEmptyFrom n x.spaces) c.self.view_is (empty_behind t.spaces n (omega (arith, c.loop-self.invariant.1)) all)
