use Rattle.std.proofs.Common.{rules, ◌≡◌, ◌+◌, ◌∙◌, [], List, ℕ, ap, arith, length, replicate, set, subst, sym}
use Rattle.std.proofs.lemmas.List.{get_or_read}
use Rattle.tg_space.specs.SpaceList.{BlockList, space_of}
use Rattle.tg_space.specs.SpaceTable.{IsPrefixCount}
use Rattle.tg_space.proofs.Counting.{count_two}
use Rattle.tg_space.proofs.space_list.count_old_and_aged.Goals as goal

pub returns : goal.returns
returns c =
    let h = c.args.spaces.now in
    let total : ℕ = c.len-old.result + c.len.result in
    let full : c.fill.new.self ≡ replicate (length c.args.starts.now) total = search rules in
    let old : c.len-old.result ≡ length (space_of h 0) = c.len-old.ensures.blocks ∙ ap (λ (b : BlockList). length b) (get_or_read h 0 c.index-spaces-0.result (omega (arith, c.requires.empty.inside)) c.index-spaces-0.is []) in
    let aged : c.len.result ≡ length (space_of h 1) = c.len.ensures.blocks ∙ ap (λ (b : BlockList). length b) (get_or_read h 1 c.index-spaces-1.result (omega (arith, c.requires.empty.inside)) c.index-spaces-1.is []) in
    subst (λ (xs : List ℕ). IsPrefixCount (set (set xs 0 0) 1 c.len-old.result) h) (sym full)
    (count_two h (length c.args.starts.now) total c.len-old.result c.requires.empty c.requires.room old (ap (λ n. c.len-old.result + n) aged))
