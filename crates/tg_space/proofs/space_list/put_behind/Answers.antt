use Rattle.std.proofs.Common.{◌≡◌, ◌++◌, ◌∙◌, ◌∷◌, ◌<◌, ◌≤◌, ◌-◌, [], ℕ, ap, arith, drop, length, replicate, set, sym, take}
use Rattle.std.proofs.lemmas.List.{append-nil, drop_all, get_or_read, take_all}
use borrow.Rule.Slice.PartMut.{put_mid}
use Rattle.tg_space.specs.SpaceList.{BlockList, SpaceList, space_of}
use Rattle.tg_space.proofs.space_list.put_behind.Goals as goal

-- the spaces where all but the first were emptied, and the second got its new blocks
behind_is : (h young : SpaceList) (first aged : BlockList) → 2 < length h → young ≡ replicate {A = BlockList} (length (take (length (set h 0 first) - 1) (drop 1 (set h 0 first)))) []
    → set (put_mid 1 (length (set h 0 first) - 1) (set h 0 first) young) 1 aged ≡ first ∷ aged ∷ replicate {A = BlockList} (length h - 2) []
behind_is [] young first aged some empty = absurd (omega arith)
behind_is (x ∷ []) young first aged some empty = absurd (omega arith)
behind_is (x ∷ y ∷ rest) young first aged some empty =
    let m : ℕ = length (first ∷ y ∷ rest) - 1 in
    let few : length (y ∷ rest) ≤ m = omega arith in
    let none : ℕ → SpaceList = λ n. replicate {A = BlockList} n [] in
    let emptied : young ≡ none (length (y ∷ rest)) = empty ∙ ap (λ (behind : SpaceList). none (length behind)) (take_all m (y ∷ rest) few) in
    let as_many : length rest ≡ length (x ∷ y ∷ rest) - 2 = omega arith in
    ap (λ (behind : SpaceList). set (first ∷ (young ++ behind)) 1 aged) (drop_all m (y ∷ rest) few)
    ∙ ap (λ (behind : SpaceList). set (first ∷ behind) 1 aged) (append-nil young ∙ emptied)
    ∙ ap (λ (n : ℕ). first ∷ aged ∷ none n) as_many

pub returns-clause-adopted : goal.returns-clause-adopted
returns-clause-adopted c =
    let h = c.args.spaces.now in
    let is : c.append.new.self ≡ space_of h 0 ++ c.args.old = c.in_ok-append.ensures.appended ∙ ap (λ (blocks : BlockList). blocks ++ c.args.old) (sym c.index-spaces-0.is ∙ get_or_read h 0 c.index-spaces-0.result (omega (arith, c.requires.nursery)) c.index-spaces-0.is []) in
    behind_is h c.take_young-emptied.new.young c.append.new.self c.args.aged c.requires.nursery c.take_young-emptied.ensures.empty
    ∙ ap (λ (first : BlockList). first ∷ c.args.aged ∷ replicate {A = BlockList} (length h - 2) []) is
