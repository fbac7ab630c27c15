-- No more copies are made than there are cells in use that may be moved.
use Rattle.std.proofs.Common.{◌≡◌, ◌≤◌, ◌+◌, Bool, true, false, List, [], ◌∷◌, length, refl, arith, lit<}
use Rattle.std.specs.List.{All}
use Rattle.std.proofs.lemmas.Bool.Decides.{nat_tests}
use Rattle.std.proofs.lemmas.List.{length-map}
use Rattle.tg_space.specs.Collection.{copies_in, used_cells}
use Rattle.tg_space.specs.SpaceList.{SpaceList, IsSpaceList}
use Rattle.tg_space.specs.Soundness.{IsRootIn}
use Rattle.tg_space.specs.declared.kind.Kind.{Kind}
use Rattle.tg_space.specs.declared.root.Root.{Root}
use Rattle.tg_evac.specs.Win.{Win}
use Rattle.tg_evac.specs.Claims.{AreClaims, Claimed, HavePointers, IsTracedFrom, cells_won, is_in, win_at, won_in}
use Rattle.tg_evac.proofs.Claiming.{distinct_map}
use Rattle.tg_evac.proofs.Counting.{won_few}
use Rattle.tg_evac.proofs.Reasons.{all_used}

-- no copy is in both spaces
won_parts : (won : List Win) → length (won_in 0 won) + length (won_in 1 won) ≤ length won
won_parts [] = omega arith
won_parts (w ∷ won) = by_tests (is_in 0 w) (is_in 1 w) refl refl (won_parts won)
  where
    by_tests : (a b : Bool) → is_in 0 w ≡ a → is_in 1 w ≡ b → length (won_in 0 won) + length (won_in 1 won) ≤ length won → length (won_in 0 (w ∷ won)) + length (won_in 1 (w ∷ won)) ≤ length (w ∷ won)
    by_tests true true a b ih = absurd (grind (arith, nat_tests))
    by_tests true false a b ih = rw (a, b) (omega (arith, ih))
    by_tests false true a b ih = rw (a, b) (omega (arith, ih))
    by_tests false false a b ih = rw (a, b) (omega (arith, ih))

-- the copies of both spaces are no more than the cells of from-space in use
pub moved_few : (kind : Kind) (h : SpaceList) → IsSpaceList h → HavePointers h → (roots : List Root) → All (IsRootIn h) roots → (c : Claimed) → AreClaims c → IsTracedFrom kind h roots c → copies_in c.forward 0 + copies_in c.forward 1 ≤ used_cells kind h
moved_few kind h is pointers roots are c claims traced =
    let few = won_few kind h is (cells_won c.won) (distinct_map (λ (w : Win). w.cell) c.won (win_at [] 0) claims.distinct) (all_used kind h roots c.won traced.traced is pointers are) in
    let long = length-map c.won (λ (w : Win). w.cell) in
    omega (arith, few, claims.copies 0 (lit< tt), claims.copies 1 (lit< tt), won_parts c.won)
