use Rattle.std.proofs.Common.{◌≡◌, ◌∙◌, ap, refl, true}
use Rattle.tg_rights.specs.RightSet.{has, of_bits, RightSet}
use Rattle.tg_rights.specs.declared.Right.TheVariants.{R, W, T, G, A, L, U, V}
use Rattle.tg_could.proofs.what.all_rights.Goals as goal

pub returns : goal.returns
returns c right =
    ap (λ (s : RightSet). has s right) c.from_bits.ensures
    ∙ elim right as (λ q. has (of_bits 255) q ≡ true) [ R ↦ refl | W ↦ refl | T ↦ refl | G ↦ refl | A ↦ refl | L ↦ refl | U ↦ refl | V ↦ refl ]
