use Rattle.std.proofs.Common.{◌∙◌, ◌≡◌, ap, ℕ, ◌+◌, ◌-◌, ◌*◌, length, List, Vec, Global, arith}
use Rattle.std.specs.List.{list_any}
use Rattle.tg_race.specs.Race.{chunk_of, has_number}
use Rattle.tg_race.specs.Course.{lists}
use Rattle.tg_race.proofs.Nets.{chunk_at, in_lists}
use Rattle.tg_race.proofs.shape.Shape.chunk_has.Goals as goal

pub returns : goal.returns
returns c =
    let roots = c.as_slice-roots.result.now in let chunk = c.args.chunk in let first = c.saturating_sub-first.result in
    let begins : first ≡ length roots - 8 * (chunk + 1) = omega (arith, c.saturating_sub-first.ensures) in
    let ends : length roots - chunk * 8 ≡ length roots - 8 * chunk = omega arith in
    c.any_has.ensures
    ∙ (ap (list_any (λ (v : Vec ℕ Global). has_number c.args.cell v.items)) (chunk_at roots chunk first (length roots - chunk * 8) begins ends)
    ∙ (in_lists c.args.cell chunk roots
    ∙ ap (λ (l : List (Vec ℕ Global)). list_any (has_number c.args.cell) (chunk_of (lists l) chunk)) c.as_slice-roots.ensures.value))
