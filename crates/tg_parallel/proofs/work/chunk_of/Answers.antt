use Rattle.std.proofs.Common.{◌≡◌, ℕ, ◌+◌, ◌-◌, ◌*◌, length, take, drop, sym, ap, arith, ◌∙◌}
use Rattle.std.proofs.lemmas.List.{drop-take}
use Rattle.tg_parallel.proofs.work.chunk_of.Goals as goal

pub returns : goal.returns
returns c =
    let roots = c.args.roots.now in let first = c.saturating_sub-first.result in let end = length roots - 8 * c.args.chunk in
    let from : length roots - 8 * (c.args.chunk + 1) ≡ first = omega (arith, c.saturating_sub-first.ensures) in
    let whole : end ≡ first + (end - first) = omega (arith, c.saturating_sub-first.ensures) in
    sym (ap (λ (n : ℕ). drop n (take end roots)) from ∙ ap (λ (n : ℕ). drop first (take n roots)) whole ∙ drop-take first (end - first) roots)
