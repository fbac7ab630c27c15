use Rattle.std.proofs.Common.{◌≡◌, ◌-◌, ◌^◌, ◌++◌, sym, ◌∙◌, ap}
use Rattle.std.specs.Prelude.{fold}
use Rattle.std.proofs.lemmas.List.Sums.{fold-append}
use Rattle.tg_keep.specs.Sums.{with_byte, digits, sum_after}
use Rattle.tg_keep.proofs.sum.sum_after.Goals as goal

pub returns : goal.returns
unfolding sum_after
returns c =
    let before = c.args.before.now in
    let text = c.args.text.now in
    let e : c.with_bytes-register.result ≡ fold with_byte (2 ^ 32 - 1) (before ++ text) =
    c.with_bytes-register.ensures ∙ ap (λ r. fold with_byte r text) c.with_bytes.ensures ∙ sym (fold-append with_byte (2 ^ 32 - 1) before text) in
    c.digits.ensures ∙ ap (λ r. digits (2 ^ 32 - 1 - r)) e
