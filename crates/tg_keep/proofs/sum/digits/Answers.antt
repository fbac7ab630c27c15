use Rattle.std.proofs.Common.{◌≡◌, ◌/◌, ◌%◌, ◌^◌, ◌∙◌}
use Rattle.tg_keep.specs.Sums.{digit, digits}
use Rattle.tg_keep.proofs.SumLaws.{digit_of_bits}
use Rattle.tg_keep.proofs.sum.digits.Goals as goal

pub returns : goal.returns
unfolding digits
returns c =
    let n = c.args.n in
    let a : c.digit.result ≡ digit (n / 2 ^ 28 % 16) = c.digit.ensures ∙ digit_of_bits (n / 2 ^ 28) in
    let b : c.digit-2.result ≡ digit (n / 2 ^ 24 % 16) = c.digit-2.ensures ∙ digit_of_bits (n / 2 ^ 24) in
    let d : c.digit-3.result ≡ digit (n / 2 ^ 20 % 16) = c.digit-3.ensures ∙ digit_of_bits (n / 2 ^ 20) in
    let e : c.digit-4.result ≡ digit (n / 2 ^ 16 % 16) = c.digit-4.ensures ∙ digit_of_bits (n / 2 ^ 16) in
    let f : c.digit-5.result ≡ digit (n / 2 ^ 12 % 16) = c.digit-5.ensures ∙ digit_of_bits (n / 2 ^ 12) in
    let g : c.digit-6.result ≡ digit (n / 2 ^ 8 % 16) = c.digit-6.ensures ∙ digit_of_bits (n / 2 ^ 8) in
    let h : c.digit-7.result ≡ digit (n / 2 ^ 4 % 16) = c.digit-7.ensures ∙ digit_of_bits (n / 2 ^ 4) in
    let i : c.digit-8.result ≡ digit (n % 16) = c.digit-8.ensures ∙ digit_of_bits n in
    cc (a, b, d, e, f, g, h, i)
