use Rattle.std.proofs.Common.{◌/◌, bit_xor, sym, ◌∙◌, ap}
use Rattle.tg_keep.proofs.SumLaws.{with_byte_by_table}
use Rattle.tg_keep.proofs.sum.with_byte.Goals as goal

pub returns : goal.returns
returns c = ap (λ x. bit_xor x (c.args.register / 256)) c.byte_out.ensures ∙ sym (with_byte_by_table c.args.register c.args.byte)
