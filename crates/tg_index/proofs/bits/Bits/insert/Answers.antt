use Rattle.std.proofs.Common.{arith, w64}
use Rattle.std.proofs.lemmas.Nat.Bits.{bit_at_set_other, bit_at_set_same}
use Rattle.tg_index.proofs.BitLemmas.{sets_bit}
use Rattle.tg_index.proofs.bits.Bits.insert.Goals as goal

pub returns : goal.returns
returns c = sets_bit _ c.args.number 1 _ _ c.requires c.index_mut.ensures.value (bit_at_set_same w64 _ _ (omega arith)) (λ i low other. bit_at_set_other w64 _ _ (omega arith) i other)
