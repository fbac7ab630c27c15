-- The table has what eight bits make of each byte.
use Rattle.std.proofs.Common.{◌≡◌, ℕ, ◌<◌, get_or, map, refl, ◌∙◌, ap, arith}
use Rattle.std.specs.List.{range_with_len}
use Rattle.std.proofs.lemmas.List.FromFn.{get_or-map-range_with_len}
use Rattle.tg_keep.specs.declared.table.TheConstants.{TABLE}
use Rattle.tg_keep.specs.Sums.{with_bit_out, with_bits_out}

table_is : TABLE ≡ map (with_bits_out 8) (range_with_len 0 256)
unfolding with_bit_out with_bits_out
table_is = refl

pub table_at : (byte : ℕ) → byte < 256 → get_or TABLE byte 0 ≡ with_bits_out 8 byte
table_at byte within = ap (λ t. get_or t byte 0) table_is ∙ get_or-map-range_with_len (with_bits_out 8) 0 256 byte byte 0 within (omega arith)
