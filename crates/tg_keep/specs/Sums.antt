-- The checksum of a line: CRC-32, as gzip and zlib take it, in eight digits.
use Rattle.std.specs.Prelude.{ℕ, suc, zero, ◌+◌, ◌-◌, ◌*◌, ◌/◌, ◌%◌, ◌^◌, nat_lt, if◌then◌else◌, bit_xor, List, [], ◌∷◌, ◌++◌, fold}

-- One bit leaves the register at its low end. A one adds the polynomial.
unfoldable pub with_bit_out : ℕ → ℕ
with_bit_out register = bit_xor (register / 2) (register % 2 * 0xEDB8_8320)

-- so many bits leave, one after the other
unfoldable pub with_bits_out : ℕ → ℕ → ℕ
with_bits_out zero register = register
with_bits_out (suc bits) register = with_bits_out bits (with_bit_out register)

-- a byte is added at the low end of the register, and its eight bits leave
abbrev pub with_byte : ℕ → ℕ → ℕ
with_byte register byte = with_bits_out 8 (bit_xor register byte)

-- the register begins with all bits set, and at the end all are turned
abbrev pub crc32 : List ℕ → ℕ
crc32 bytes = 2 ^ 32 - 1 - fold with_byte (2 ^ 32 - 1) bytes

-- 0 to 9, a to f
abbrev pub digit : ℕ → ℕ
digit n = if nat_lt n 10 then 48 + n else 87 + n

-- eight digits, the highest first
unfoldable pub digits : ℕ → List ℕ
digits n =
    digit (n / 2 ^ 28 % 16) ∷ digit (n / 2 ^ 24 % 16) ∷ digit (n / 2 ^ 20 % 16) ∷ digit (n / 2 ^ 16 % 16)
    ∷ digit (n / 2 ^ 12 % 16) ∷ digit (n / 2 ^ 8 % 16) ∷ digit (n / 2 ^ 4 % 16) ∷ digit (n % 16) ∷ []

-- the digits of a line's sum: it covers the digits of the line before and the line's text
unfoldable pub sum_after : List ℕ → List ℕ → List ℕ
sum_after before text = digits (crc32 (before ++ text))
