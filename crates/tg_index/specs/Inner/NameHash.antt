-- What the hasher of names computes.
use Rattle.std.specs.Prelude.{ℕ, ◌*◌, ◌/◌, ◌%◌, ◌^◌, List, length, fold, if◌then◌else◌, nat_le, bit_xor}
use Rattle.std.specs.Int.{w64, from_le_bytes}
use Rattle.std.specs.Hash.{u64}
use Rattle.std.specs.Hash.FoldHasher as folding

-- the name that is to be hashed, once these bytes were written
abbrev pub name_written : ℕ → List ℕ → ℕ
name_written name bytes = if nat_le 8 (length bytes) then from_le_bytes w64 bytes else name

-- its fourth part is mixed, and what is left goes to the tag
abbrev pub name_hash : ℕ → ℕ
name_hash name = bit_xor (folding.finish (fold folding.write folding.initial (u64 (name / 4)))) ((name % 4 * 2 ^ 24) % 2 ^ 64)
