-- What was summed of a reader's bytes.
use Rattle.std.specs.Prelude.{ℕ, List, Option}
use Rattle.std.specs.Io.KnownBytes.{Consumes}
use Rattle.sha2.specs.declared.Sha256.{Sha256}
use Rattle.sha2.specs.Hashers.{Holds256}

-- the hasher holds the bytes that were taken of the first ones
pub record HasSummed (whole left : Option (List ℕ)) (sum : Sha256) : Type 0 where
  pub front : List ℕ
  pub taken : Consumes whole left front
  pub holds : Holds256 sum front
