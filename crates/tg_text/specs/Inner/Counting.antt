-- What a ledger starts from that counts.
use Rattle.std.specs.Prelude.{◌≡◌, ◌<◌, ℕ}
use Rattle.std.specs.declared.sync.ledger.Blank.{Blank}

-- the blank is that of the ledger of this name and so many parts, and has one
pub record MayCount (name parts : ℕ) (blank : Blank) : Type 0 where
  pub its_name : blank.name ≡ name
  pub its_parts : blank.parts ≡ parts
  pub some : 0 < blank.parts
