-- The outcome of the next line of a source.
use Rattle.std.specs.Prelude.{◌≡◌, ℕ, ◌+◌, ◌≤◌, List, length, Option}
use Rattle.tg_text.specs.declared.source.Fetched.{Fetched}
use Rattle.tg_text.specs.declared.source.Fetched.TheVariants.{Line}
use Rattle.tg_text.specs.Fetching.{FetchesKnown, failures_of_fetch, write_failures_of}
use Rattle.tg_text.specs.Sinks.{KeepsBytes}

-- The next line was fetched, by what the source and the sink tell: of the bytes that are left, how often the source was asked and has
-- failed, of the bytes that were taken, and how often the sink has failed. So many bytes may still come as `may` says, and then `may'`.
pub record FetchesLine {S K : Type 0} (left : S → Option (List ℕ)) (asks read_fails : S → ℕ) (takes : K → Option (List ℕ)) (write_fails : K → ℕ)
    (source source' : S) (sink sink' : K) (may may' : ℕ) (outcome : Fetched) (line : List ℕ) : Type 0 where
  pub bytes : FetchesKnown may (left source) outcome line (left source')
  pub room : outcome ≡ Line → may' + length line + 1 ≡ may
  pub shrinks : may' ≤ may
  pub failures : read_fails source' ≡ read_fails source + failures_of_fetch outcome
  pub taken : KeepsBytes (takes sink) (takes sink')
  pub write_failures : write_fails sink' ≡ write_fails sink + write_failures_of outcome
  pub asked : asks source' + may' ≤ asks source + may + 1
  pub asked_of_line : outcome ≡ Line → asks source' + may' ≡ asks source + may
