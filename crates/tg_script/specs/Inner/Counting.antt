-- Blanks that ledgers may start from which count how often a source is asked, and how often it and a sink fail.
use Rattle.std.specs.Prelude.{◌≡◌, ◌≢◌, ◌<◌, ℕ, IfErr, List, [], Some, Err}
use Rattle.std.specs.declared.sync.ledger.Blank.{Blank}
use Rattle.tg_text.specs.declared.fault.ScriptFault.TheVariants as fault
use Rattle.tg_script.specs.declared.run_script.InMemory.{InMemory}
use Rattle.tg_script.specs.Running.{IsDue, Ran}
use Rattle.tg_script.specs.Script.{Start}

-- These ledgers, each by its name and the number of its parts, may count how often a source in memory is asked and a sink in memory
-- fails: each blank is its ledger's, and has a part.
pub record MayCountInMemory (asks all_asks fails all_fails : ℕ) (ask fail : Blank) : Type 0 where
  pub asked : (ask.name ≡ asks) × (ask.parts ≡ all_asks) × (0 < ask.parts)
  pub failures : (fail.name ≡ fails) × (fail.parts ≡ all_fails) × (0 < fail.parts)

-- The same for a source and a sink that are streams, where the source's failures are counted too.
pub record MayCountStreams (asks all_asks reads all_reads writes all_writes : ℕ) (ask read write : Blank) : Type 0 where
  pub asked : (ask.name ≡ asks) × (ask.parts ≡ all_asks) × (0 < ask.parts)
  pub read_failures : (read.name ≡ reads) × (read.parts ≡ all_reads) × (0 < read.parts)
  pub write_failures : (write.name ≡ writes) × (write.parts ≡ all_writes) × (0 < write.parts)

-- a script that lies in memory was run from this start, and what was written is kept
pub record RunsInMemory (start : Start) (script : List ℕ) (result : InMemory) : Type 0 where
  pub output : (left : List ℕ) × Ran start script [] result.outcome left (Some result.written.items)
  pub due : IfErr result.outcome (IsDue start)
  pub read : result.outcome ≢ Err fault.ReadFailed
