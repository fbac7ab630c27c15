-- When the lists of two records fit one record: a list's length is a number of 64 bits.
use Rattle.std.specs.Prelude.{◌<◌, ◌^◌, length}
use Rattle.tg_race.specs.declared.record.Record.{Record}

pub record FitOne (v w : Record) : Type 0 where
  pub chunks : (length v.chunks < 2 ^ 62) × (length w.chunks < 2 ^ 62)
  pub won : (length v.won < 2 ^ 62) × (length w.won < 2 ^ 62)
  pub seen : (length v.seen < 2 ^ 62) × (length w.seen < 2 ^ 62)
  pub aged_blocks : (length v.aged_blocks < 2 ^ 62) × (length w.aged_blocks < 2 ^ 62)
  pub old_blocks : (length v.old_blocks < 2 ^ 62) × (length w.old_blocks < 2 ^ 62)
  pub share : (v.share < 2 ^ 62) × (w.share < 2 ^ 62)
