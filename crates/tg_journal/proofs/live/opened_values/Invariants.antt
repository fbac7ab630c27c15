use Rattle.std.proofs.Common.{◌≡◌, ℕ, take}
use Rattle.std.specs.Prelude.{slice_get}
use Rattle.tg_rights.specs.RightSet.{no_rights}
use Rattle.tg_journal.specs.Live.{label_between, value_of}
use Rattle.tg_journal.proofs.live.opened_values.Given as goal

abbrev pub invariant-loop-name : goal.invariant-loop-name
invariant-loop-name l = record {
  values : (y : ℕ) → value_of l.vertices y ≡ slice_get (take l.name l.value-items) y;
  labels : (x y : ℕ) → label_between l.vertices x y ≡ no_rights;
}
