-- What a claim of a cell makes of the helper's record.
use Rattle.std.specs.Prelude.{ℕ}
use Rattle.tg_word.specs.declared.Place.{Place}
use Rattle.tg_race.specs.declared.record.Record.{Record}
use Rattle.tg_race.specs.declared.helper.Claim.{Claim}
use Rattle.tg_race.specs.declared.helper.Claim.TheVariants.{Won, Lost}
use Rattle.tg_race.specs.Race.{with_seen, with_won}

abbrev pub claimed : Record → ℕ → Place → Claim → Record
claimed v cell place Won = with_won v (cell, place)
claimed v cell place (Lost other) = with_seen v (cell, other)

-- the place that the cell has then
abbrev pub place_found : Place → Claim → Place
place_found place Won = place
place_found place (Lost other) = other
