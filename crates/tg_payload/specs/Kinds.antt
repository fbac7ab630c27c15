-- The value of a payload of one of the four kinds.
use Rattle.std.specs.Prelude.{[], ◌∷◌}
use Rattle.tg_model.specs.declared.law.Law.TheVariants as law
use Rattle.tg_model.specs.declared.value.Value.{Value}
use Rattle.tg_payload.specs.declared.law_payload.Kept.{Kept}
use Rattle.tg_payload.specs.declared.law_payload.Kept.TheVariants.{Cell, Sum, Max, EmptyLog, Log}
use Rattle.tg_payload.specs.declared.law_payload.LawPayload.{LawPayload}

-- a log begins empty, before it has a box
abbrev pub kept_value : Kept → Value
kept_value (Cell cell) = record { law = law.Cell; state = cell.last ∷ [] }
kept_value (Sum sum) = record { law = law.Sum; state = sum.sum ∷ [] }
kept_value (Max max) = record { law = law.Max; state = max.greatest ∷ [] }
kept_value (EmptyLog log) = record { law = law.Log log.most; state = [] }
kept_value (Log log) = record { law = law.Log log.value.most; state = log.value.numbers.items }

abbrev pub law_value : LawPayload → Value
law_value payload = kept_value payload.kept
