use Rattle.std.proofs.Common.{[], ap}
use Rattle.std.specs.Option.{unwrap_or}
use Rattle.std.specs.Ordering.{nat_cmp}
use Rattle.std.specs.BTreeMap.{is_at}
use Rattle.std.specs.Map.{lookup}
use Rattle.tg_model.specs.Plain.{rights_in_row}
use Rattle.tg_past.proofs.lost.LostRights.new.Goals as goal

pub returns : goal.returns
returns c = λ a b. ap (λ es. rights_in_row (unwrap_or (lookup (is_at (nat_cmp a)) es) []) b) c.new.ensures.empty
