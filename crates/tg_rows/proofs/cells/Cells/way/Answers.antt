use Rattle.std.proofs.Common.{◌≡◌, None, nat_eq, refl, subst}
use Rattle.std.specs.Map.{lookup}
use Rattle.tg_rows.specs.Index.{HasIndexAt}
use Rattle.tg_rows.proofs.cells.Cells.way.Goals as goal

pub returns-in-Some : goal.returns-in-Some
returns-in-Some g c = subst (λ n. HasIndexAt c.args.rows.now.entries n c.in-Some.at) c.name_of.ensures c.in-Some.ensures.there

pub returns-in-None : goal.returns-in-None
returns-in-None g c = subst (λ n. lookup (nat_eq n) c.args.rows.now.entries ≡ None) c.name_of.ensures (c.in-None.ensures.none refl)
