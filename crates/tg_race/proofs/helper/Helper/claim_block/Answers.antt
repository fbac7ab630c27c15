use Rattle.std.proofs.Common.{arith, ◌≡◌, ◌∙◌, ap, subst, Bool, true}
use Rattle.tg_race.specs.Conditions.{can_claim_block}
use Rattle.tg_race.specs.Seats.{Seated}
use Rattle.tg_race.proofs.Needs.{at_table, none_open_aged, none_open_old}
use Rattle.tg_race.proofs.Parts.{open_aged, open_old}
use Rattle.tg_race.proofs.Allowed.{draws_aged, draws_old}
use Rattle.tg_race.proofs.helper.Helper.claim_block.Goals as goal

pub fetch_add-requires : goal.fetch_add-requires
fetch_add-requires c =
    let full = none_open_aged c.args.self.now.done (subst (λ (b : Bool). can_claim_block b c.args.self.now.done ≡ true) c.if-aged.true c.requires.allowed) in
    (at_table _ _ _ _ c.self.view_is c.requires.own c.table.view_is, omega (arith, c.table.invariant.1, c.table.invariant.3), draws_aged _ _ _ _ (ap (λ (x : Seated). open_aged x.done) c.self.view_is ∙ full) c.self.invariant.1)

pub fetch_add-requires-else-aged : goal.fetch_add-requires-else-aged
fetch_add-requires-else-aged c =
    let full = none_open_old c.args.self.now.done (subst (λ (b : Bool). can_claim_block b c.args.self.now.done ≡ true) c.if-aged.false c.requires.allowed) in
    (at_table _ _ _ _ c.self.view_is c.requires.own c.table.view_is, omega (arith, c.table.invariant.1, c.table.invariant.3), draws_old _ _ _ _ (ap (λ (x : Seated). open_old x.done) c.self.view_is ∙ full) c.self.invariant.1)
