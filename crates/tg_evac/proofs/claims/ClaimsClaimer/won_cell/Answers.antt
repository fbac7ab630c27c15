use Rattle.std.proofs.Common.{refl, subst}
use Rattle.tg_evac.specs.Claims.{Claimed, wins_at}
use Rattle.tg_evac.proofs.Claiming.{PairAt, pair_at}
use Rattle.tg_evac.proofs.claims.ClaimsClaimer.won_cell.Goals as goal
use Rattle.tg_evac.proofs.claims.ClaimsClaimer.won_cell.Goals.{After-index}

-- the pair is there
pair : (c : After-index) → PairAt c.args.self.now c.args.k c.index.result.now
pair c =
    let inside = c.self.inside in let cells = inside.won.items in
    let v : Claimed = record { plan = inside.plan; forward = inside.forward.words; won = wins_at inside.forward.words cells; next = inside.next } in
    subst (λ (x : Claimed). PairAt x c.args.k c.index.result.now) c.self.view_is (pair_at v c.args.self.now cells c.args.k c.index.result.now c.self.view_is c.self.invariant.0 c.self.invariant.2 refl c.requires c.index.ensures)

pub returns-clause-cell : goal.returns-clause-cell
returns-clause-cell c = (pair (goal.at.returns-clause-cell c).After-index).is

pub returns-clause-inside : goal.returns-clause-inside
returns-clause-inside c = (pair (goal.at.returns-clause-inside c).After-index).inside
