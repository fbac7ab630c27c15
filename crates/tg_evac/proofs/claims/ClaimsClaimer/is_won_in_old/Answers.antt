use Rattle.std.proofs.Common.{◌∙◌, ◌<◌, ◌≤◌, ◌*◌, ◌==◌, ℕ, length, get_or, refl, sym, ap, subst}
use Rattle.tg_word.specs.declared.Place.{Place}
use Rattle.tg_word.specs.Word.{place_in}
use Rattle.tg_evac.specs.Claims.{Claimed, wins_at}
use Rattle.tg_evac.proofs.Claiming.{PairAt, pair_at}
use Rattle.tg_evac.proofs.claims.ClaimsClaimer.is_won_in_old.Goals as goal
use Rattle.tg_evac.proofs.claims.ClaimsClaimer.is_won_in_old.Goals.{After-index}

-- the pair is there
pair : (c : After-index) → PairAt c.args.self.now c.args.k c.index.result.now
pair c =
    let inside = c.self.inside in let cells = inside.won.items in
    let v : Claimed = record { plan = inside.plan; forward = inside.forward.words; won = wins_at inside.forward.words cells; next = inside.next } in
    subst (λ (x : Claimed). PairAt x c.args.k c.index.result.now) c.self.view_is (pair_at v c.args.self.now cells c.args.k c.index.result.now c.self.view_is c.self.invariant.0 c.self.invariant.2 refl c.requires c.index.ensures)

pub returns-clause-space : goal.returns-clause-space
returns-clause-space c =
    let word = c.moved_word.ensures ∙ ap (λ (x : Claimed). get_or x.forward c.index.result.now 0) c.self.view_is ∙ (pair (goal.at.returns-clause-space c).After-index).word in
    ap (λ (p : Place). p.space == 0) c.place_of.ensures ∙ ap (λ (n : ℕ). (place_in n).space == 0) word

pub returns-clause-two : goal.returns-clause-two
returns-clause-two c = (pair (goal.at.returns-clause-two c).After-index).two

pub moved_word-requires-clause-inside : goal.moved_word-requires-clause-inside
moved_word-requires-clause-inside c =
    subst (λ (x : Claimed). c.index.result.now < length x.forward) (sym c.self.view_is) (pair (goal.at.moved_word-requires-clause-inside c).After-index).inside

pub moved_word-requires-clause-moved : goal.moved_word-requires-clause-moved
moved_word-requires-clause-moved c =
    rw c.self.invariant.1 (subst (λ (x : Claimed). 64 * x.plan.kept ≤ c.index.result.now) (sym c.self.view_is) (pair (goal.at.moved_word-requires-clause-moved c).After-index).late)
