use Rattle.std.proofs.Common.{length, arith, ap, subst, ◌∙◌}
use Rattle.std.specs.List.{All, Contains}
use Rattle.std.proofs.lemmas.List.{take_all}
use Rattle.std.proofs.lemmas.Result.{err_from_is_err_and}
use Rattle.tg_space.specs.Closure.{IsClosed}
use Rattle.tg_space.specs.Targets.{from_space, targets_of, all_root_targets}
use Rattle.tg_space.specs.declared.kind.Kind.{Kind}
use Rattle.tg_space.proofs.Tracing.{closure_is_won}
use Rattle.tg_evac.specs.Claims.{AreTraced, cells_won}
use Rattle.tg_evac.specs.Claimers.{HasPlacesOf, copies_to, walked_of}
use Rattle.tg_evac.proofs.Pieces.{closed_from, none_scanned, plan_kept}
use Rattle.tg_evac.proofs.Reasons.{all_reached, traced_cells}
use Rattle.tg_evac.proofs.walk.Walk.trace.Goals as goal
use Rattle.tg_evac.proofs.walk.Walk.trace.Goals.{After-along, In_ok-copies}

-- nothing is won yet
none_traced : (c : In_ok-copies) → AreTraced c.args.claims.now.plan.kind c.args.self.spaces.now.spaces c.args.roots.now c.args.claims.now.won
none_traced c = rw c.requires.none_yet (λ k low. absurd (omega arith))

-- what is won then is traced from the roots
all_traced : (c : After-along) → AreTraced c.args.claims.now.plan.kind c.args.self.spaces.now.spaces c.args.roots.now c.along.new.claimer.won
all_traced c = c.along.ensures.traced c.args.roots.now (λ _ held. held) (rw c.requires.none_yet (λ k low. absurd (omega arith)))

pub along-requires-clause-traced : goal.along-requires-clause-traced
along-requires-clause-traced c = (c.args.roots.now, λ _ held. held, none_traced (goal.at.along-requires-clause-traced c).In_ok-copies)

pub along-requires-clause-scanned : goal.along-requires-clause-scanned
along-requires-clause-scanned c =
    none_scanned c.args.self.spaces.now.spaces (walked_of c.args.claims.now) (HasPlacesOf c.args.claims.now.won) c.in_ok-copies.copies.scanned c.in_ok-copies.copies.aged c.in_ok-copies.copies.old c.in_ok-copies.ensures.scanned c.in_ok-copies.ensures.aged c.in_ok-copies.ensures.old

pub returns-in_err-along-clause-plan : goal.returns-in_err-along-clause-plan
returns-in_err-along-clause-plan c = plan_kept c.args.claims.now c.along.new.claimer c.along.ensures.goes.keeps

pub returns-in_err-along-clause-full : goal.returns-in_err-along-clause-full
returns-in_err-along-clause-full c =
    let p = err_from_is_err_and c.from_residual-in_err-along.result c.from_residual-in_err-along.ensures.1 in
    let kind = c.args.claims.now.plan.kind in let h = c.args.self.spaces.now.spaces in
    rw (p.1, p.2) (λ is. (c.in_err-along.ensures.goes.full is, all_reached kind h c.args.roots.now c.along.new.claimer.won (all_traced (goal.at.returns-in_err-along-clause-full c).After-along)))

pub returns-clause-plan : goal.returns-clause-plan
returns-clause-plan c = plan_kept c.args.claims.now c.along.new.claimer c.along.ensures.goes.keeps

pub returns-clause-traced : goal.returns-clause-traced
returns-clause-traced c =
    let h = c.args.self.spaces.now.spaces in let kind = c.args.claims.now.plan.kind in let roots = all_root_targets (from_space kind) h c.args.roots.now in let targets = targets_of (from_space kind) h in
    let won = cells_won c.along.new.claimer.won in
    let traced = all_traced (goal.at.returns-clause-traced c).After-along in
    let held : All (Contains won) roots = c.in_ok-along.ensures.met in
    let closed : IsClosed targets won (length won) =
    subst (λ (k : Kind). IsClosed (targets_of (from_space k) h) won (length won)) c.along.ensures.goes.keeps.same_kind (closed_from h c.along.new.claimer (HasPlacesOf c.along.new.claimer.won) c.in_ok-along.ensures.scanned) in
    record {
      whole = c.along.ensures.goes.keeps.as_many ∙ c.requires.walk.table.whole;
      traced = traced;
      reached = closure_is_won roots targets won (traced_cells kind h c.args.roots.now c.along.new.claimer.won traced) (held, closed);
    }

pub returns-clause-aged : goal.returns-clause-aged
returns-clause-aged c to agrees =
    let won = c.along.new.claimer.won in let h = c.args.self.spaces.now.spaces in
    c.in_ok-along.ensures.scanned.in_aged to agrees ∙ ap (copies_to 1 c.along.new.claimer.plan.kind h to) (take_all (length won) won (omega arith))
    ∙ ap (λ (k : Kind). copies_to 1 k h to won) c.along.ensures.goes.keeps.same_kind

pub returns-clause-old : goal.returns-clause-old
returns-clause-old c to agrees =
    let won = c.along.new.claimer.won in let h = c.args.self.spaces.now.spaces in
    c.in_ok-along.ensures.scanned.in_old to agrees ∙ ap (copies_to 0 c.along.new.claimer.plan.kind h to) (take_all (length won) won (omega arith))
    ∙ ap (λ (k : Kind). copies_to 0 k h to won) c.along.ensures.goes.keeps.same_kind
