use Rattle.std.proofs.Common.{◌∙◌, arith, ap, List, ℕ}
use Rattle.std.proofs.lemmas.Result.{MatchResult-from_err}
use Rattle.tg_race.specs.declared.event.Event.TheVariants.{Claim}
use Rattle.tg_race.proofs.Steps.{few_chunks}
use Rattle.tg_race.proofs.Courses.{helper_inside, put_back, kept_back, kept_on, claim_is}
use Rattle.tg_race.proofs.world.World.claim.Goals as goal

pub index_mut-requires : goal.index_mut-requires
index_mut-requires c = helper_inside _ _ c.args.helper Claim _ c.self.view_is c.self.inside.records.ok.0 c.requires

pub invariant_of-self : goal.invariant_of-self
invariant_of-self c = kept_back _ _ c.args.helper c.index_mut.result.now _ c.self.view_is c.index_mut.ensures.value (ap (λ (l : List ℕ). record c.index_mut.result.now { chunks = l }) c.in_err-push_back.ensures.items) c.self.invariant

pub overflow_add-self : goal.overflow_add-self
overflow_add-self c = omega (arith, few_chunks _ _ c.self.invariant.1.rule, c.self.invariant.0)

pub invariant_of-self-2 : goal.invariant_of-self-2
invariant_of-self-2 c = kept_on _ c.args.self.now _ c.args.helper Claim c.self.view_is c.self.invariant c.requires (claim_is _ _ c.args.helper c.index_mut.result.now _ c.self.view_is c.requires c.index_mut.ensures.value c.in_ok-push_back.ensures.items)

pub returns-in_err-push_back : goal.returns-in_err-push_back
returns-in_err-push_back c = MatchResult-from_err c.from_residual.result _ _ c.from_residual.ensures.0
    (λ _. put_back _ c.args.helper c.index_mut.result.now _ c.index_mut.ensures.value (ap (λ (l : List ℕ). record c.index_mut.result.now { chunks = l }) c.in_err-push_back.ensures.items) ∙ c.self.view_is)

pub returns : goal.returns
returns c = claim_is _ _ c.args.helper c.index_mut.result.now _ c.self.view_is c.requires c.index_mut.ensures.value c.in_ok-push_back.ensures.items
