-- The limit of vertices comes first.
use Rattle.std.proofs.Common.{◌<◌, ◌∙◌, None, Some, arith, subst, sym}
use Rattle.tg_store.specs.declared.making.Limit.TheVariants.{Vertices}
use Rattle.tg_store.specs.Making.{IsLimitMet}
use Rattle.tg_store.specs.Store.{StoreState, graph_of_store}
use Rattle.tg_store.proofs.MakingLaws.{limit_of_subjects}
use Rattle.tg_store.proofs.StandLaws.{limit_of}
use Rattle.tg_store.proofs.Apart.{object_not_subject}
use Rattle.tg_store.proofs.store.Store.limit_met.Goals as goal

pub returns-then-self-max_vertices : goal.returns-then-self-max_vertices
returns-then-self-max_vertices g c =
    subst (λ (s : StoreState). IsLimitMet (graph_of_store s) c.args.kind (Some Vertices)) c.self.view_is (omega (arith, limit_of _ c.self.invariant.faithful, c.self.invariant.is_made))

pub returns-in-Object : goal.returns-in-Object
returns-in-Object g c =
    subst (λ (s : StoreState). IsLimitMet (graph_of_store s) c.args.kind None) c.self.view_is
    (omega (arith, limit_of _ c.self.invariant.faithful, c.self.invariant.is_made), λ is. absurd (object_not_subject (sym c.in-Object.is ∙ is)))

pub returns-in-Subject : goal.returns-in-Subject
returns-in-Subject g c =
    limit_of_subjects (graph_of_store c.args.self.now) c.args.kind c.subjects_limit.result
    (subst (λ (s : StoreState). (graph_of_store s).made < (graph_of_store s).limit) c.self.view_is (omega (arith, limit_of _ c.self.invariant.faithful, c.self.invariant.is_made)))
    c.in-Subject.is c.subjects_limit.ensures.none c.subjects_limit.ensures.some
