-- What the subject's row says is what the graph says.
use Rattle.std.proofs.Common.{ℕ, refl, ap, ◌∙◌}
use Rattle.tg_rights.specs.RightSet.{label_of}
use Rattle.tg_graph.specs.Heap.{content_of}
use Rattle.tg_store.proofs.HeldLaws.{held_by_none, held_by_subject}
use Rattle.tg_store.proofs.StandLaws.{stands_inside}
use Rattle.tg_store.proofs.Apart.{false_not_true}
use Rattle.tg_store.proofs.store.Store.label.Goals as goal

pub returns-in_err-subject : goal.returns-in_err-subject
returns-in_err-subject g c =
    record {
      held = λ graph stands.
          held_by_none _ c.self.invariant.faithful c.args.worker c.args.target c.from_residual.result (λ is. false_not_true (c.in_err-subject.ensures.active.1 is))
          c.from_residual.ensures graph (stands_inside c.self.invariant c.self.view_is stands);
    }

pub returns : goal.returns
returns g c =
    record {
      held = λ graph stands.
          held_by_subject _ c.self.invariant.faithful c.args.worker c.args.target c.label_between.result (c.in_ok-subject.ensures.active.0 refl)
          (c.label_between.ensures ∙ ap label_of (ap (λ (x : ℕ). (content_of c.self.inside.heap).label x c.args.target) c.in_ok-subject.ensures.vertex.named))
          graph (stands_inside c.self.invariant c.self.view_is stands);
    }
