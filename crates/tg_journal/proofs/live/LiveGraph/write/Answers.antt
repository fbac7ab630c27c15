use Rattle.std.proofs.Common.{refl, subst}
use Rattle.tg_model.specs.Graph.{HasEdge}
use Rattle.tg_model.specs.Rules.{written_at}
use Rattle.tg_journal.proofs.DeedLaws.{rewritten}
use Rattle.tg_journal.proofs.live.LiveGraph.write.Goals as goal

pub returns : goal.returns
returns c = record {
  reply = refl;
  step =
      rewritten c.self.inside.subjects.items c.self.inside.made c.self.inside.max_vertices c.self.inside.vertices c.args.self.now c.self.view_is
      c.write.new.self (λ value. written_at value c.args.target c.args.value) c.in_ok-write.ensures.labels c.in_ok-write.ensures.values;
  refused = tt;
}

pub invariant_of-self-2 : goal.invariant_of-self-2
invariant_of-self-2 c = λ x y edge. c.self.invariant x y (subst (λ label. HasEdge label x y) c.in_ok-write.ensures.labels edge)
