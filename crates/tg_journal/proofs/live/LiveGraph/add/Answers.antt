use Rattle.std.proofs.Common.{refl, sym, subst, arith}
use Rattle.tg_model.specs.Graph.{HasEdge, with_rights}
use Rattle.tg_model.proofs.ReachLaws.{HasEdge-holds, targets-with_rights}
use Rattle.tg_journal.specs.Live.{KeptGraph, label_between}
use Rattle.tg_journal.proofs.DeedLaws.{relabelled}
use Rattle.tg_journal.proofs.live.LiveGraph.add.Goals as goal

pub returns : goal.returns
returns c = record {
  reply = refl;
  step =
      relabelled c.self.inside.subjects.items c.self.inside.made c.self.inside.max_vertices c.self.inside.vertices c.args.self.now c.self.view_is
      c.add.new.self (λ label. with_rights label c.args.from c.args.to c.args.label) c.in_ok-add.ensures.labels (λ i y. c.in_ok-add.ensures.values y i);
  refused = tt;
}

pub invariant_of-self-2 : goal.invariant_of-self-2
invariant_of-self-2 c =
    targets-with_rights (label_between c.self.inside.vertices) (label_between c.add.new.self) c.args.from c.args.to c.self.inside.made c.self.inside.made c.args.label
    (λ a b i. c.in_ok-add.ensures.labels i a b) c.self.invariant (omega arith)
    (λ some. c.self.invariant c.requires.0 c.args.to
    (subst (λ (k : KeptGraph). HasEdge (label_between k.vertices) c.requires.0 c.args.to) (sym c.self.view_is)
    (HasEdge-holds (label_between c.args.self.now.vertices) c.requires.0 c.args.to c.args.label c.requires.1 some)))
