use Rattle.std.proofs.Common.{refl}
use Rattle.tg_rights.specs.RightSet.{minus}
use Rattle.tg_journal.proofs.VertexLaws.{row_rises, row_labels, row_values, nothing_lost}
use Rattle.tg_journal.proofs.vertices.Vertices.lose.Goals as goal

pub invariant_of-self : goal.invariant_of-self
invariant_of-self c =
    row_rises c.self.inside.items.items c.args.from c.in-Ok.at c.index_mut.result.now c.self.invariant (rw c.self.view_is c.in-Ok.ensures.found) c.index_mut.ensures.value c.lose.new.self

pub returns-in-Ok : goal.returns-in-Ok
returns-in-Ok c =
    let vs = c.self.inside.items.items in
    let is = rw (← c.self.view_is) at c.in-Ok.ensures.found in
    rw (← c.self.view_is) (record {
      labels = λ k a b.
          row_labels vs c.args.from c.in-Ok.at c.index_mut.result.now c.self.invariant is c.index_mut.ensures.value c.lose.new.self
          c.args.to (λ s. minus s c.args.rights) c.lose.ensures a b k;
      values = λ k q. row_values vs c.args.from c.in-Ok.at c.index_mut.result.now c.self.invariant is c.index_mut.ensures.value c.lose.new.self q k;
    })

pub returns-in_default-clause-labels : goal.returns-in_default-clause-labels
returns-in_default-clause-labels c = λ k a b.
    nothing_lost c.args.self.now c.args.from c.in_default.field-0 c.in_default.ensures.absent c.args.to (λ s. minus s c.args.rights) refl a b k
