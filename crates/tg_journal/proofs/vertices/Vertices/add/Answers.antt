use Rattle.std.proofs.Common.{◌∙◌, None, refl, ap}
use Rattle.tg_rights.specs.RightSet.{union}
use Rattle.tg_model.proofs.RowLaws.{changed_at}
use Rattle.tg_journal.specs.declared.vertices.Vertex.{Vertex}
use Rattle.tg_journal.proofs.VertexLaws.{row_rises, row_labels, row_values, in_rises, in_labels, in_no_value}
use Rattle.tg_journal.proofs.vertices.Vertices.add.Goals as goal

pub invariant_of-self : goal.invariant_of-self
invariant_of-self c =
    row_rises c.self.inside.items.items c.args.from c.in-Ok.at c.index_mut.result.now c.self.invariant (rw c.self.view_is c.in-Ok.ensures.found) c.index_mut.ensures.value c.add.new.self

pub returns-in_ok-add-in-Ok : goal.returns-in_ok-add-in-Ok
returns-in_ok-add-in-Ok c =
    let vs = c.self.inside.items.items in
    let is = rw (← c.self.view_is) at c.in-Ok.ensures.found in
    rw (← c.self.view_is) (record {
      labels = λ k a b.
          row_labels vs c.args.from c.in-Ok.at c.index_mut.result.now c.self.invariant is c.index_mut.ensures.value c.add.new.self
          c.args.to (λ s. union s c.args.label) c.in_ok-add-in-Ok.ensures.ok a b k;
      values = row_values vs c.args.from c.in-Ok.at c.index_mut.result.now c.self.invariant is c.index_mut.ensures.value c.add.new.self;
      err = tt;
    })

-- a vertex that wasn't kept
pub invariant_of-self-in-Continue-branch-3 : goal.invariant_of-self-in-Continue-branch-3
invariant_of-self-in-Continue-branch-3 c =
    rw c.in_ok-insert-in-Err.ensures.items (in_rises c.self.inside.items.items c.args.from c.in-Err.at (rw c.self.view_is c.in-Err.ensures.absent) _ c.self.invariant refl)

pub returns-in_ok-insert-in-Err : goal.returns-in_ok-insert-in-Err
returns-in_ok-insert-in-Err c =
    let vs = c.self.inside.items.items in
    let gap = rw (← c.self.view_is) at c.in-Err.ensures.absent in
    let w : Vertex = record { name = c.args.from; row = c.add-in-Err.new.self; value = None } in
    rw (← c.self.view_is, c.in_ok-insert-in-Err.ensures.items) (record {
      labels = λ k a b.
          in_labels vs c.args.from c.in-Err.at gap w c.args.to (λ s. union s c.args.label) refl
          (λ b. c.in_ok-add-in-Err.ensures.ok b ∙ ap (λ row. changed_at c.args.to (λ s. union s c.args.label) row b) c.new-row.ensures) a b k;
      values = in_no_value vs c.args.from c.in-Err.at gap w refl refl;
      err = tt;
    })
