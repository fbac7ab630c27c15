use Rattle.std.proofs.Common.{◌∙◌, ◌==◌, Some, cond, refl, ap}
use Rattle.tg_journal.specs.declared.vertices.Vertex.{Vertex}
use Rattle.tg_journal.specs.Live.{value_of}
use Rattle.tg_journal.proofs.VertexLaws.{value_rises, value_values, value_labels, in_rises, in_values, in_no_label}
use Rattle.tg_journal.proofs.vertices.Vertices.put.Goals as goal

pub invariant_of-self : goal.invariant_of-self
invariant_of-self c =
    value_rises c.self.inside.items.items c.args.name c.in-Ok.at c.index_mut.result.now c.self.invariant (rw c.self.view_is c.in-Ok.ensures.found) c.index_mut.ensures.value c.replace.new.dest

pub returns-in-Ok : goal.returns-in-Ok
returns-in-Ok c =
    let vs = c.self.inside.items.items in
    let is = rw (← c.self.view_is) at c.in-Ok.ensures.found in
    rw (← c.self.view_is) (record {
      labels = λ k a b. value_labels vs c.args.name c.in-Ok.at c.index_mut.result.now c.self.invariant is c.index_mut.ensures.value c.replace.new.dest a b k;
      values = λ q.
          value_values vs c.args.name c.in-Ok.at c.index_mut.result.now c.self.invariant is c.index_mut.ensures.value c.replace.new.dest q
          ∙ ap (λ it. cond (q == c.args.name) it (value_of vs q)) c.replace.ensures.after;
      err = tt;
    })

-- a vertex that wasn't kept
pub invariant_of-self-in-Continue-1 : goal.invariant_of-self-in-Continue-1
invariant_of-self-in-Continue-1 c =
    rw c.in_ok-insert-in-Err.ensures.items (in_rises c.self.inside.items.items c.args.name c.in-Err.at (rw c.self.view_is c.in-Err.ensures.absent) _ c.self.invariant refl)

pub returns-in_ok-insert-in-Err : goal.returns-in_ok-insert-in-Err
returns-in_ok-insert-in-Err c =
    let vs = c.self.inside.items.items in
    let gap = rw (← c.self.view_is) at c.in-Err.ensures.absent in
    let w : Vertex = record { name = c.args.name; row = c.new-row.result; value = Some c.args.value } in
    rw (← c.self.view_is, c.in_ok-insert-in-Err.ensures.items) (record {
      labels = λ k a b. in_no_label vs c.args.name c.in-Err.at gap w refl c.new-row.ensures a b k;
      values = in_values vs c.args.name c.in-Err.at gap w refl;
      err = tt;
    })
