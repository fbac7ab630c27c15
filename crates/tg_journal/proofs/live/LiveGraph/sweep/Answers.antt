use Rattle.std.proofs.Common.{◌∙◌, nat_eq, sym, ap}
use Rattle.indexmap.specs.IndexSet.{contains}
use Rattle.tg_rights.specs.RightSet.{is_none_held}
use Rattle.tg_journal.specs.Live.{label_between}
use Rattle.tg_journal.proofs.DeedLaws.{swept, kept_edge}
use Rattle.tg_journal.proofs.live.LiveGraph.sweep.Goals as goal

pub invariant_of-self : goal.invariant_of-self
invariant_of-self c = λ x y edge.
    c.self.invariant x y (kept_edge (contains nat_eq c.in_ok-names.names x) (label_between c.self.inside.vertices x y) (sym (ap is_none_held (c.keep.ensures.labels x y)) ∙ edge))

pub returns-clause-swept : goal.returns-clause-swept
returns-clause-swept c =
    swept c.self.inside.subjects.items c.self.inside.made c.self.inside.max_vertices c.self.inside.vertices c.args.self.now c.self.view_is
    (contains nat_eq c.in_ok-names.names) c.keep.new.self c.in_ok-names.ensures c.keep.ensures.labels c.keep.ensures.values
