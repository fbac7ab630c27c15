use Rattle.std.proofs.Common.{◌≡◌, ◌∙◌, ℕ, ap, sym}
use Rattle.tg_model.specs.Plain.{rights_in_row}
use Rattle.tg_journal.specs.Live.{label_between}
use Rattle.tg_journal.proofs.VertexLaws.{label_there, no_label, row_listed, row_targets, copied_listed, copied_targets}
use Rattle.tg_journal.proofs.vertices.Vertices.row.Goals as goal
use Rattle.tg_journal.proofs.vertices.Vertices.row.Goals.{After-copy}

rights : (c : After-copy) (y : ℕ) → label_between c.args.self.now c.args.from y ≡ rights_in_row c.index.result.now.row y
rights c y =
    ap (λ vs. label_between vs c.args.from y) (sym c.self.view_is)
    ∙ label_there c.self.inside.items.items c.args.from c.in-Ok.at c.index.result.now c.self.invariant (rw c.self.view_is c.in-Ok.ensures.found) c.index.ensures y

pub returns-in-Ok-clause-targets : goal.returns-in-Ok-clause-targets
returns-in-Ok-clause-targets c = copied_targets (label_between c.args.self.now) c.args.from c.index.result.now.row c.copy.ensures.row (rights c) c.copy.result c.copy.ensures.same

pub returns-in-Ok-clause-listing : goal.returns-in-Ok-clause-listing
returns-in-Ok-clause-listing c = copied_listed (label_between c.args.self.now) c.args.from c.index.result.now.row c.copy.ensures.row (rights c) c.copy.result c.copy.ensures.same

pub returns-in-Err-clause-targets : goal.returns-in-Err-clause-targets
returns-in-Err-clause-targets c = λ n targets.
    row_targets (label_between c.args.self.now) c.args.from n c.from_vec.result (rw (c.from_vec.ensures, c.new.ensures.items) tt)
    (λ y. rw (c.from_vec.ensures, c.new.ensures.items) (no_label c.args.self.now c.args.from c.in-Err.field-0 c.in-Err.ensures.absent y)) targets

pub returns-in-Err-clause-listing : goal.returns-in-Err-clause-listing
returns-in-Err-clause-listing c = λ n targets.
    row_listed (label_between c.args.self.now) c.args.from n c.from_vec.result (rw (c.from_vec.ensures, c.new.ensures.items) tt)
    (λ y. rw (c.from_vec.ensures, c.new.ensures.items) (no_label c.args.self.now c.args.from c.in-Err.field-0 c.in-Err.ensures.absent y)) targets
