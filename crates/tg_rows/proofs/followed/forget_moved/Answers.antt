use Rattle.std.proofs.Common.{refl, subst}
use Rattle.tg_space.specs.declared.kind.Kind.{Kind}
use Rattle.tg_rows.specs.Index.{IsMarked, known_notes}
use Rattle.tg_rows.proofs.Marked.{no_marks, none_marked}
use Rattle.tg_rows.proofs.followed.forget_moved.Goals as goal

pub returns-in-Full-clause-marked : goal.returns-in-Full-clause-marked
returns-in-Full-clause-marked c = λ places was. none_marked places _ refl (no_marks _ c.clear.ensures)

pub returns-in-Nursery-clause-marked : goal.returns-in-Nursery-clause-marked
returns-in-Nursery-clause-marked c = λ places was. subst (λ (kind : Kind). IsMarked (known_notes kind places) c.args.row.now) c.in-Nursery.is was
