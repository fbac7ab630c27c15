use Rattle.std.proofs.Common.{◌≡◌, ◌∙◌, ◌==◌, ◌&&◌, cond, ap, sym, ℕ}
use Rattle.std.specs.Prelude.{None}
use Rattle.std.specs.List.{list_any}
use Rattle.tg_rights.specs.RightSet.{RightSet, label_of, minus}
use Rattle.tg_model.proofs.RowLaws.{labelled, unlabelled}
use Rattle.tg_graph.specs.Heap.{content_of}
use Rattle.tg_store.specs.Inner.Reaching.{names_found}
use Rattle.tg_store.proofs.LeftLaws.{left_nothing}
use Rattle.tg_store.proofs.store.withdrawal.Withdrawal.label_after.Goals as goal

pub label_between-requires : goal.label_between-requires
label_between-requires g c = c.requires.object

pub returns-in_err-label : goal.returns-in_err-label
returns-in_err-label g c =
    let w = c.args.self.now in
    let label = (content_of c.args.heap.now).label in
    let told : None ≡ label_of (label c.args.from w.target) = c.in_err-label.ensures ∙ ap (λ (x : ℕ). label_of (label x w.target)) c.requires.named in
    c.from_residual.ensures ∙ ap label_of (sym (left_nothing label w.target w.rights (names_found w.givers.items) c.args.from w.target (unlabelled (label c.args.from w.target) (sym told))))

pub returns : goal.returns
returns g c =
    let w = c.args.self.now in
    let label = (content_of c.args.heap.now).label in
    let told = c.in_ok-label.ensures ∙ ap (λ (x : ℕ). label_of (label x w.target)) c.requires.named in
    let is = labelled (label c.args.from w.target) c.in_ok-label.label (sym told) in
    let gives = list_any (λ x. x == c.args.from) (names_found w.givers.items) in
    c.left.ensures ∙ ap (λ (s : RightSet). label_of (cond ((w.target == w.target) && gives) (minus s w.rights) s)) is.0
