use Rattle.std.proofs.Common.{ℕ, ap, refl, subst}
use Rattle.std.specs.Prelude.{Err}
use Rattle.std.proofs.lemmas.Result.{err_from_is_err_and}
use Rattle.tg_model.specs.Graph.{with_rights}
use Rattle.tg_word.specs.Word.{nursery_space}
use Rattle.tg_rows.specs.Content.{IsContent, IsNamed}
use Rattle.tg_graph.specs.Heap.{content_of, name_of}
use Rattle.tg_rules.proofs.FaultLaws.{lacks_by_name}
use Rattle.tg_rules.proofs.effect.add.Goals as goal

pub returns-in_err-add_edge_as-clause-full : goal.returns-in_err-add_edge_as-clause-full
returns-in_err-add_edge_as-clause-full g c =
    let given = err_from_is_err_and c.from_residual.result c.from_residual.ensures.1 in
    λ full.
    lacks_by_name c.args.heap.now (nursery_space c.args.subject.nursery) c.args.from.name c.args.target.name c.args.from c.args.target c.requires.from c.requires.target refl refl
    (c.in_err-add_edge_as.ensures.full (ap (λ fault. Err fault) (cc (full, given.1, given.2))))

pub returns-clause-content : goal.returns-clause-content
returns-clause-content g c =
    let old = content_of c.args.heap.now in
    let new = content_of c.add_edge_as.new.self in
    subst (λ (x : ℕ). IsContent new (IsNamed old) (with_rights old.label x c.args.target.name c.args.rights) old.value) c.requires.from.named
    (subst (λ (y : ℕ). IsContent new (IsNamed old) (with_rights old.label (name_of c.args.heap.now c.args.from.place) y c.args.rights) old.value) c.requires.target.named
    c.in_ok-add_edge_as.ensures.added)
