use Rattle.std.proofs.Common.{ℕ, List, refl, subst}
use Rattle.std.specs.List.{All}
use Rattle.std.proofs.lemmas.Result.{IfOk-weaker}
use Rattle.tg_model.specs.declared.edge.Edge.{Edge}
use Rattle.tgcould.specs.declared.options.TheConstants.{NEVER}
use Rattle.tgcould.specs.Policies.{IsKeptPolicy, texts_of}
use Rattle.tgcould.specs.Supposed.{Supposes}
use Rattle.tgcould.proofs.VerdictLaws.{all_kept_supposed}
use Rattle.tgcould.proofs.verdict.status_on.Goals as goal

pub returns : goal.returns
returns g c =
    let p = c.args.picture in
    let q = c.in_ok-picture.picture in
    IfOk-weaker c.print_answers.result _ _
    (λ status is. (
      λ zero.
          all_kept_supposed p q c.args.matches.now c.args.supposed.now c.made.result c.made.ensures (c.if-not-are_made.ensures refl)
          (subst (λ (es : List Edge). Supposes p es q) c.as_slice.ensures.value c.in_ok-picture.ensures)
          (subst (λ (ns : List ℕ). All (IsKeptPolicy q ns) (texts_of c.args.matches.now NEVER.now)) c.as_slice-2.ensures.value (is.0 zero)),
      is.1,
    ))
    c.print_answers.ensures
