use Rattle.std.proofs.Common.{◌∙◌, refl, sym}
use Rattle.std.proofs.lemmas.Result.{IfOk-weaker}
use Rattle.tgcould.proofs.verdict.print_answers.Goals as goal

pub returns : goal.returns
returns g c = IfOk-weaker c.print.result _ _ (λ status is. (λ zero. c.add_all-2.ensures.kept (sym is.0 ∙ zero) refl, is.1)) c.print.ensures
