use Rattle.std.proofs.Common.{Some, arith}
use Rattle.std.proofs.lemmas.Result.{IfOk-weaker}
use Rattle.std.proofs.lemmas.Str.Pattern.{split_parts}
use Rattle.tgcould.specs.Policies.{IsBehind, AreWords}
use Rattle.tgcould.proofs.query.read_behind.Goals as goal

pub returns-in-Some : goal.returns-in-Some
returns-in-Some c =
    let right = c.in-Some.right in
    let over = c.in-Some.over in
    let parts = split_parts 32 c.args.rest.now (Some (right, over)) c.in-Some.ensures.cases (omega arith) in
    IfOk-weaker c.question_of.result (AreWords c.args.holder.now right.now over.now) (IsBehind c.args.holder.now c.args.rest.now)
    (λ question words. record { right = right.now; over = over.now; split = parts.0; words = words }) c.question_of.ensures
