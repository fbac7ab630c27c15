use Rattle.std.proofs.Common.{Some, arith}
use Rattle.std.proofs.lemmas.Result.{IfOk-weaker}
use Rattle.std.proofs.lemmas.Str.Pattern.{split_parts}
use Rattle.tgcould.specs.Policies.{IsQuestion, IsBehind}
use Rattle.tgcould.proofs.query.read_question.Goals as goal

pub returns-in-Some : goal.returns-in-Some
returns-in-Some c =
    let holder = c.in-Some.holder in
    let rest = c.in-Some.rest in
    let parts = split_parts 32 c.args.text.now (Some (holder, rest)) c.in-Some.ensures.cases (omega arith) in
    IfOk-weaker c.read_behind.result (IsBehind holder.now rest.now) (IsQuestion c.args.text.now)
    (λ question behind. record { holder = holder.now; rest = rest.now; split = parts.0; behind = behind }) c.read_behind.ensures
