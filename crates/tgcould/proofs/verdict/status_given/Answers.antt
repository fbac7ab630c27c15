use Rattle.std.proofs.Common.{List, sym, subst}
use Rattle.tg_plain.specs.declared.refused.RefusedLine.{RefusedLine}
use Rattle.tgcould.specs.Verdict.{FailsPolicies}
use Rattle.tgcould.proofs.verdict.status_given.Goals as goal

pub returns : goal.returns
returns g c =
    let outcome = c.in_ok-picture.field-0 in
    let given = c.in_ok-picture.ensures in
    let fails : List RefusedLine → Type 0 = λ (lines : List RefusedLine). FailsPolicies c.args.matches.now lines in
    let items = c.as_slice.ensures.value in (
      given.0,
      given.1,
      record {
        outcome = outcome;
        left = given.2;
        supposed = c.args.supposed.now;
        is_supposed = c.requires;
        kept = λ zero. c.in_ok-status.ensures.0 (c.last_status.ensures.zero zero);
        denied = (λ three. subst fails items (c.fails_policies-fails.ensures.0 (c.last_status.ensures.refused.0 three)), λ failed. c.last_status.ensures.refused.1 (c.fails_policies-fails.ensures.1 (subst fails (sym items) failed)));
      },
    )
