use Rattle.std.proofs.Common.{arith}
use Rattle.tg_could.proofs.what.What.over_later.Goals as goal

pub returns : goal.returns
returns c right =
    let told = c.over.ensures right in (
      λ lacks name late.
          let left = told.0 lacks in
          record {
            shown = left.shown;
            untold = record {
              unlisted = λ made. absurd (omega (arith, late, made));
              not_later = λ from below other.
                  left.untold.not_later c.first_later.ensures.later (c.first_later.ensures.may_be_made name from below other)
                  (c.first_later.ensures.other name from below other);
            };
          },
      λ all. told.1 (all c.first_later.result c.first_later.ensures.later),
    )
