use Rattle.std.proofs.Common.{arith}
use Rattle.tg_could.proofs.who.Who.of_later.Goals as goal

pub returns : goal.returns
returns c =
    let who = c.args.self.now in
    let first = c.first_later.result in
    let told = c.of.ensures in (
      λ never name late.
          let left = told.0 never in
          record {
            shown = left.shown;
            untold = record {
              unmarked = λ made. absurd (omega (arith, late, made));
              not_later = λ from below other.
                  left.untold.not_later c.first_later.ensures.later (c.first_later.ensures.may_be_made name from below other)
                  (c.first_later.ensures.other name from below other);
            };
          },
      λ all. told.1 (all first c.first_later.ensures.later),
    )
