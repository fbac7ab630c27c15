use Rattle.std.proofs.Common.{refl}
use Rattle.tg_entries.proofs.ReadLaws.{kept_more, kept_none}
use Rattle.tg_entries.proofs.kept.keep.Goals as goal

pub returns-in_default : goal.returns-in_default
returns-in_default c = λ keeps origin es was. kept_none keeps origin es c.args.entry (rw c.in_default.is at was)

pub returns : goal.returns
returns c = λ keeps origin es was.
    kept_more keeps origin es c.args.entry c.in-Some.history (record { start = c.in-Some.history.start; entries = c.push.new.self }) refl c.in_ok-push.ensures.items (rw c.in-Some.is at was)
