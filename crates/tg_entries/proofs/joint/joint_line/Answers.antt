use Rattle.tg_entries.proofs.ReadLaws.{joined_read, reopened_read}
use Rattle.tg_entries.proofs.joint.joint_line.Goals as goal

pub returns-then-not-starts_with : goal.returns-then-not-starts_with
returns-then-not-starts_with g c = λ keeps text was. c.entries_line.ensures keeps text (reopened_read keeps text c.args.entered was)

pub returns : goal.returns
returns g c = λ keeps text was. joined_read keeps text c.args.line.now c.in_ok-sum.sum c.args.entered was c.in_ok-sum.ensures
