use Rattle.std.proofs.Common.{List, ℕ, ◌++◌, subst}
use Rattle.tg_entries.specs.Read.{HasRead}
use Rattle.tg_entries.proofs.ReadLaws.{goes_on}
use Rattle.tg_entries.proofs.stream.audit_line.Goals as goal

pub returns-in-Ok-clause-read : goal.returns-in-Ok-clause-read
returns-in-Ok-clause-read g c = λ text was.
    goes_on c.args.audit.now.keeps text c.args.line.now.items (g.R.Read.remaining c.args.reader.now) c.line.new.self c.line.ensures.keeps
    (subst (λ (line : List ℕ). HasRead (text ++ line) c.line.new.self) c.as_slice.ensures.value (c.in-Ok.ensures.read text was))
