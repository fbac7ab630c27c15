use Rattle.tg_entries.proofs.ReadLaws.{IsAt}
use Rattle.tg_entries.proofs.stream.audit_lines.Given as goal

abbrev pub invariant-loop-number : goal.invariant-loop-number
invariant-loop-number g l = IsAt l.fn.audit.keeps (g.R.Read.remaining l.fn.reader) (g.R.Read.remaining l.reader) l.audit
