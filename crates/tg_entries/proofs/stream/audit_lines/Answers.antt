use Rattle.std.proofs.Common.{ℕ, List, ◌++◌, subst}
use Rattle.std.specs.Result.{IfOk}
use Rattle.tg_entries.specs.Pieces.{FetchesPiece}
use Rattle.tg_entries.specs.Read.{HasEnded}
use Rattle.tg_entries.proofs.ReadLaws.{at_next, at_end}
use Rattle.tg_entries.proofs.stream.audit_lines.Goals as goal

pub loop-number-preserved : goal.loop-number-preserved
loop-number-preserved g c =
    let left = g.R.Read.remaining in
    let taken = subst (λ (held : List ℕ). FetchesPiece held (left c.loop-number.reader) c.read_some.new.line.items (left c.read_some.new.reader)) c.clear.ensures.items c.in_ok-read_some.ensures.fetched in
    at_next c.args.audit.now.keeps (left c.args.reader.now) (left c.loop-number.reader) (left c.read_some.new.reader) (left c.audit_line.new.reader) c.loop-number.audit c.audit_line.new.audit
    c.read_some.new.line.items c.loop-number.invariant taken c.in_ok-audit_line.ensures.read c.audit_line.ensures.keeps

pub returns-then-branch : goal.returns-then-branch
returns-then-branch g c =
    let left = g.R.Read.remaining in
    let taken = subst (λ (held : List ℕ). FetchesPiece held (left c.loop-number.reader) c.read_some.new.line.items (left c.read_some.new.reader)) c.clear.ensures.items c.in_ok-read_some.ensures.fetched in
    at_end c.args.audit.now.keeps (left c.args.reader.now) (left c.loop-number.reader) (left c.read_some.new.reader) c.loop-number.audit c.read_some.new.line.items c.ended.result c.loop-number.invariant
    taken (c.in_ok-read_some.ensures.ended c.if-branch.true)
    (λ text was. subst (λ (line : List ℕ). IfOk c.ended.result (HasEnded c.loop-number.audit.keeps (text ++ line))) c.as_slice.ensures.value (c.ended.ensures text was))
