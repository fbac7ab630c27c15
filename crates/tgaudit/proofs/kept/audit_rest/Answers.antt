use Rattle.std.proofs.Common.{◌+◌, refl, arith}
use Rattle.std.proofs.lemmas.Result.{err_from_is_err_and}
use Rattle.tg_keep.proofs.Reporting.{fewer_still}
use Rattle.tg_keep.proofs.Scanning.{none_of, reads_shorter}
use Rattle.tgaudit.proofs.KeptLaws.{all_audited, all_entered, all_numbered, fault_at, fault_named, refused_by, walks_more, walks_none}
use Rattle.tgaudit.proofs.kept.audit_rest.Goals as goal

pub returns-in_err-audit_at-clause-refused : goal.returns-in_err-audit_at-clause-refused
returns-in_err-audit_at-clause-refused g c =
    let given = err_from_is_err_and c.from_residual.result c.from_residual.ensures.1 in
    let at = fault_at _ _ _ _ _ _ _ _ _ _ _ _ _ c.loop-text.invariant.walks c.requires c.in-Some.ensures.read in
    let why = fault_named c.args.file.now (c.loop-text.lines + 1) c.loop-text.byte c.in_err-audit_at.field-0.0 at c.in_err-audit_at.ensures.at in
    refused_by c.from_residual.result given.0 c.in_err-audit_at.field-0.0 c.args.file.now given.1 given.2 why

pub loop-text-init : goal.loop-text-init
loop-text-init g c = record {
  walks = walks_none _ _ _ _ _ c.requires refl;
  fewer = omega arith;
}

pub loop-text-smaller : goal.loop-text-smaller
loop-text-smaller g c = reads_shorter _ _ _ _ _ c.in-Some.ensures.read

pub loop-text-preserved : goal.loop-text-preserved
loop-text-preserved g c = record {
  walks = walks_more _ _ _ _ _ _ _ _ _ _ _ _ _ _ _ _ _ c.loop-text.invariant.walks c.in-Some.ensures.read refl c.begins_with_digit.ensures c.from-entries.ensures c.in_ok-audit_at.ensures.read;
  fewer = fewer_still _ _ _ _ c.loop-text.invariant.fewer c.from-entries.ensures;
}

pub returns-clause-read : goal.returns-clause-read
returns-clause-read g c =
    let none = none_of c.next.result _ _ c.next.ensures.end c.in_default.not-Some in
    all_audited _ _ _ _ _ _ _ _ _ _ c.loop-text.invariant.walks none

pub returns-clause-lines : goal.returns-clause-lines
returns-clause-lines g c =
    let none = none_of c.next.result _ _ c.next.ensures.end c.in_default.not-Some in
    all_numbered _ _ _ _ _ _ _ _ _ _ c.loop-text.invariant.walks none c.requires

pub returns-clause-entries : goal.returns-clause-entries
returns-clause-entries g c =
    let none = none_of c.next.result _ _ c.next.ensures.end c.in_default.not-Some in
    all_entered _ _ _ _ _ _ _ _ _ _ c.loop-text.invariant.walks none c.requires
