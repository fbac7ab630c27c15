use Rattle.std.proofs.Common.{◌++◌, [], ℕ, List, drop, sym, ap, subst}
use Rattle.std.specs.Prelude.{OnOk}
use Rattle.std.specs.List.{flat_map}
use Rattle.tg_entries.specs.Read.{HasRead}
use Rattle.tg_entries.specs.Texts.{version_text}
use Rattle.tg_keep.proofs.Scanning.{begins_none, none_of}
use Rattle.tg_found.specs.Kept.{ended_line}
use Rattle.tgaudit.proofs.KeptLaws.{after_first}
use Rattle.tgaudit.proofs.kept.audit_lines.Goals as goal

pub returns-in_default-clause-refused : goal.returns-in_default-clause-refused
returns-in_default-clause-refused g c =
    let none = none_of c.next.result _ _ c.next.ensures.end c.in_default.not-Some in
    begins_none c.args.file.now c.new-reader.result.sum.digits c.new-reader.result.left.now c.new-reader.ensures.left c.new-reader.ensures.sum none

pub audit_rest-requires : goal.audit_rest-requires
audit_rest-requires g c = after_first c.args.file.now c.new-reader.result.sum.digits c.new-reader.result.left.now _ _ _ c.new-reader.ensures.left c.new-reader.ensures.sum c.in-Some.ensures.read

pub returns-in-Ok-clause-read : goal.returns-in-Ok-clause-read
returns-in-Ok-clause-read g c =
    let after = after_first c.args.file.now c.new-reader.result.sum.digits c.new-reader.result.left.now _ _ _ c.new-reader.ensures.left c.new-reader.ensures.sum c.in-Some.ensures.read in
    subst (λ (l : List (List ℕ)). OnOk c.audit_rest.result (HasRead (version_text ++ flat_map ended_line l) c.audit_rest.new.audit)) (sym (ap (λ (l : List (List ℕ)). drop 1 l) after.texts))
    (c.audit_rest.ensures.read version_text (c.in-Ok.ensures.read [] c.requires))
