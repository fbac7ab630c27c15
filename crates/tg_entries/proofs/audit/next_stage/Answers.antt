use Rattle.std.proofs.Common.{List, ℕ, ◌++◌, subst, sym}
use Rattle.std.specs.Prelude.{IfOk}
use Rattle.tg_entries.specs.Read.{HasReadTo}
use Rattle.tg_entries.proofs.ReadLaws.{may_go_on}
use Rattle.tg_entries.proofs.audit.next_stage.Goals as goal

pub returns-in-Limits : goal.returns-in-Limits
returns-in-Limits g c = λ text was. c.limits_line.ensures c.args.means.keeps text (subst (HasReadTo c.args.means.keeps text) c.in-Limits.is was)

pub returns-in-Opening : goal.returns-in-Opening
returns-in-Opening g c = λ text was. c.opening_line.ensures text (subst (HasReadTo c.args.means.keeps text) c.in-Opening.is was)

pub returns-in-Saved : goal.returns-in-Saved
returns-in-Saved g c = λ text was. c.snapshot_line.ensures text (subst (HasReadTo c.args.means.keeps text) c.in-Saved.is was)

pub returns-in-Joint : goal.returns-in-Joint
returns-in-Joint g c = λ text was. c.joint_line.ensures c.args.means.keeps text (subst (HasReadTo c.args.means.keeps text) c.in-Joint.is was)

pub returns-in-Entries : goal.returns-in-Entries
returns-in-Entries g c = λ text was. c.entries_line.ensures c.args.means.keeps text (may_go_on c.args.means.keeps text c.args.stage c.in-Entries.entered c.in-Entries.is was)

pub returns-in-Version : goal.returns-in-Version
returns-in-Version g c = λ text was.
    let keeps = c.args.means.keeps in
    subst (λ (x : List ℕ). IfOk c.version_line.result (HasReadTo keeps (x ++ c.args.line.now))) (sym (subst (HasReadTo keeps text) c.in-Version.is was)) (c.version_line.ensures keeps)
