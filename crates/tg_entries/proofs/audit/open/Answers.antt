use Rattle.std.proofs.Common.{None, refl, subst}
use Rattle.tg_model.specs.Opened.{Plan, start_of}
use Rattle.tg_journal.specs.Auditing.{StandsAt}
use Rattle.tg_entries.specs.Texts.{Opened}
use Rattle.tg_entries.proofs.ReadLaws.{opening_read}
use Rattle.tg_entries.proofs.audit.open.Goals as goal

pub returns : goal.returns
returns c = λ text is.
    let plan : Plan = record { workers = c.args.head.workers; edges = c.args.head.edges.items; values = c.args.head.values.items; limit = c.args.head.max_vertices } in
    opening_read c.args.means.keeps text plan (record { auditor = c.in_ok-auditor.auditor; count = 0; before = None; kept = c.begin.result }) is c.in-Some.ensures.1
    (subst (λ (p : Plan). StandsAt (start_of p) c.in_ok-auditor.auditor) c.in-Some.ensures.0 c.in_ok-auditor.ensures.stands) c.in_ok-auditor.ensures.first refl refl
    (c.begin.ensures (Opened plan) c.in-Some.ensures.0)
