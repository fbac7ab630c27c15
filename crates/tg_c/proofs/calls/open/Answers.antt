use Rattle.std.proofs.Common.{◌∙◌, ◌≤◌, ap, arith, sym}
use Rattle.std.proofs.lemmas.Result.{err_from_is_err_and}
use Rattle.tg_c.proofs.OpenLaws.{store_wants, wants}
use Rattle.tg_c.proofs.calls.open.Goals as goal

pub returns-in_err-store-clause-refused : goal.returns-in_err-store-clause-refused
returns-in_err-store-clause-refused c =
    let given = err_from_is_err_and c.from_residual-in_err-store.result c.from_residual-in_err-store.ensures.1 in
    let asked = c.in_ok-opening.ensures.asked in
    let all = c.in_ok-opening.field-0 in
    let room : all.opening.workers ≤ all.blocks.max_blocks =
    omega (arith, asked.met.1.1.1.1.1.1.0, ap (λ l. l.max_blocks) asked.blocks, ap (λ p. p.workers) asked.opening) in
    wants c.args.workers.now c.args.edges.now c.args.limits.now c.from_residual-in_err-store.result _ asked.met given.1
    (given.2 ∙ store_wants all.opening.values all.drafts.items all.blocks.max_blocks all.opening.workers
    c.in_err-store.field-0.0.why (ap (λ p. p.values) asked.opening ∙ sym asked.drafts) room
    (λ at is. (c.in_err-store.ensures.mismatch at).0 is) (λ is. (c.in_err-store.ensures.full.0 is).1))
