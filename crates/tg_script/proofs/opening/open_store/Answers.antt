use Rattle.std.proofs.Common.{ap, ◌∙◌, List, arith, length}
use Rattle.std.specs.Prelude.{slice_get}
use Rattle.tg_model.specs.declared.value.Value.{Value}
use Rattle.tg_model.specs.Opened.{Plan}
use Rattle.tg_script.specs.Opening.{plan_by}
use Rattle.tg_script.proofs.OpeningLaws.{only_limits}
use Rattle.tg_script.proofs.opening.open_store.Goals as goal

pub unreachable-requires : goal.unreachable-requires
unreachable-requires g c =
    let p : Plan = plan_by c.args.settings.now c.args.edges.items c.in-Ok.values.items in
    let number = ap length (c.in-Ok.ensures.values ∙ c.as_slice.ensures.value) ∙ c.requires.startable.workers in
    only_limits p c.in_default-new.field-0 c.requires.startable.number c.requires.edges (number, c.in-Ok.ensures.fit) c.in_default-new.ensures.refused (omega arith, omega arith, omega arith)

pub unreachable-requires-in-PayloadMismatch : goal.unreachable-requires-in-PayloadMismatch
unreachable-requires-in-PayloadMismatch g c =
    let at = c.in-PayloadMismatch.at in
    let p : Plan = plan_by c.args.settings.now c.args.edges.items c.in-Ok.values.items in
    let first = (c.in-Err.ensures.mismatch at).0 c.in-PayloadMismatch.is in
    let same = ap (λ (p : Plan). p.values) {y = p} c.in-Ok-new.ensures.kept.0 ∙ c.in-Ok.ensures.values ∙ c.as_slice.ensures.value in
    first.here (ap (λ (xs : List Value). slice_get xs at) same)
