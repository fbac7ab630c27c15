use Rattle.std.proofs.Common.{◌≡◌, ap, subst, sym}
use Rattle.std.specs.Prelude.{slice_get}
use Rattle.tg_store.specs.Faults.{IsFirstDifference}
use Rattle.tg_store.specs.declared.fault.OpenFault.TheVariants.{PayloadMismatch}
use Rattle.tg_store.proofs.DifferenceLaws.{one_first}
use Rattle.tg_model.specs.Opened.{start_of}
use Rattle.tg_journal.specs.History.{IsLegal, graph_after}
use Rattle.tg_store.specs.Counts.{no_collections}
use Rattle.tg_store.specs.Origin.{Origin}
use Rattle.tg_store.specs.Store.{IsStore}
use Rattle.tg_store.proofs.Apart.{differs_not_full, same_place}
use Rattle.tg_store.proofs.StandLaws.{IsOrigin-first, IsStore-begun}
use Rattle.tg_store.proofs.store.Store.open.Goals as goal

pub returns-in-Some-clause-mismatch : goal.returns-in-Some-clause-mismatch
returns-in-Some-clause-mismatch g c =
    let xs = c.args.opening.values in
    let ys = c.args.drafts.items in
    let first : IsFirstDifference xs ys c.in-Some.at = rw (c.values.ensures, c.as_slice.ensures.value) at c.in-Some.ensures in
    λ at.
    (λ e. let same : c.in-Some.at ≡ at = same_place e in rw (← same) first, λ other. ap PayloadMismatch (one_first xs ys c.in-Some.at at first other))

pub returns-in-Some-clause-full : goal.returns-in-Some-clause-full
returns-in-Some-clause-full g c =
    let xs = c.args.opening.values in
    let ys = c.args.drafts.items in
    let first : IsFirstDifference xs ys c.in-Some.at = rw (c.values.ensures, c.as_slice.ensures.value) at c.in-Some.ensures in
    (λ e. absurd (differs_not_full e), λ both. absurd (first.here (ap (λ zs. slice_get zs c.in-Some.at) (sym both.0))))

pub begin-requires : goal.begin-requires
begin-requires g c =
    let plan = c.args.opening in
    let entries = c.new.ensures.entries in
    subst (λ (o : Origin). IsStore (record { opening = o; entries = c.new.result.entries; handed = c.new.result.start; heap = c.in-Ok.heap; collections = no_collections }) c.workers-made.result) (sym c.first-origin.ensures)
    (IsStore-begun _ c.workers-made.result (IsOrigin-first plan c.workers-made.ensures.plan) (subst (IsLegal (start_of plan)) (sym entries) tt) (ap (graph_after (start_of plan)) entries)
    c.in-Ok.ensures.stands c.in-Ok.ensures.subjects c.workers-made.ensures.number)
