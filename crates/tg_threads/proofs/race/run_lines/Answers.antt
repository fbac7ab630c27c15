use Rattle.std.proofs.Common.{◌≡◌, ◌<◌, ◌∙◌, ℕ, List, ap, arith, length, map, subst, sym}
use Rattle.tg_shared.specs.Sessions.{subjects_at}
use Rattle.tg_threads.specs.Boxes.{boxed}
use Rattle.tg_threads.specs.Shares.{IsInScriptOrder, all_shares, is_run_by, lines_in}
use Rattle.tg_threads.specs.Tasks.{AllBring, all_assigned}
use Rattle.tg_threads.proofs.AssignedLaws.{works_fresh}
use Rattle.tg_threads.proofs.RaceLaws.{all_brought, crew_of, fresh_length, in_order_of, whole_of}
use Rattle.tg_threads.proofs.WeaveLaws.{bring_each}
use Rattle.tg_threads.proofs.race.run_lines.Given.{Over}
use Rattle.tg_threads.proofs.race.run_lines.Goals as goal
use Rattle.tg_threads.proofs.race.run_lines.Goals.{In_ok-finished}

-- each session has run its lines
brought : (g : Over) (c : In_ok-finished g) → AllBring g.L.Round.start c.args.context.now.helpers (all_assigned (subjects_at g.L.Round.start) (boxed c.args.stock.items c.args.lines.now)) c.in_ok-finished.finished.items
brought g c =
    let bs = boxed c.args.stock.items c.args.lines.now in
    let crew = crew_of (subjects_at g.L.Round.start) c.args.sessions.items c.as_slice.result.now c.in_ok-names.names.items c.as_slice-crew.result.now c.requires.fresh c.as_slice.ensures.value c.in_ok-names.ensures c.as_slice-crew.ensures.value in
    all_brought g.L.Round.start c.args.context.now.helpers (subjects_at g.L.Round.start) bs c.in_ok-works.works.items c.args.sessions.items c.in_ok-finished.finished.items c.requires.fresh
    c.in_ok-works.ensures.sessions (c.in_ok-works.ensures.lines ∙ ap (λ (ns : List ℕ). all_shares ns bs) crew) c.in_ok-finished.ensures

pub share_out-requires-clause-some : goal.share_out-requires-clause-some
share_out-requires-clause-some g c =
    let crew = crew_of (subjects_at g.L.Round.start) c.args.sessions.items c.as_slice.result.now c.in_ok-names.names.items c.as_slice-crew.result.now c.requires.fresh c.as_slice.ensures.value c.in_ok-names.ensures c.as_slice-crew.ensures.value in
    subst (λ (ns : List ℕ). 0 < length ns) (sym crew) (omega (arith, c.requires.some))

pub share_out-requires-clause-each : goal.share_out-requires-clause-each
share_out-requires-clause-each g c =
    let crew = crew_of (subjects_at g.L.Round.start) c.args.sessions.items c.as_slice.result.now c.in_ok-names.names.items c.as_slice-crew.result.now c.requires.fresh c.as_slice.ensures.value c.in_ok-names.ensures c.as_slice-crew.ensures.value in
    fresh_length (subjects_at g.L.Round.start) c.args.sessions.items c.requires.fresh ∙ ap (λ (ns : List ℕ). length ns) (sym crew)

pub run_threads-requires-clause-fresh : goal.run_threads-requires-clause-fresh
run_threads-requires-clause-fresh g c = λ lifetimes outlive.
    works_fresh (subjects_at g.L.Round.start) c.in_ok-works.works.items c.args.sessions.items c.requires.fresh c.in_ok-works.ensures.sessions

pub in_script_order-requires-clause-some : goal.in_script_order-requires-clause-some
in_script_order-requires-clause-some g c =
    let crew = crew_of (subjects_at g.L.Round.start) c.args.sessions.items c.as_slice.result.now c.in_ok-names.names.items c.as_slice-crew.result.now c.requires.fresh c.as_slice.ensures.value c.in_ok-names.ensures c.as_slice-crew.ensures.value in
    subst (λ (ns : List ℕ). 0 < length ns) (sym crew) (omega (arith, c.requires.some))

pub in_script_order-requires-clause-each : goal.in_script_order-requires-clause-each
in_script_order-requires-clause-each g c =
    let at = goal.at.in_script_order-requires-clause-each g c in
    let crew = crew_of (subjects_at g.L.Round.start) c.args.sessions.items c.as_slice.result.now c.in_ok-names.names.items c.as_slice-crew.result.now c.requires.fresh c.as_slice.ensures.value c.in_ok-names.ensures c.as_slice-crew.ensures.value in
    ap length c.as_slice-brought.ensures.value ∙ bring_each g.L.Round.start c.args.context.now.helpers (subjects_at g.L.Round.start) (boxed c.args.stock.items c.args.lines.now) c.in_ok-finished.finished.items (brought g at.In_ok-finished)
    ∙ ap (λ (ns : List ℕ). length ns) (sym crew)

pub in_script_order-requires-clause-whole : goal.in_script_order-requires-clause-whole
in_script_order-requires-clause-whole g c =
    let at = goal.at.in_script_order-requires-clause-whole g c in
    let crew = crew_of (subjects_at g.L.Round.start) c.args.sessions.items c.as_slice.result.now c.in_ok-names.names.items c.as_slice-crew.result.now c.requires.fresh c.as_slice.ensures.value c.in_ok-names.ensures c.as_slice-crew.ensures.value in
    whole_of g.L.Round.start c.args.context.now.helpers (subjects_at g.L.Round.start) c.as_slice-crew.result.now c.args.stock.items c.args.lines.now c.in_ok-finished.finished.items c.as_slice-brought.result.now crew c.as_slice-brought.ensures.value (brought g at.In_ok-finished)

pub returns-clause-ran : goal.returns-clause-ran
returns-clause-ran g c =
    let at = goal.at.returns-clause-ran g c in
    let crew = crew_of (subjects_at g.L.Round.start) c.args.sessions.items c.as_slice.result.now c.in_ok-names.names.items c.as_slice-crew.result.now c.requires.fresh c.as_slice.ensures.value c.in_ok-names.ensures c.as_slice-crew.ensures.value in
    record {
      finished = c.in_ok-finished.finished.items;
      each = brought g at.In_ok-finished;
      order = in_order_of (subjects_at g.L.Round.start) c.as_slice-crew.result.now c.args.lines.now c.in_ok-finished.finished.items c.as_slice-brought.result.now c.in_ok-told.told.items crew c.as_slice-brought.ensures.value c.in_ok-told.ensures;
      sessions = c.in_ok-sessions.ensures;
    }
