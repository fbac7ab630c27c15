use Rattle.std.proofs.Common.{arith, ℕ, ◌≤◌, Ok, sym, ap, subst, ◌∙◌}
use Rattle.tg_space.specs.Targets.{cell_numbered}
use Rattle.tg_evac.specs.Inner.Reads.{HasReadAhead}
use Rattle.tg_evac.specs.Walks.{Scans}
use Rattle.tg_evac.specs.declared.copies.Ahead.{Ahead}
use Rattle.tg_evac.proofs.Reading.{has_read_none, has_read_still, read_ahead}
use Rattle.tg_evac.proofs.Scanning.{scans_both, scans_none, scans_refused, still_under_way}
use Rattle.tg_evac.proofs.walk.Walk.scan.Goals as goal
use Rattle.tg_evac.proofs.walk.Walk.scan.Goals.{in-Each, in-Ahead}

pub loop-next-init : goal.loop-next-init
loop-next-init g c =
    let m = g.C.Claimer in
    record {
      scans = scans_none m.walked m.knows m.is_full c.requires;
      before = omega (arith, c.new-ahead.ensures.first);
      read = has_read_none c.args.self.spaces.now.spaces (m.walked c.args.claimer.now).won c.new-ahead.result c.new-ahead.ensures.first c.new-ahead.ensures.count;
    }

pub loop-next-preserved : goal.loop-next-preserved
loop-next-preserved g c =
    let m = g.C.Claimer in let h = c.args.self.spaces.now.spaces in let won = (m.walked c.loop-next.claimer).won in let n = c.loop-next.next in
    let both = λ (a : Ahead). (a.first ≤ n) × HasReadAhead h won a in
    let now : both c.match-self.ahead =
    elim c.match-self.branch [
      | in-Each w ↦ subst both (sym w.ahead-is) (c.loop-next.invariant.before, c.loop-next.invariant.read)
      | in-Ahead w ↦ subst both (sym w.ahead-is) (w.read.ensures.before, w.read.ensures.read)
    ] in
    record {
      scans = scans_both m.walked m.knows m.is_full c.loop-next.invariant.scans c.in_ok-scan_next.ensures.scans;
      before = omega (arith, now.0);
      read = has_read_still h c.in_ok-scan_next.ensures.scans.goes.keeps c.match-self.ahead now.1;
    }

pub returns-in_err-scan_next-clause-scans : goal.returns-in_err-scan_next-clause-scans
returns-in_err-scan_next-clause-scans g c = let m = g.C.Claimer in scans_refused m.walked m.knows m.is_full c.from_residual.result _ c.from_residual.ensures.1 (scans_both m.walked m.knows m.is_full c.loop-next.invariant.scans c.in_err-scan_next.ensures.scans)

pub scan_next-requires-clause-walk : goal.scan_next-requires-clause-walk
scan_next-requires-clause-walk g c = let m = g.C.Claimer in still_under_way m.walked m.knows m.is_full c.loop-next.invariant.scans c.requires

pub scan_next-requires-clause-words : goal.scan_next-requires-clause-words
scan_next-requires-clause-words g c =
    let h = c.args.self.spaces.now.spaces in let won = (g.C.Claimer.walked c.loop-next.claimer).won in let n = c.loop-next.next in
    elim c.match-self.branch [
      | in-Each w ↦ ap (λ r. r.now) w.words-is ∙ w.words_near-words.ensures.words ∙ ap (cell_numbered h) w.won_cell.ensures.cell
      | in-Ahead w ↦
          ap (λ r. r.now) w.words-is ∙ w.words-words.ensures ∙
          read_ahead h won w.read.new.self n w.read.ensures.before w.read.ensures.there w.read.ensures.read
    ]

pub returns-clause-ended : goal.returns-clause-ended
returns-clause-ended g c = let within = c.loop-next.invariant.scans.copies.within in omega arith

pub returns-clause-scans : goal.returns-clause-scans
returns-clause-scans g c = let m = g.C.Claimer in
    subst (λ (n : ℕ). Scans m.walked m.knows m.is_full c.args.self.spaces.now.spaces c.args.claimer.now c.loop-next.claimer n c.loop-next.copies.aged c.loop-next.copies.old (Ok (tt {0}))) (returns-clause-ended g c) c.loop-next.invariant.scans
