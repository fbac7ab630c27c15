use Rattle.std.proofs.Common.{◌≡◌, ◌-◌, ◌<◌, drop, length, sym, subst, arith}
use Rattle.std.proofs.Math.Seq.{drop-length}
use Rattle.tg_past.specs.Inner.{Finishes}
use Rattle.tg_past.proofs.ChangeLaws.{earlier}
use Rattle.tg_past.proofs.edges.LastEdges.read.Goals as goal

pub backwards-init : goal.backwards-init
backwards-init c = (omega arith, subst (Finishes c.args.self.now) (sym (drop-length c.args.entries.now)) c.requires)

pub backwards-preserved : goal.backwards-preserved
backwards-preserved c =
    let left = c.backwards.left in
    let below : left - 1 < length c.args.entries.now = omega (arith, c.backwards-test.true, c.backwards.invariant.0) in (
      omega (arith, below),
      earlier c.backwards.self c.precede.new.self c.args.entries.now left (left - 1) c.index-entries-left.result (omega (arith, c.backwards-test.true)) below c.index-entries-left.is
          c.backwards.invariant.1 c.in_ok-precede.ensures,
    )

pub returns : goal.returns
returns c =
    let zero : c.backwards.left ≡ 0 = omega (arith, c.backwards-test.false) in
    subst (λ n. Finishes c.backwards.self (drop n c.args.entries.now)) zero c.backwards.invariant.1
