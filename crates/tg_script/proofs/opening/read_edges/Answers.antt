use Rattle.std.proofs.Common.{◌+◌, inl, inr, refl, sym, ap, subst, arith, rules, List, None}
use Rattle.std.specs.List.{All}
use Rattle.tg_model.specs.declared.edge.Edge.{Edge}
use Rattle.tg_model.specs.Opened.{JoinsWorkers}
use Rattle.tg_script.specs.Opening.{edge_lines}
use Rattle.tg_script.specs.Inner.Beginning.{ReadsFront}
use Rattle.tg_script.proofs.LinesLaws.{err_is, fresh_front, front_all, front_more, reads_none, reads_then}
use Rattle.tg_script.proofs.OpeningLaws.{edges_more, edges_fault, edges_unkept, pushed, edge_taken, command_taken, joined}
use Rattle.tg_script.proofs.opening.read_edges.Goals as goal

pub loop-edges-init : goal.loop-edges-init
loop-edges-init g c =
    let w = c.args.workers in
    let script = c.new-script.result in
    let fresh = c.new-script.ensures in
    let none = sym c.new-edges.ensures.items in
    record {
      joins = subst (λ (x : List Edge). All (JoinsWorkers w) x) none (search rules);
      workers = fresh.workers;
      opening = fresh.opening;
      bytes = λ bytes known. (bytes, known, subst (λ (x : List Edge). ReadsFront w bytes (edge_lines x) script bytes) none (fresh_front w script bytes fresh));
      reading = reads_none;
      asked = ap (λ n. g.S.Source.asked c.args.source.now + n) fresh.room;
    }

pub returns-in_err-line-clause-bytes : goal.returns-in_err-line-clause-bytes
returns-in_err-line-clause-bytes g c = λ bytes known.
    let i = c.loop-edges.invariant.bytes bytes known in
    let n = c.in_err-line.ensures.bytes i.0 i.1 in
    rw (err_is c.from_residual.result _ c.from_residual.ensures.1) (n.0, n.1, edges_fault c.args.workers c.loop-edges.script bytes i.0 c.loop-edges.edges.items c.in_err-line.field-0.0 n.0 i.2 n.2.0 n.2.1)

pub returns-in_err-line-clause-reading : goal.returns-in_err-line-clause-reading
returns-in_err-line-clause-reading g c =
    let reading = c.in_err-line.ensures.reading in
    rw (err_is c.from_residual.result _ c.from_residual.ensures.1) (record {
      reading = reads_then c.loop-edges.invariant.reading reading (inl reading.fault) refl refl;
      asked = omega (arith, c.in_err-line.ensures.asked, c.loop-edges.invariant.asked);
      asked_of_line = tt;
    })

pub returns-in_default-line : goal.returns-in_default-line
returns-in_default-line g c =
    let came = rw c.in-Some.is at c.in_ok-line.ensures.bytes in
    let follows = rw c.in-Some.is at c.in_ok-line.ensures.follows in
    let asked = rw c.in-Some.is at c.in_ok-line.ensures.asked_of_line in
    let edges = c.loop-edges.edges.items in
    let script = c.loop-edges.script in
    record {
      front = record { edges = c.loop-edges.invariant.joins; first = command_taken script c.in-Some.line c.next.new.self follows c.in_default-line.not-Edge };
      bytes = λ bytes known.
          let i = c.loop-edges.invariant.bytes bytes known in
          let n = came i.0 i.1 in
          (n.0, n.1, front_more c.args.workers script c.next.new.self bytes i.0 n.0 (edge_lines edges) c.in-Some.line i.2 n.2);
      reading = record {
        reading = reads_then c.loop-edges.invariant.reading c.in_ok-line.ensures.reading tt refl refl;
        asked = omega (arith, asked, c.loop-edges.invariant.asked);
        asked_of_line = omega (arith, asked, c.loop-edges.invariant.asked);
      };
    }

pub returns-then-is_err-clause-bytes : goal.returns-then-is_err-clause-bytes
returns-then-is_err-clause-bytes g c = λ bytes known.
    let i = c.loop-edges.invariant.bytes bytes known in
    let came = rw c.in-Some.is at c.in_ok-line.ensures.bytes in
    let n = came i.0 i.1 in
    let passes = rw c.in-Edge.is at n.2 in
    (n.0, n.1, edges_unkept c.args.workers c.loop-edges.script c.next.new.self bytes i.0 n.0 c.loop-edges.edges.items c.in-Edge.edge i.2 passes)

pub returns-then-is_err-clause-reading : goal.returns-then-is_err-clause-reading
returns-then-is_err-clause-reading g c = record {
  reading = reads_then c.loop-edges.invariant.reading c.in_ok-line.ensures.reading (inr refl) refl refl;
  asked = omega (arith, c.in_ok-line.ensures.asked, c.loop-edges.invariant.asked);
  asked_of_line = tt;
}

pub loop-edges-preserved : goal.loop-edges-preserved
loop-edges-preserved g c =
    let came = rw c.in-Some.is at c.in_ok-line.ensures.bytes in
    let follows = rw c.in-Some.is at c.in_ok-line.ensures.follows in
    let asked = rw c.in-Some.is at c.in_ok-line.ensures.asked_of_line in
    let edges = c.loop-edges.edges.items in
    let script = c.loop-edges.script in
    let more = pushed c.push.new.self.items edges c.in-Edge.edge c.push.result (sym c.if-is_err.ensures.value) c.push.ensures.items in
    let e = edge_taken script c.in-Some.line c.next.new.self c.in-Edge.edge c.in-Edge.is c.loop-edges.invariant.opening follows in
    record {
      joins = joined c.args.workers script edges c.push.new.self.items c.in-Edge.edge c.loop-edges.invariant.workers c.loop-edges.invariant.joins e.0 more;
      workers = omega (arith, e.2, c.loop-edges.invariant.workers);
      opening = e.1;
      bytes = λ bytes known.
          let i = c.loop-edges.invariant.bytes bytes known in
          let n = came i.0 i.1 in
          let passes = rw c.in-Edge.is at n.2 in
          (n.0, n.1, edges_more c.args.workers script c.next.new.self bytes i.0 n.0 edges c.push.new.self.items c.in-Edge.edge more i.2 passes);
      reading = reads_then c.loop-edges.invariant.reading c.in_ok-line.ensures.reading tt refl refl;
      asked = omega (arith, asked, c.loop-edges.invariant.asked);
    }

pub returns-clause-bytes : goal.returns-clause-bytes
returns-clause-bytes g c = λ bytes known.
    let i = c.loop-edges.invariant.bytes bytes known in
    let came = rw c.in_default.is at c.in_ok-line.ensures.bytes in
    let n = came i.0 i.1 in
    (n.0, n.1, front_all c.args.workers c.loop-edges.script bytes i.0 (edge_lines c.loop-edges.edges.items) None n.0 i.2 n.2)

pub returns-clause-reading : goal.returns-clause-reading
returns-clause-reading g c = record {
  reading = reads_then c.loop-edges.invariant.reading c.in_ok-line.ensures.reading tt refl refl;
  asked = omega (arith, c.in_ok-line.ensures.asked, c.loop-edges.invariant.asked);
  asked_of_line = tt;
}
