use Rattle.std.proofs.Common.{◌≡◌, ◌++◌, [], ◌∷◌, inl, inr, refl, ap, ◌∙◌, sym, subst, arith, rules, append-nil, append_assoc, Some, List}
use Rattle.std.specs.List.{All}
use Rattle.std.proofs.lemmas.List.Elements.{All-push}
use Rattle.tg_text.specs.declared.line.Line.{Line}
use Rattle.tg_text.specs.declared.fault.ScriptFault.TheVariants as fault
use Rattle.tg_script.specs.Opening.{IsCommand, edge_lines}
use Rattle.tg_script.specs.Inner.Beginning.{ReadsFirst, ReadsFront}
use Rattle.tg_script.proofs.LinesLaws.{err_is, front_all, front_next, reads_then}
use Rattle.tg_script.proofs.OpeningLaws.{pushed}
use Rattle.tg_script.proofs.WholeLaws.{next_asked, next_behind, next_smaller}
use Rattle.tg_script.proofs.whole.read_script.Goals as goal

pub returns-in_err-edges-clause-bytes : goal.returns-in_err-edges-clause-bytes
returns-in_err-edges-clause-bytes g c = λ bytes known.
    let n = c.in_err-edges.ensures.bytes bytes known in
    rw (err_is c.from_residual.result _ c.from_residual.ensures.1) (n.0, n.1, (edge_lines n.2.edges, n.2.reads))

pub returns-in_err-edges-clause-reading : goal.returns-in_err-edges-clause-reading
returns-in_err-edges-clause-reading g c =
    let reading = c.in_err-edges.ensures.reading.reading in
    rw (err_is c.from_residual.result _ c.from_residual.ensures.1) (record { fault = reading.fault; failures = reading.failures; taken = reading.taken })

pub loop-next-init : goal.loop-next-init
loop-next-init g c =
    let front = c.in_ok-edges.field-0 in
    let edges = edge_lines front.edges.items in
    let none = sym c.new-lines.ensures.items in
    let reading = c.in_ok-edges.ensures.reading in
    record {
      commands = subst (λ (x : List Line). All IsCommand x) none (search rules);
      next = c.in_ok-edges.ensures.front.first;
      bytes = λ bytes known.
          let n = c.in_ok-edges.ensures.bytes bytes known in (
            n.0,
            n.1,
            subst (λ (x : List Line). ReadsFirst c.args.workers bytes (edges ++ x) front.first front.script n.0) none
                (subst (λ (x : List Line). ReadsFirst c.args.workers bytes x front.first front.script n.0) (sym (append-nil edges)) n.2),
          );
      reading = record { fault = tt; failures = reading.reading.failures; taken = reading.reading.taken };
      asked = reading.asked;
      asked_of_line = reading.asked_of_line;
    }

pub returns-then-is_err-clause-bytes : goal.returns-then-is_err-clause-bytes
returns-then-is_err-clause-bytes g c = λ bytes known.
    let i = (rw c.in-Some.is at c.loop-next.invariant.bytes) bytes known in
    let lines = (edge_lines c.in_ok-edges.field-0.edges.items ++ c.loop-next.lines.items) ++ c.in-Some.line ∷ [] in
    (i.0, i.1, (lines, front_all c.args.workers c.loop-next.script bytes i.0 lines (Some fault.OutOfMemory) i.0 i.2 refl))

pub returns-then-is_err-clause-reading : goal.returns-then-is_err-clause-reading
returns-then-is_err-clause-reading g c =
    let reading = c.loop-next.invariant.reading in
    record { fault = inr refl; failures = reading.failures; taken = reading.taken }

pub returns-in_err-next-clause-bytes : goal.returns-in_err-next-clause-bytes
returns-in_err-next-clause-bytes g c = λ bytes known.
    let i = (rw c.in-Some.is at c.loop-next.invariant.bytes) bytes known in
    let n = c.in_err-next.ensures.bytes i.0 i.1 in
    let lines = (edge_lines c.in_ok-edges.field-0.edges.items ++ c.loop-next.lines.items) ++ c.in-Some.line ∷ [] in
    rw (err_is c.from_residual-in_err-next.result _ c.from_residual-in_err-next.ensures.1) (n.0, n.1, (lines, front_all c.args.workers c.loop-next.script bytes i.0 lines (Some c.in_err-next.field-0.0) n.0 i.2 n.2.1))

pub returns-in_err-next-clause-reading : goal.returns-in_err-next-clause-reading
returns-in_err-next-clause-reading g c =
    let reading = c.in_err-next.ensures.reading in
    rw (err_is c.from_residual-in_err-next.result _ c.from_residual-in_err-next.ensures.1) (reads_then c.loop-next.invariant.reading reading (inl reading.fault) refl refl)

pub returns-in_err-next-clause-asked : goal.returns-in_err-next-clause-asked
returns-in_err-next-clause-asked g c =
    let asked = rw c.in-Some.is at c.loop-next.invariant.asked_of_line in
    omega (arith, asked, c.in_err-next.ensures.asked)

pub loop-next-preserved : goal.loop-next-preserved
loop-next-preserved g c =
    let next = rw c.in-Some.is at c.loop-next.invariant.next in
    let asked = rw c.in-Some.is at c.loop-next.invariant.asked_of_line in
    let old = c.loop-next.lines.items in
    let edges = edge_lines c.in_ok-edges.field-0.edges.items in
    let one = c.in-Some.line ∷ [] in
    let came = c.in_ok-next.next in
    let script = c.next.new.self in
    let more = pushed c.push.new.self.items old c.in-Some.line c.push.result (sym c.if-is_err.ensures.value) c.push.ensures.items in
    record {
      commands = subst (λ (x : List Line). All IsCommand x) (sym more) (All-push IsCommand old c.in-Some.line c.loop-next.invariant.commands next.0);
      next = next_behind c.loop-next.script script came next.1 c.in_ok-next.ensures.follows;
      bytes = λ bytes known.
          let i = (rw c.in-Some.is at c.loop-next.invariant.bytes) bytes known in
          let n = c.in_ok-next.ensures.bytes i.0 i.1 in
          let all : (edges ++ old) ++ one ≡ edges ++ c.push.new.self.items = append_assoc edges old one ∙ ap (λ (x : List Line). edges ++ x) (sym more) in (
            n.0,
            n.1,
            front_next c.args.workers c.loop-next.script script bytes i.0 n.0 (edges ++ c.push.new.self.items) came
                (subst (λ (x : List Line). ReadsFront c.args.workers bytes x c.loop-next.script i.0) all i.2) n.2,
          );
      reading = reads_then c.loop-next.invariant.reading c.in_ok-next.ensures.reading tt refl refl;
      asked = omega (arith, asked, c.in_ok-next.ensures.asked);
      asked_of_line = next_asked came _ _ _ asked c.in_ok-next.ensures.asked_of_line;
    }

pub loop-next-smaller : goal.loop-next-smaller
loop-next-smaller g c = rw c.in-Some.is (next_smaller c.in_ok-next.next c.next.new.self.lines.room c.loop-next.script.lines.room c.in_ok-next.ensures.shorter)

pub returns-clause-bytes : goal.returns-clause-bytes
returns-clause-bytes g c = λ bytes known. (rw c.in_default.is at c.loop-next.invariant.bytes) bytes known

pub returns-clause-reading : goal.returns-clause-reading
returns-clause-reading g c =
    let reading = c.loop-next.invariant.reading in
    record { fault = tt; failures = reading.failures; taken = reading.taken }
