use Rattle.std.proofs.Common.{◌≡◌, ◌∙◌, ap, arith, refl, subst, sym, List}
use Rattle.tg_model.specs.declared.edge.Edge.{Edge}
use Rattle.tg_model.specs.Opened.{start_of}
use Rattle.tg_store.specs.Origin.{Origin, opened_by}
use Rattle.tg_store.specs.Store.{StandsFor}
use Rattle.tg_script.specs.Opening.{edge_lines, plan_by}
use Rattle.tg_script.specs.Inner.Beginning.{ReadsFirst, plan_with}
use Rattle.tg_script.specs.Script.{start_of_setup}
use Rattle.tg_script.proofs.LinesLaws.{err_is}
use Rattle.tg_script.proofs.DueLaws.{keeping_due, opening_due, opening_fails}
use Rattle.tg_script.proofs.RanLaws.{unbegun_edges, unbegun_store}
use Rattle.tg_script.proofs.run_script.begin.Goals as goal

pub returns-in_err-edges-clause-bytes : goal.returns-in_err-edges-clause-bytes
returns-in_err-edges-clause-bytes g c = λ bytes known.
    let start = start_of_setup c.args.setup in
    let n = c.in_err-edges.ensures.bytes bytes known in
    rw (err_is c.from_residual.result _ c.from_residual.ensures.1) (n.0, n.1, unbegun_edges c.in_err-edges.field-0.0 start bytes n.0 c.in_err-edges.ensures.reading.reading.fault n.2)

pub returns-in_err-edges-clause-streams : goal.returns-in_err-edges-clause-streams
returns-in_err-edges-clause-streams g c =
    let start = start_of_setup c.args.setup in
    let reading = c.in_err-edges.ensures.reading in
    rw (err_is c.from_residual.result _ c.from_residual.ensures.1) (record {
      due = keeping_due start c.in_err-edges.field-0.0 reading.reading.fault;
      failures = reading.reading.failures;
      taken = reading.reading.taken;
      asked = reading.asked;
      asked_of_line = tt;
    })

pub returns-in_err-store-clause-bytes : goal.returns-in_err-store-clause-bytes
returns-in_err-store-clause-bytes g c = λ bytes known.
    let start = start_of_setup c.args.setup in
    let front = c.in_ok-edges.field-0 in
    let plan = plan_by c.args.setup.settings front.edges.items c.args.setup.workers.items in
    let n = c.in_ok-edges.ensures.bytes bytes known in
    rw (err_is c.from_residual-in_err-store.result _ c.from_residual-in_err-store.ensures.1) (n.0, n.1, unbegun_store plan c.in_err-store.field-0.0 start front.script bytes n.0 front.edges.items front.first refl refl c.in_err-store.ensures.opened c.in_ok-edges.ensures.front.first n.2)

pub returns-in_err-store-clause-streams : goal.returns-in_err-store-clause-streams
returns-in_err-store-clause-streams g c =
    let start = start_of_setup c.args.setup in
    let plan = plan_by c.args.setup.settings c.in_ok-edges.field-0.edges.items c.args.setup.workers.items in
    let reading = c.in_ok-edges.ensures.reading in
    let none = opening_fails (Unit {0}) plan start.blocks c.in_err-store.field-0.0 c.in_err-store.ensures.opened in
    rw (err_is c.from_residual-in_err-store.result _ c.from_residual-in_err-store.ensures.1) (record {
      due = opening_due plan start c.in_err-store.field-0.0 refl refl c.in_err-store.ensures.opened;
      failures = record { read_failed = omega (arith, reading.reading.failures.read_failed, none.0); write_failed = omega (arith, reading.reading.failures.write_failed, none.1) };
      taken = reading.reading.taken;
      asked = reading.asked;
      asked_of_line = tt;
    })

pub returns : goal.returns
returns g c =
    let start = start_of_setup c.args.setup in
    let front = c.in_ok-edges.field-0 in
    let store = c.in_ok-store.store in
    let opened = c.in_ok-store.ensures.opened in
    let reading = c.in_ok-edges.ensures.reading in
    let edges : front.edges.items ≡ store.opening.plan.edges = sym (ap (λ (o : Origin). o.plan.edges) opened.3) in
    record {
      begun = record {
        can = (opened.0, opened.1);
        opening = opened.3 ∙ ap (λ (x : List Edge). opened_by (plan_with start x)) edges;
        none = opened.4;
        shows = (subst (λ (x : List Edge). StandsFor store (start_of (plan_with start x))) edges opened.2, c.new-supply.ensures, refl);
        first = c.in_ok-edges.ensures.front.first;
      };
      bytes = λ bytes known.
          let n = c.in_ok-edges.ensures.bytes bytes known in
          (n.0, n.1, subst (λ (x : List Edge). ReadsFirst start.workers bytes (edge_lines x) front.first front.script n.0) edges n.2);
      streams = record { due = tt; failures = reading.reading.failures; taken = reading.reading.taken; asked = reading.asked; asked_of_line = reading.asked_of_line };
    }
