use Rattle.std.proofs.Common.{arith}
use Rattle.tg_snapshot.proofs.FaultLaws.{Looked, bad_subject, bad_edge, no_fault}
use Rattle.tg_snapshot.proofs.check.fault_of.Goals as goal

pub first_bad_subject-requires : goal.first_bad_subject-requires
first_bad_subject-requires c = λ i inside. (c.in_default.ensures i inside).rises

pub first_bad_edge-requires : goal.first_bad_edge-requires
first_bad_edge-requires c = λ i inside. (c.in_default.ensures i inside).rises

pub returns-in-Some-first_bad_subject : goal.returns-in-Some-first_bad_subject
returns-in-Some-first_bad_subject c =
    let looked : Looked c.args.picture.now c.args.vertices.now c.made-made.result c.limit-limit.result = record {
      is_made = c.made-made.ensures;
      is_limit = c.limit-limit.ensures;
      some_made = omega arith;
      within = omega arith;
      lasting = omega arith;
      lines = c.in_default.ensures;
    } in
    bad_subject c.args.picture.now c.args.vertices.now c.made-made.result c.limit-limit.result looked c.subjects.result.now c.subjects.ensures c.in-Some-first_bad_subject.at c.in-Some-first_bad_subject.ensures

pub returns-in-Some-first_bad_edge : goal.returns-in-Some-first_bad_edge
returns-in-Some-first_bad_edge c =
    let looked : Looked c.args.picture.now c.args.vertices.now c.made-made.result c.limit-limit.result = record {
      is_made = c.made-made.ensures;
      is_limit = c.limit-limit.ensures;
      some_made = omega arith;
      within = omega arith;
      lasting = omega arith;
      lines = c.in_default.ensures;
    } in
    bad_edge c.args.picture.now c.args.vertices.now c.made-made.result c.limit-limit.result looked c.subjects.result.now c.subjects.ensures c.in_default-first_bad_subject.ensures c.edges.result.now c.edges.ensures c.in-Some-first_bad_edge.at c.in-Some-first_bad_edge.ensures

pub returns : goal.returns
returns c =
    let looked : Looked c.args.picture.now c.args.vertices.now c.made-made.result c.limit-limit.result = record {
      is_made = c.made-made.ensures;
      is_limit = c.limit-limit.ensures;
      some_made = omega arith;
      within = omega arith;
      lasting = omega arith;
      lines = c.in_default.ensures;
    } in
    no_fault c.args.picture.now c.args.vertices.now c.made-made.result c.limit-limit.result looked c.subjects.result.now c.subjects.ensures c.in_default-first_bad_subject.ensures c.edges.result.now c.edges.ensures c.in_default-first_bad_edge.ensures
