-- The user gets the edges, and the host leaves the account. What is entered is what was done.
use Rattle.std.proofs.Common.{◌∙◌, ◌++◌, ℕ, List, ap, refl, sym, subst, length, arith}
use Rattle.std.specs.List.{All}
use Rattle.tg_rights.specs.RightSet.{RightSet}
use Rattle.tg_model.specs.Graph.{HasEdge, without_rights}
use Rattle.tg_model.specs.Rules.{Permits}
use Rattle.tg_model.proofs.AllowedLaws.{permits-no_denial}
use Rattle.tg_rows.specs.Content.{IsContent, IsNamed}
use Rattle.tg_graph.specs.Heap.{content_of}
use Rattle.tg_subjects.specs.Subjects.{names_of}
use Rattle.tg_subjects.specs.declared.subject.Subject.{Subject}
use Rattle.tg_store.specs.Unparking.{take_key_of, taking_all}
use Rattle.tg_store.specs.Inner.Parking.{IsGiven, IsGivenUpAgain, parking_of}
use Rattle.tg_store.proofs.ParkLaws.{each_edge, listed_edges, same_again, when_refused}
use Rattle.tg_store.proofs.unparking.take_out.Goals as goal

pub pour-requires-clause-apart : goal.pour-requires-clause-apart
pour-requires-clause-apart g c =
    let content = content_of c.args.heap.now in
    let p = parking_of c.args.sides.now in
    let may : Permits content.label content.value p.host (take_key_of p) = permits-no_denial content.label content.value p.host (take_key_of p) c.requires.served in
    λ is. may.1 (sym is)

pub pour-requires-clause-edges : goal.pour-requires-clause-edges
pour-requires-clause-edges g c =
    let content = content_of c.args.heap.now in
    let a = c.args.sides.now.account in
    subst (λ (es : List (ℕ × RightSet)). All (λ (e : ℕ × RightSet). HasEdge content.label a e.0) es) (sym c.as_slice.ensures)
    (each_edge content.label a c.args.row.now (listed_edges content a c.args.row.now c.requires.row))

pub drop_rights-requires : goal.drop_rights-requires
drop_rights-requires g c =
    let host = c.args.sides.now.host in
    (c.in_ok-pour.ensures.kept.vertices host.name host.place c.requires.host.vertex).object

pub enter_taking-requires : goal.enter_taking-requires
enter_taking-requires g c = omega (arith, c.requires.room, ap (λ (es : List (ℕ × RightSet)). length es) c.as_slice-2.ensures)

pub returns-in_err-pour-clause-refused : goal.returns-in_err-pour-clause-refused
returns-in_err-pour-clause-refused g c =
    let content = content_of c.args.heap.now in
    let s = c.args.sides.now in
    let unused = c.in_ok-unused.ensures.unused c.if-not-unused.false in
    let again : IsGivenUpAgain content (content_of c.pour.new.heap) s.user.name c.args.row.now =
    subst (λ (es : List (ℕ × RightSet)). IsGivenUpAgain content (content_of c.pour.new.heap) s.user.name es) c.as_slice.ensures c.in_err-pour.ensures.refused in
    when_refused c.from_residual-in_err-pour.result (record {
      entries = refl;
      content = same_again content (content_of c.pour.new.heap) s.user.name (content.label s.account) c.args.row.now (listed_edges content s.account c.args.row.now c.requires.row) unused.empty again;
      subjects = ap (λ (subjects : List Subject). names_of subjects) c.in_err-pour.ensures.kept.subjects;
      limits = c.in_err-pour.ensures.kept.limits;
    })

pub returns-clause-comes : goal.returns-clause-comes
returns-clause-comes g c =
    let content = content_of c.args.heap.now in
    let s = c.args.sides.now in
    let host = s.host in
    let middle = content_of c.pour.new.heap in
    let new = content_of c.drop_rights.new.self in
    let there = c.in_ok-pour.ensures.kept.vertices host.name host.place c.requires.host.vertex in
    record {
      served = c.requires.served;
      unused = c.in_ok-unused.ensures.unused c.if-not-unused.false;
      row = c.args.row.now;
      is_row = c.requires.row;
      count = ap (λ (es : List (ℕ × RightSet)). length es) c.as_slice-3.ensures;
      entries = c.enter_taking.ensures.entries ∙ (λ i. c.args.journal.now.entries ++ taking_all (c.parking.ensures i) (c.as_slice-2.ensures i) (c.requires.held i));
      middle = middle;
      filled = subst (λ (es : List (ℕ × RightSet)). IsGiven content middle s.user.name es) c.as_slice.ensures c.in_ok-pour.ensures.poured;
      left = subst (λ (held : RightSet). IsContent new (IsNamed middle) (without_rights middle.label host.name s.account held) middle.value) c.requires.held
          (subst (λ (x : ℕ). IsContent new (IsNamed middle) (without_rights middle.label x s.account c.args.account.held) middle.value) there.named c.drop_rights.ensures.dropped);
      subjects = ap (λ (subjects : List Subject). names_of subjects) (c.drop_rights.ensures.kept.subjects ∙ c.in_ok-pour.ensures.kept.subjects);
      limits = c.drop_rights.ensures.kept.limits ∙ c.in_ok-pour.ensures.kept.limits;
    }

pub returns-then-not-unused-clause-in_use : goal.returns-then-not-unused-clause-in_use
returns-then-not-unused-clause-in_use g c = λ _. c.in_ok-unused.ensures.in_use c.if-not-unused.true
