-- The host holds grant over the account, so the heap has it. What is entered is what was done.
use Rattle.std.proofs.Common.{◌∙◌, ◌++◌, ◌∷◌, [], ℕ, List, ap, refl, sym, subst, length, map, arith}
use Rattle.tg_rights.specs.RightSet.{RightSet, only}
use Rattle.tg_rights.specs.declared.Right.TheVariants as right
use Rattle.tg_model.specs.Graph.{HasEdge, without_subject}
use Rattle.tg_model.specs.Rules.{Permits}
use Rattle.tg_model.proofs.AllowedLaws.{permits-no_denial}
use Rattle.tg_model.proofs.ReachLaws.{HasEdge-holds}
use Rattle.std.specs.List.{All}
use Rattle.tg_graph.specs.Heap.{content_of}
use Rattle.tg_subjects.specs.Subjects.{names_of}
use Rattle.tg_subjects.specs.declared.subject.Subject.{Subject}
use Rattle.tg_store.specs.declared.parking.Parking.{Parking}
use Rattle.tg_store.specs.Leaving.{removal, retiring}
use Rattle.tg_store.specs.Parking.{filling, key_of}
use Rattle.tg_store.specs.Inner.Parking.{IsGiven, IsGivenUpAgain, parking_of}
use Rattle.tg_store.proofs.ParkLaws.{each_edge, listed_edges, same_again, subject_kept, when_refused}
use Rattle.tg_store.proofs.parking.serve_parking.Goals as goal

pub find_account-account-requires-clause-edge : goal.find_account-account-requires-clause-edge
find_account-account-requires-clause-edge g c =
    let content = content_of c.args.heap.now in
    let p = parking_of c.args.sides.now in
    let may : Permits content.label content.value p.host (key_of p) = permits-no_denial content.label content.value p.host (key_of p) c.requires.served in
    HasEdge-holds content.label p.host p.account (only right.G) may.4 refl

pub pour-requires-clause-apart : goal.pour-requires-clause-apart
pour-requires-clause-apart g c =
    let content = content_of c.args.heap.now in
    let p = parking_of c.args.sides.now in
    let may : Permits content.label content.value p.host (key_of p) = permits-no_denial content.label content.value p.host (key_of p) c.requires.served in
    may.1

pub pour-requires-clause-edges : goal.pour-requires-clause-edges
pour-requires-clause-edges g c =
    let content = content_of c.args.heap.now in
    let u = c.args.sides.now.user.name in
    subst (λ (es : List (ℕ × RightSet)). All (λ (e : ℕ × RightSet). HasEdge content.label u e.0) es) (sym c.as_slice.ensures)
    (each_edge content.label u c.args.row.now (listed_edges content u c.args.row.now c.requires.row))

pub enter_filling-requires : goal.enter_filling-requires
enter_filling-requires g c = omega (arith, c.requires.room, ap (λ (es : List (ℕ × RightSet)). length es) c.as_slice-2.ensures)

pub leave_heap-requires-clause-subject : goal.leave_heap-requires-clause-subject
leave_heap-requires-clause-subject g c = subject_kept c.args.heap.now c.pour.new.heap c.args.sides.now.user c.in_ok-pour.ensures.kept c.requires.user

pub leave_heap-requires-clause-room : goal.leave_heap-requires-clause-room
leave_heap-requires-clause-room g c = omega (arith, c.requires.room, c.enter_filling.ensures.spare, ap (λ (es : List (ℕ × RightSet)). length es) c.as_slice-2.ensures)

pub returns-in_err-pour-clause-refused : goal.returns-in_err-pour-clause-refused
returns-in_err-pour-clause-refused g c =
    let heap = c.args.heap.now in
    let content = content_of heap in
    let s = c.args.sides.now in
    let unused = c.in_ok-unused.ensures.unused c.if-not-unused.false in
    let again : IsGivenUpAgain content (content_of c.pour.new.heap) s.account c.args.row.now =
    subst (λ (es : List (ℕ × RightSet)). IsGivenUpAgain content (content_of c.pour.new.heap) s.account es) c.as_slice.ensures c.in_err-pour.ensures.refused in
    when_refused c.from_residual-in_err-pour.result (record {
      entries = refl;
      content = same_again content (content_of c.pour.new.heap) s.account (content.label s.user.name) c.args.row.now (listed_edges content s.user.name c.args.row.now c.requires.row) unused.empty again;
      subjects = ap (λ (subjects : List Subject). names_of subjects) c.in_err-pour.ensures.kept.subjects;
      limits = c.in_err-pour.ensures.kept.limits;
    })

pub returns-clause-comes : goal.returns-clause-comes
returns-clause-comes g c =
    let heap = c.args.heap.now in
    let content = content_of heap in
    let s = c.args.sides.now in
    let p : Parking = parking_of s in
    let row = c.args.row.now in
    let filled : IsGiven content (content_of c.pour.new.heap) s.account row =
    subst (λ (es : List (ℕ × RightSet)). IsGiven content (content_of c.pour.new.heap) s.account es) c.as_slice.ensures c.in_ok-pour.ensures.poured in
    record {
      served = c.requires.served;
      unused = c.in_ok-unused.ensures.unused c.if-not-unused.false;
      count = ap (λ (es : List (ℕ × RightSet)). length es) c.as_slice-3.ensures;
      entries = c.leave_heap.ensures.entries ∙ (λ i. (c.enter_filling.ensures.entries ∙ (λ j. c.args.journal.now.entries ++ filling (c.parking.ensures j) (c.as_slice-2.ensures j))) i ++ map (removal p.user) row ++ retiring p.user ∷ []);
      middle = content_of c.pour.new.heap;
      filled = filled;
      left = c.leave_heap.ensures.stands;
      subjects = c.leave_heap.ensures.subjects ∙ ap (λ (subjects : List Subject). without_subject (names_of subjects) p.user) c.in_ok-pour.ensures.kept.subjects;
      limits = c.leave_heap.ensures.limits ∙ c.in_ok-pour.ensures.kept.limits;
    }

pub returns-then-not-unused-clause-in_use : goal.returns-then-not-unused-clause-in_use
returns-then-not-unused-clause-in_use g c = λ _. c.in_ok-unused.ensures.in_use c.if-not-unused.true
