use Rattle.std.proofs.Common.{ℕ, ◌≡◌, ◌∙◌, ◌++◌, ◌∷◌, ◌+◌, [], List, length, ap, map, sym, subst, refl, take, arith}
use Rattle.std.proofs.lemmas.List.{append_assoc, map_more, take_all}
use Rattle.tg_rights.specs.RightSet.{RightSet}
use Rattle.tg_model.specs.declared.command.Command.TheVariants.{Remove, Retire}
use Rattle.tg_model.specs.Graph.{ProtectionGraph, without_rights}
use Rattle.tg_model.specs.Rules.{denial_of}
use Rattle.tg_journal.specs.declared.entry.Entry.{Entry}
use Rattle.tg_journal.specs.History.{IsLegal, graph_after}
use Rattle.tg_journal.proofs.HistoryLaws.{IsLegal-cut, graph_after-push}
use Rattle.tg_rows.specs.Content.{Content, IsContent, IsNamed, IsSameContent}
use Rattle.tg_rows.specs.Graph.{content_in}
use Rattle.tg_graph.specs.Heap.{content_of}
use Rattle.tg_graph.specs.Standing.{IsContentOf}
use Rattle.tg_graph.proofs.StandingLaws.{IsSameContent-self, StandsFor-served, denial_of-stands}
use Rattle.tg_subjects.specs.Subjects.{names_of, without}
use Rattle.tg_subjects.specs.declared.subject.Subject.{Subject}
use Rattle.tg_rules.proofs.SubjectNames.{names_without}
use Rattle.tg_store.specs.Counts.{refusal_told}
use Rattle.tg_store.specs.Leaving.{removal}
use Rattle.tg_store.proofs.LeaveLaws.{served, still_subject}
use Rattle.tg_store.proofs.leaving.leave_heap.Goals as goal

-- an entry after those that were entered
one_more : (old now done : List Entry) (e : Entry) → now ≡ old ++ done → now ++ e ∷ [] ≡ old ++ (done ++ e ∷ [])
one_more old now done e is = ap (λ es. es ++ e ∷ []) is ∙ append_assoc old done (e ∷ [])

pub loop-edge-preserved : goal.loop-edge-preserved
loop-edge-preserved g c =
    let x = c.args.subject.name in
    let es = c.as_slice-edge-items.result.now in
    let i = c.loop-edge.edge-index in
    let e = c.edge-item.result in
    let done = map (removal x) (take i es) in
    let invariant = c.loop-edge.invariant in
    let before = content_of c.loop-edge.heap in
    let after = content_of c.drop_rights.new.self in
    let more : map (removal x) (take (i + 1) es) ≡ done ++ removal x e ∷ [] = map_more (removal x) es i e c.loop-edge-test.true ∙ ap (λ y. done ++ removal x y ∷ []) (sym c.edge-item.is) in
    let old = c.args.journal.now.entries in
    let there = invariant.kept.vertices x c.args.subject.place c.requires.subject.vertex in
    record {
      entries = c.push.ensures.entries ∙ ap (λ (n : Entry). c.loop-edge.journal.entries ++ n ∷ []) c.removal.ensures ∙ one_more old c.loop-edge.journal.entries done (removal x e) invariant.entries ∙ ap (λ xs. old ++ xs) (sym more);
      start = c.push.ensures.start ∙ invariant.start;
      spare = omega (arith, c.push.ensures.spare, invariant.spare);
      kept = record {
        subjects = c.drop_rights.ensures.kept.subjects ∙ invariant.kept.subjects;
        limits = c.drop_rights.ensures.kept.limits ∙ invariant.kept.limits;
        vertices = λ name place at. c.drop_rights.ensures.kept.vertices name place (invariant.kept.vertices name place at);
      };
      stands = λ h stands legal.
          let cut = IsLegal-cut h done (removal x e ∷ []) (subst (λ (xs : List Entry). IsLegal h xs) more legal) in
          let k : ProtectionGraph = graph_after h done in
          let standing = invariant.stands h stands cut.0 in
          let command = Remove e.1 e.0 in
          let none = denial_of-stands before k standing x command cut.1.0.subject ∙ served (denial_of k.label k.value x command) cut.1.0.reply in
          subst (λ (k : ProtectionGraph). IsContentOf after k)
          (sym (ap (λ (xs : List Entry). graph_after h xs) more ∙ graph_after-push h done (removal x e)))
          (StandsFor-served before after k standing x cut.1.0.subject command none
          (subst (λ (a : ℕ). IsContent after (IsNamed before) (without_rights before.label a e.0 e.1) before.value) there.named c.drop_rights.ensures.dropped));
    }

pub push-requires : goal.push-requires
push-requires g c =
    let same = ap (λ es. length es) c.as_slice-edge-items.ensures in
    record { room = omega (arith, c.requires.room, c.loop-edge.invariant.spare, c.loop-edge-test.true, same); told = ap (λ (n : Entry). refusal_told n.reply) c.removal.ensures }

pub returns-clause-subjects : goal.returns-clause-subjects
returns-clause-subjects g c =
    ap names_of (c.retire.ensures.subjects ∙ ap (λ (subjects : List Subject). without subjects c.args.subject.name) c.loop-edge.invariant.kept.subjects)
    ∙ names_without c.args.heap.now.subjects c.args.subject.name

pub returns-clause-stands : goal.returns-clause-stands
returns-clause-stands g c = λ h stands subject legal.
    let x = c.args.subject.name in
    let row = c.args.row.now in
    let before : Content = content_of c.loop-edge.heap in
    let after : Content = content_of c.retire.new.self in
    let kept : after ≡ before = λ i. content_in (c.retire.ensures.table i).spaces (c.retire.ensures.payloads i) in
    let same : IsSameContent before after = subst (λ (new : Content). IsSameContent before new) (sym kept) (IsSameContent-self before) in
    let es = c.as_slice-edge-items.result.now in
    let all : take c.loop-edge.edge-index es ≡ row = take_all c.loop-edge.edge-index es (omega (arith, c.loop-edge-test.false)) ∙ c.as_slice-edge-items.ensures in
    let here = subst (λ (xs : List (ℕ × RightSet)). IsLegal h (map (removal x) xs) → IsContentOf before (graph_after h (map (removal x) xs))) all (c.loop-edge.invariant.stands h stands) legal in
    StandsFor-served before after (graph_after h (map (removal x) row)) here x (still_subject h x row subject) Retire refl same
