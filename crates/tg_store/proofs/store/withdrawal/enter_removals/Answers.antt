use Rattle.std.proofs.Common.{ℕ, ◌≡◌, ◌∙◌, ◌++◌, ◌∷◌, ◌+◌, [], List, ap, map, sym, subst, take, arith}
use Rattle.std.specs.List.{Contains}
use Rattle.std.proofs.lemmas.List.{append_assoc, map_more, take_all}
use Rattle.tg_rights.specs.RightSet.{RightSet}
use Rattle.tg_model.specs.declared.command.Command.TheVariants.{Remove}
use Rattle.tg_model.specs.Graph.{ProtectionGraph, without_rights}
use Rattle.tg_model.specs.Rules.{denial_of}
use Rattle.tg_journal.specs.declared.entry.Entry.{Entry}
use Rattle.tg_journal.specs.History.{IsLegal, graph_after}
use Rattle.tg_journal.proofs.HistoryLaws.{IsLegal-cut, graph_after-push}
use Rattle.tg_rows.specs.Content.{IsContent, IsNamed}
use Rattle.tg_graph.specs.Heap.{IsActive, content_of}
use Rattle.tg_graph.specs.Standing.{IsContentOf}
use Rattle.tg_graph.proofs.StandingLaws.{StandsFor-served, denial_of-stands}
use Rattle.tg_subjects.specs.Subjects.{names_of}
use Rattle.tg_subjects.specs.declared.subject.Subject.{Subject}
use Rattle.tg_store.specs.Counts.{refusal_told}
use Rattle.tg_store.specs.Withdrawing.{removal_over}
use Rattle.tg_store.proofs.LeaveLaws.{served}
use Rattle.tg_store.proofs.store.withdrawal.enter_removals.Goals as goal

-- an entry after those that were entered
one_more : (old now done : List Entry) (e : Entry) → now ≡ old ++ done → now ++ e ∷ [] ≡ old ++ (done ++ e ∷ [])
one_more old now done e is = ap (λ es. es ++ e ∷ []) is ∙ append_assoc old done (e ∷ [])

pub worker_place-place-requires : goal.worker_place-place-requires
worker_place-place-requires g c =
    let e = c.removed-item.result in
    let active : IsActive c.args.heap.now e.0 = subst (λ (d : ℕ × RightSet). IsActive c.args.heap.now d.0) (sym c.removed-item.is) (c.requires.active c.loop-removed.removed-index e c.loop-removed-test.true) in
    subst (λ (subjects : List Subject). Contains (names_of subjects) e.0) (sym c.loop-removed.invariant.kept.subjects) active

pub drop_rights-requires : goal.drop_rights-requires
drop_rights-requires g c = c.worker_place-place.ensures.vertex.object

pub loop-removed-preserved : goal.loop-removed-preserved
loop-removed-preserved g c =
    let y = c.args.target in
    let es = c.args.removals.now in
    let i = c.loop-removed.removed-index in
    let e = c.removed-item.result in
    let done = map (removal_over y) (take i es) in
    let invariant = c.loop-removed.invariant in
    let before = content_of c.loop-removed.heap in
    let after = content_of c.drop_rights.new.self in
    let more : map (removal_over y) (take (i + 1) es) ≡ done ++ removal_over y e ∷ [] = map_more (removal_over y) es i e c.loop-removed-test.true ∙ ap (λ d. done ++ removal_over y d ∷ []) (sym c.removed-item.is) in
    let old = c.args.journal.now.entries in
    let there = c.worker_place-place.ensures.vertex in
    record {
      entries = c.push.ensures.entries ∙ ap (λ (n : Entry). c.loop-removed.journal.entries ++ n ∷ []) c.removal.ensures ∙ one_more old c.loop-removed.journal.entries done (removal_over y e) invariant.entries ∙ ap (λ xs. old ++ xs) (sym more);
      start = c.push.ensures.start ∙ invariant.start;
      spare = omega (arith, c.push.ensures.spare, invariant.spare);
      kept = record {
        subjects = c.drop_rights.ensures.kept.subjects ∙ invariant.kept.subjects;
        limits = c.drop_rights.ensures.kept.limits ∙ invariant.kept.limits;
        vertices = λ name place at. c.drop_rights.ensures.kept.vertices name place (invariant.kept.vertices name place at);
      };
      stands = λ h stands legal.
          let cut = IsLegal-cut h done (removal_over y e ∷ []) (subst (λ (xs : List Entry). IsLegal h xs) more legal) in
          let k : ProtectionGraph = graph_after h done in
          let standing = invariant.stands h stands cut.0 in
          let command = Remove e.1 y in
          let none = denial_of-stands before k standing e.0 command cut.1.0.subject ∙ served (denial_of k.label k.value e.0 command) cut.1.0.reply in
          subst (λ (k : ProtectionGraph). IsContentOf after k)
          (sym (ap (λ (xs : List Entry). graph_after h xs) more ∙ graph_after-push h done (removal_over y e)))
          (StandsFor-served before after k standing e.0 cut.1.0.subject command none
          (subst (λ (a : ℕ). IsContent after (IsNamed before) (without_rights before.label a y e.1) before.value) there.named c.drop_rights.ensures.dropped));
    }

pub push-requires : goal.push-requires
push-requires g c = record { room = omega (arith, c.requires.room, c.loop-removed.invariant.spare, c.loop-removed-test.true); told = ap (λ (n : Entry). refusal_told n.reply) c.removal.ensures }

pub returns-clause-entries : goal.returns-clause-entries
returns-clause-entries g c = c.loop-removed.invariant.entries ∙ ap (λ xs. c.args.journal.now.entries ++ map (removal_over c.args.target) xs) (take_all c.loop-removed.removed-index c.args.removals.now (omega (arith, c.loop-removed-test.false)))

pub returns-clause-subjects : goal.returns-clause-subjects
returns-clause-subjects g c = ap (λ (subjects : List Subject). names_of subjects) c.loop-removed.invariant.kept.subjects

pub returns-clause-stands : goal.returns-clause-stands
returns-clause-stands g c = λ h stands legal.
    let all = take_all c.loop-removed.removed-index c.args.removals.now (omega (arith, c.loop-removed-test.false)) in
    subst (λ (xs : List (ℕ × RightSet)). IsLegal h (map (removal_over c.args.target) xs) → IsContentOf (content_of c.loop-removed.heap) (graph_after h (map (removal_over c.args.target) xs))) all (c.loop-removed.invariant.stands h stands) legal
