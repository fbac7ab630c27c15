use Rattle.std.proofs.Common.{subst, ap, inl, inr, Ok, Err, refl, sym}
use Rattle.tg_model.specs.declared.value.Value.{Value}
use Rattle.tg_model.specs.Graph.{ProtectionGraph, IsSubject}
use Rattle.tg_store.specs.Store.{graph_of_store}
use Rattle.tg_c.proofs.MakeLaws.{no_worker_is_no_cell, no_worker_is_no_subject, no_worker_is_no_vertex, not_both, ok_is_no_refusal, same_refusal, unchanged, want_is_no_cell, want_is_no_subject, want_is_no_vertex, want_is_no_worker}
use Rattle.tg_c.specs.Calls.{Makes}
use Rattle.tg_c.proofs.law_store.LawStore.make.Goals as goal

-- memory runs out, and who isn't a worker is told so
pub returns-in_default : goal.returns-in_default
returns-in_default c = record {
  entry = tt;
  made = tt;
  no_such_worker = λ g stands. (
    (λ is. subst (λ (h : ProtectionGraph). ¬ IsSubject h c.args.worker) stands (λ subject. let holds = (c.is_subject.ensures (graph_of_store c.args.self.now.store) refl).1 subject in not_both c.is_subject.result holds c.if-is_subject.false)),
    (λ none. refl),
  );
  no_more = λ g stands is. absurd (no_worker_is_no_vertex is);
  exhausted = λ g stands subject full.
      absurd (let holds = (c.is_subject.ensures (graph_of_store c.args.self.now.store) refl).1 (subst (λ (h : ProtectionGraph). IsSubject h c.args.worker) (sym stands) subject) in not_both c.is_subject.result holds c.if-is_subject.false);
  no_more_entry = λ is. absurd (no_worker_is_no_vertex is);
  full = λ g stands is. absurd (no_worker_is_no_cell is);
  too_many = λ g stands is. absurd (no_worker_is_no_subject is);
  crowded = λ subjects g stands subject room many.
      absurd (let holds = (c.is_subject.ensures (graph_of_store c.args.self.now.store) refl).1 (subst (λ (h : ProtectionGraph). IsSubject h c.args.worker) (sym stands) subject) in not_both c.is_subject.result holds c.if-is_subject.false);
  too_many_entry = λ is. absurd (no_worker_is_no_subject is);
  refused = λ _ _. unchanged c.args.self.now.store;
  same_graph = λ g stands. stands;
  opening = refl;
  limits = refl;
  collections = refl;
}

-- a worker is told that memory runs out
pub returns-then-is_subject : goal.returns-then-is_subject
returns-then-is_subject c = record {
  entry = tt;
  made = tt;
  no_such_worker = λ g stands. (
    (λ is. absurd (want_is_no_worker is)),
    (λ none. absurd (none (subst (λ (h : ProtectionGraph). IsSubject h c.args.worker) stands ((c.is_subject.ensures (graph_of_store c.args.self.now.store) refl).0 c.if-is_subject.true)))),
  );
  no_more = λ g stands is. absurd (want_is_no_vertex is);
  exhausted = λ g stands subject full. inr refl;
  no_more_entry = λ is. absurd (want_is_no_vertex is);
  full = λ g stands is. absurd (want_is_no_cell is);
  too_many = λ g stands is. absurd (want_is_no_subject is);
  crowded = λ subjects g stands subject room many. inr refl;
  too_many_entry = λ is. absurd (want_is_no_subject is);
  refused = λ _ _. unchanged c.args.self.now.store;
  same_graph = λ g stands. stands;
  opening = refl;
  limits = refl;
  collections = refl;
}

pub returns-in-Ok-make : goal.returns-in-Ok-make
returns-in-Ok-make c =
    let told = c.in-Ok-make.ensures in
    subst (λ (v : Value). Makes c.args.kind c.args.worker c.args.label v c.args.self.now.store c.make.new.self (Ok c.in-Ok-make.name)) c.in-Ok.ensures.made (record {
      entry = told.entry;
      made = told.made;
      no_such_worker = λ g stands. ((λ is. absurd (ok_is_no_refusal is)), λ none. absurd ((told.refusals.no_such_worker g stands).1 none));
      no_more = λ g stands is. absurd (ok_is_no_refusal is);
      exhausted = λ g stands subject full. absurd (told.refusals.exhausted g stands subject full);
      no_more_entry = λ is. absurd (ok_is_no_refusal is);
      full = λ g stands is. absurd (ok_is_no_refusal is);
      too_many = λ g stands is. absurd (ok_is_no_refusal is);
      crowded = λ subjects g stands subject room many. absurd (told.crowded subjects g stands subject room many);
      too_many_entry = λ is. absurd (ok_is_no_refusal is);
      refused = tt;
      same_graph = λ g stands. tt;
      opening = told.refusals.opening;
      limits = told.refusals.limits;
      collections = told.refusals.collections;
    })

pub returns-in-Err : goal.returns-in-Err
returns-in-Err c =
    let told = c.in-Err.ensures in
    subst (λ (v : Value). Makes c.args.kind c.args.worker c.args.label v c.args.self.now.store c.make.new.self (Err c.in-Err.refused.why)) c.in-Ok.ensures.made (record {
      entry = tt;
      made = tt;
      no_such_worker = λ g stands. ((λ is. (told.refusals.no_such_worker g stands).0 (same_refusal is)), λ none. ap Err ((told.refusals.no_such_worker g stands).1 none));
      no_more = λ g stands is. told.refusals.no_more g stands (same_refusal is);
      exhausted = λ g stands subject full. elim (told.refusals.exhausted g stands subject full) [ inl why ↦ inl (ap Err why) | inr why ↦ inr (ap Err why) ];
      no_more_entry = λ is. told.no_more_entry (same_refusal is);
      full = λ g stands is. told.refusals.full g stands (same_refusal is);
      too_many = λ g stands is. told.too_many g stands (same_refusal is);
      crowded = λ subjects g stands subject room many. elim (told.crowded subjects g stands subject room many) [ inl why ↦ inl (ap Err why) | inr why ↦ inr (ap Err why) ];
      too_many_entry = λ is. told.too_many_entry (same_refusal is);
      refused = told.refused;
      same_graph = told.refusals.same_graph;
      opening = told.refusals.opening;
      limits = told.refusals.limits;
      collections = told.refusals.collections;
    })
