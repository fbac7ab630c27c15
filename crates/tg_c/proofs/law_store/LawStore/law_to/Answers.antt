use Rattle.std.proofs.Common.{refl, rules, subst}
use Rattle.tg_model.specs.Graph.{ProtectionGraph, IsSubject}
use Rattle.tg_store.specs.Store.{graph_of_store}
use Rattle.tg_c.proofs.law_store.LawStore.law_to.Goals as goal

-- who isn't a worker is told so
pub returns-then-not-is_subject : goal.returns-then-not-is_subject
returns-then-not-is_subject c =
    let none : IsSubject (graph_of_store c.args.self.now.store) c.args.worker → ⊥ = λ subject. let holds = (c.is_subject.ensures (graph_of_store c.args.self.now.store) refl).1 subject in cc (holds, c.if-not-is_subject.true) in
    record {
      same = refl;
      law = λ g stands. tt;
      no_such_worker = λ g stands. (λ _. subst (λ (h : ProtectionGraph). ¬ IsSubject h c.args.worker) stands none, λ _. refl);
      refused = refl;
    }

pub returns : goal.returns
returns c =
    let there : IsSubject (graph_of_store c.args.self.now.store) c.args.worker = (c.is_subject.ensures (graph_of_store c.args.self.now.store) refl).0 (search rules) in
    record {
      same = refl;
      law = c.law.ensures;
      no_such_worker = λ g stands. (λ is. absurd (cc is), λ none. absurd (none (subst (λ (h : ProtectionGraph). IsSubject h c.args.worker) stands there)));
      refused = tt;
    }
