use Rattle.std.proofs.Common.{◌≡◌, ◌∙◌, ℕ, List, refl, sym, ap, subst}
use Rattle.tg_journal.specs.declared.entry.Entry.{Entry}
use Rattle.tg_store.specs.Origin.{start_at}
use Rattle.tg_store.specs.Store.{IsFaithful, StoreState}
use Rattle.tg_c.specs.declared.auditor.audit.Audit.{Audit}
use Rattle.tg_c.specs.Audits.{FeedsJournal}
use Rattle.tg_c.specs.Calls.{state_in}
use Rattle.tg_c.proofs.FeedLaws.{finds_none}
use Rattle.tg_c.proofs.auditor.calls.feed_from.Goals as goal

pub returns : goal.returns
returns c =
    let old : Audit = c.args.audit.now in
    let new : Audit = c.feed-passed.new.self in
    let store : StoreState = state_in c.args.place.now in
    let same : c.deref.result.now.store ≡ store = ap (λ s. s.store) (c.deref.ensures ∙ c.in-Some.ensures.taken.1) in
    let part : FeedsJournal old new store.handed store.entries c.feed-passed.result =
    subst (λ (es : List Entry). FeedsJournal old new store.handed es c.feed-passed.result) (c.journal.ensures.entries ∙ ap (λ (s : StoreState). s.entries) same)
    (subst (λ (n : ℕ). FeedsJournal old new n c.journal.result.now.entries c.feed-passed.result) (c.journal.ensures.start ∙ ap (λ (s : StoreState). s.handed) same) c.feed-passed.ensures) in
    record {
      as_open = c.put.ensures.open ∙ sym c.in-Some.ensures.taken.0;
      not_open = λ closed. absurd (cc (closed, c.in-Some.ensures.taken.0));
      fed = λ _. record {
        answer = c.feed-passed.result;
        told = refl;
        same_store = ap (λ s. s.store) (c.put.ensures.opened ∙ c.in-Some.ensures.taken.1);
        part = part;
        own = λ stands is. finds_none (start_at store.opening) old.auditor new.auditor store.handed store.entries part.fed (subst (λ (s : StoreState). IsFaithful s) same c.journal.ensures.faithful).legal part.part stands (sym part.told ∙ is);
      };
    }
