-- What is handed out is what the journal was; and the graph is as it was, since all entries are.
use Rattle.std.proofs.Common.{◌∙◌, ap, length, refl, subst}
use Rattle.tg_journal.specs.Journal.{Entries}
use Rattle.tg_store.specs.Store.{HandsOut, StoreState}
use Rattle.tg_store.proofs.StandLaws.{IsStore-handed}
use Rattle.tg_store.proofs.store.Store.take_journal.Goals as goal

pub invariant_of-self : goal.invariant_of-self
invariant_of-self g c =
    IsStore-handed (length c.self.inside.journal.entries) _ _ c.self.inside.made c.self.invariant (record { entries = c.take.ensures.rest.entries; handed = c.take.ensures.rest.start; opening = refl; heap = refl; collections = refl })

pub returns-clause-entries : goal.returns-clause-entries
returns-clause-entries g c = ap (λ (j : Entries). j.entries) c.take.ensures.part ∙ ap (λ (s : StoreState). s.entries) c.self.view_is

pub returns-clause-start : goal.returns-clause-start
returns-clause-start g c = ap (λ (j : Entries). j.start) c.take.ensures.part ∙ ap (λ (s : StoreState). s.handed) c.self.view_is

pub returns-clause-handed_out : goal.returns-clause-handed_out
returns-clause-handed_out g c =
    let new : StoreState = record { opening = c.self.inside.opening; entries = c.take.new.self.entries; handed = c.take.new.self.start; heap = c.self.inside.heap; collections = c.self.inside.collections } in
    subst (λ (s : StoreState). HandsOut s new) c.self.view_is (record { entries = c.take.ensures.rest.entries; handed = c.take.ensures.rest.start; opening = refl; heap = refl; collections = refl })
