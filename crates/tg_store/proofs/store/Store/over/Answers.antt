-- The store begins from the snapshot, and a collection keeps where it stands.
use Rattle.std.proofs.Common.{◌≡◌, ◌∙◌, ℕ, ap, subst, sym}
use Rattle.tg_model.specs.Picture.{Shown}
use Rattle.tg_journal.specs.Journal.{placeholders}
use Rattle.tg_store.specs.Counts.{no_collections}
use Rattle.tg_store.specs.Origin.{Origin, opened_again}
use Rattle.tg_store.specs.Store.{IsStore, StoreState}
use Rattle.tg_store.proofs.AgainLaws.{IsStore-again, reopens}
use Rattle.tg_store.proofs.store.Store.over.Goals as goal

pub begin-store-requires : goal.begin-store-requires
begin-store-requires g c =
    let p = c.args.snapshot.now in
    let journal = c.after-journal.result in
    let state : Origin → StoreState = λ o. record { opening = o; entries = journal.entries; handed = journal.start; heap = c.args.heap; collections = no_collections } in
    let before : journal.entries ≡ placeholders p = c.after-journal.ensures.entries in
    let made : c.made-made.result ≡ p.picture.made = c.made-made.ensures ∙ ap (λ (s : Shown). s.made) c.picture.ensures.picture in
    subst (λ (o : Origin). IsStore (state o) c.made-made.result) (sym c.again-origin.ensures)
    (subst (λ (n : ℕ). IsStore (state (opened_again c.args.opening p)) n) (sym made)
    (IsStore-again c.args.opening p c.requires.acts c.args.heap journal.entries journal.start no_collections c.workers.ensures.plan c.picture.ensures.accepted c.requires.limit before c.requires.stands c.requires.subjects))

pub returns : goal.returns
returns g c =
    let p = c.args.snapshot.now in
    let journal = c.after-journal.result in
    let before : journal.entries ≡ placeholders p = c.after-journal.ensures.entries in
    let held : journal.start ≡ p.entries = c.after-journal.ensures.start in
    let is = c.begin-store.ensures in
    reopens c.args.opening p c.begin-store.result c.collect.new.self c.collect.result c.args.heap.table.limits
    (ap (λ (s : StoreState). s.opening) is ∙ c.again-origin.ensures)
    (ap (λ (s : StoreState). s.entries) is ∙ before)
    (ap (λ (s : StoreState). s.handed) is ∙ held)
    (ap (λ (s : StoreState). s.heap.table.limits) is)
    (ap (λ (s : StoreState). s.collections) is)
    c.collect.ensures.history c.collect.ensures.swept
