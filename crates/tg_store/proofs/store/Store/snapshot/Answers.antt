-- The lists of a store are a snapshot.
use Rattle.std.proofs.Common.{◌∙◌, List, length, sym, ap, subst}
use Rattle.std.proofs.lemmas.Bool.{false≢true}
use Rattle.tg_journal.specs.declared.entry.Entry.{Entry}
use Rattle.tg_snapshot.specs.Snapshot.{Saved, IsSnapshotOf}
use Rattle.tg_snapshot.proofs.AcceptedLaws.{accepted}
use Rattle.tg_store.specs.Store.{StoreState, graph_of_store}
use Rattle.tg_store.proofs.SavedLaws.{store_can_be_saved}
use Rattle.tg_store.proofs.StandLaws.{sound_of}
use Rattle.tg_store.proofs.store.Store.snapshot.Goals as goal

pub unreachable-requires : goal.unreachable-requires
unreachable-requires g c =
    let store : StoreState = c.args.self.now in
    let faithful = c.journal.ensures.faithful in
    let shown = c.in_ok-picture.ensures in
    let can = store_can_be_saved store faithful in
    let is = accepted _ (graph_of_store store) (sound_of store faithful) (shown.lists c.len.result) shown.names shown.ends shown.held can.some_made can.within can.limit can.values in
    let h = c.new.ensures.accepted.1 is in
    false≢true (rw c.in-Err.is at h)

pub returns-clause-of : goal.returns-clause-of
returns-clause-of g c = λ graph stands.
    let kept = (rw c.in-Ok.is at c.new.ensures.kept) in
    let lists : Saved = record { picture = c.in_ok-picture.picture; vertices = c.in_ok-picture.vertices.items; entries = c.len.result } in
    subst (λ (p : Saved). IsSnapshotOf p graph) (sym kept)
    (subst (IsSnapshotOf lists) stands (c.in_ok-picture.ensures.lists c.len.result))

pub returns-clause-place : goal.returns-clause-place
returns-clause-place g c =
    let kept = (rw c.in-Ok.is at c.new.ensures.kept) in
    ap (λ (p : Saved). p.entries) kept ∙ c.len.ensures ∙ ap (λ (es : List Entry). length es) c.journal.ensures.entries
