use Rattle.std.proofs.Common.{refl, subst}
use Rattle.tg_store.specs.Store.{graph_of_store}
use Rattle.tg_shared.specs.Sessions.{AreFresh, SharedStart, subjects_at}
use Rattle.tg_threads.proofs.race.share.Goals as goal

pub run_shared-requires-clause-fresh : goal.run_shared-requires-clause-fresh
run_shared-requires-clause-fresh g c = λ lifetimes outlive.
    let sessions = c.in_ok-shared.shared.sessions.items in
    subst (λ (s : SharedStart). AreFresh (subjects_at s) sessions) c.requires.shareable.start
    (c.in_ok-shared.ensures.sessions (graph_of_store c.args.opened.store) refl)
