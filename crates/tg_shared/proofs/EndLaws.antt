-- Whom the keeper ended.
use Rattle.std.proofs.Common.{◌≡◌, ◌∙◌, ℕ, List, [], ◌∷◌, ◌++◌, ap, map, subst, sym}
use Rattle.tg_rights.specs.RightSet.{RightSet}
use Rattle.tg_model.specs.Graph.{ProtectionGraph, IsSubject, listing_of}
use Rattle.tg_journal.specs.History.{IsLegal}
use Rattle.tg_passes.specs.declared.signed.Maker.TheVariants.{Keeper}
use Rattle.tg_passes.specs.Passes.{sign_all}
use Rattle.tg_store.specs.Leaving.{HasLeft, leaving, left_by, removal, retiring}
use Rattle.tg_store.specs.Store.{StoreState, graph_of_store}
use Rattle.tg_shared.specs.Laws.{EndsOnly}
use Rattle.tg_shared.specs.Sessions.{HasEnded, KeeperState, SharedStart, graph_seen}
use Rattle.tg_shared.proofs.Knowing.{graph_is}

-- who leaves by legal entries is a subject
subject_leaves : (g : ProtectionGraph) (x : ℕ) (row : List (ℕ × RightSet)) → IsLegal g (map (removal x) row ++ retiring x ∷ []) → IsSubject g x
subject_leaves g x [] legal = legal.0.subject
subject_leaves g x (e ∷ row) legal = legal.0.subject

pub named_ended : (start : SharedStart) (old new : KeeperState) (worker count : ℕ) → HasEnded start worker old new count
    → EndsOnly start new.seen worker
named_ended start old new worker count ended =
    let s : StoreState = ended.left.0 in
    let next : StoreState = ended.left.3.1.1.0 in
    let graph : graph_of_store s ≡ graph_seen start ended.before = graph_is start s ended.before ended.left.3.0 ended.left.1 in
    let then : graph_of_store next ≡ graph_seen start new.seen = graph_is start next new.seen ended.left.3.1.1.3.0 ended.left.3.1.1.1 in
    let left : HasLeft worker s next = ended.left.3.1.1.3.1 in
    record {
      before = ended.before;
      begins = (sign_all Keeper (leaving (graph_seen start ended.before) worker), ended.seen);
      subject = subst (λ (g : ProtectionGraph). IsSubject g worker) graph (subject_leaves (graph_of_store s) worker (listing_of (graph_of_store s).label (graph_of_store s).made worker) ended.left.3.1.0.legal);
      left = sym then ∙ left.graph ∙ ap (λ (g : ProtectionGraph). left_by g worker) graph;
    }
