use Rattle.std.proofs.Common.{◌≡◌, ◌∙◌, ◌++◌, ◌∷◌, ◌+◌, [], ℕ, List, not, ap, sym, take}
use Rattle.std.specs.Prelude.{is_some}
use Rattle.std.proofs.lemmas.List.{take_all, take_more}
use Rattle.tg_rights.specs.RightSet.{RightSet, is_none_held, label_of}
use Rattle.tg_store.specs.Holding.{common}
use Rattle.tg_store.specs.Inner.Reaching.{names_sharing}
use Rattle.tg_store.proofs.HoldingLaws.{label_there, names_sharing-push, names_sharing-same}
use Rattle.tg_store.proofs.store.holders.holders_in.Goals.{then-is_some+in_ok-push, else-is_some}
use Rattle.tg_store.proofs.store.holders.holders_in.Goals as goal

pub loop-edge-preserved : goal.loop-edge-preserved
loop-edge-preserved c =
    let es = c.args.edges.now in
    let i = c.loop-edge.edge-index in
    let e = c.edge-item.result in
    let rights = c.args.rights in
    let more : take i es ++ e ∷ [] ≡ take (i + 1) es =
    sym (take_more es i e c.loop-edge-test.true ∙ ap (λ d. take i es ++ d ∷ []) (sym c.edge-item.is)) in
    let shares : not (is_none_held (common rights e.1)) ≡ c.is_some.result =
    sym (c.is_some.ensures ∙ ap is_some (c.rights_shared.ensures ∙ ap (λ (s : RightSet). label_of (common rights s)) c.rights.ensures.same) ∙ label_there (common rights e.1)) in
    elim c.if-is_some.branch [
      | then-is_some+in_ok-push w ↦
          ap (λ v. v.items) w.names-is ∙ w.in_ok-push.ensures.items ∙ ap (λ (ns : List ℕ). ns ++ e.0 ∷ []) c.loop-edge.invariant
          ∙ sym (names_sharing-push rights (take i es) e (shares ∙ w.if-is_some.true)) ∙ ap (names_sharing rights) more
      | else-is_some w ↦
          ap (λ v. v.items) w.names-is ∙ c.loop-edge.invariant
          ∙ sym (names_sharing-same rights (take i es) e (shares ∙ w.if-is_some.false)) ∙ ap (names_sharing rights) more
    ]

pub returns : goal.returns
returns c = c.loop-edge.invariant ∙ ap (names_sharing c.args.rights) (take_all _ _ c.loop-edge-test.false)
