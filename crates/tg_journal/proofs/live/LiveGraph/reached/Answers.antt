use Rattle.std.proofs.Common.{◌∙◌, ◌<◌, ℕ, [], get_or, map, nat_eq, ap, subst, arith}
use Rattle.indexmap.specs.IndexSet.{insert_all}
use Rattle.tg_model.specs.Graph.{HasEdge}
use Rattle.tg_journal.specs.Live.{KeptGraph, graph_kept, label_between}
use Rattle.tg_journal.proofs.ReachedLaws.{search_begins, search_goes_on, search_ends, few_names}
use Rattle.tg_journal.proofs.live.LiveGraph.reached.Goals as goal

-- targets were made
abbrev Targets : KeptGraph → Type 0
Targets k = (x y : ℕ) → HasEdge (label_between k.vertices) x y → y < k.made

pub loop-next-init : goal.loop-next-init
loop-next-init c =
    search_begins (graph_kept c.args.self.now) c.add_names.new.names.keys
    (c.in_ok-add_names.ensures ∙ ap (λ ks. insert_all nat_eq ks c.deref.result.now) c.new-names.ensures.empty
    ∙ ap (insert_all nat_eq []) (c.deref.ensures.value ∙ ap (λ (k : KeptGraph). k.subjects) c.self.view_is))

pub loop-next-smaller : goal.loop-next-smaller
loop-next-smaller c =
    let k = c.args.self.now in
    let few = few_names (graph_kept k) (subst Targets c.self.view_is c.self.invariant) c.loop-next.names.keys c.loop-next.next c.loop-next.invariant c.len.ensures.unique in
    omega (arith, few, c.loop-next-test.true, c.len.ensures.len)

pub loop-next-preserved : goal.loop-next-preserved
loop-next-preserved c =
    let at = get_or c.as_slice.result.now c.loop-next.next 0 in
    search_goes_on (graph_kept c.args.self.now) c.loop-next.names.keys c.add_targets.new.names.keys (map (λ e. e.0) c.as_slice-in-loop-next.result.now) c.loop-next.next c.loop-next.invariant
    (omega (arith, c.loop-next-test.true, c.len.ensures.len))
    (rw (← c.self.view_is, ← c.as_slice.ensures.keys, c.as_slice-in-loop-next.ensures) (c.in_ok-row.ensures.targets c.self.inside.made (c.self.invariant at)))
    c.in_ok-add_targets.ensures

pub returns : goal.returns
returns c = search_ends (graph_kept c.args.self.now) c.loop-next.names.keys c.loop-next.next c.loop-next.invariant (omega (arith, c.loop-next-test.false, c.len.ensures.len))
