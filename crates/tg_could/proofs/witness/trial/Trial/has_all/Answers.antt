use Rattle.std.proofs.Common.{◌≡◌, true, sym, ◌∙◌}
use Rattle.tg_rights.specs.RightSet.{holds_all}
use Rattle.tg_rights.proofs.RightLaws.{has-holds_all, holds_all-each}
use Rattle.tg_could.proofs.TurnLaws.{found_more}
use Rattle.tg_could.proofs.witness.trial.Trial.has_all.Goals as goal

pub loop-preserved : goal.loop-preserved
loop-preserved c label first later q h =
    found_more label c.args.from c.args.to c.loop.found c.rights_between.result c.union-found.result c.in-Some-edge.edge c.union-found.ensures
    (c.loop.invariant label first later) c.rights_between.ensures (c.in-Some-edge.ensures label first later) q h

pub returns-then-contains : goal.returns-then-contains
returns-then-contains c t label first later =
    let held : holds_all c.union-found.result c.args.rights ≡ true = sym c.contains.ensures ∙ c.if-contains.true in
    holds_all-each (label c.args.from c.args.to) c.args.rights
    (λ q h.
    found_more label c.args.from c.args.to c.loop.found c.rights_between.result c.union-found.result c.in-Some-edge.edge c.union-found.ensures
    (c.loop.invariant label first later) c.rights_between.ensures (c.in-Some-edge.ensures label first later) q
    (has-holds_all c.union-found.result c.args.rights held q h))
