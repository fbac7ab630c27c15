use Rattle.std.proofs.Common.{◌≡◌, ◌+◌, ◌<◌, ◌∙◌, ℕ, List, is_ok, sym, ap, subst}
use Rattle.std.specs.List.{Contains}
use Rattle.std.proofs.lemmas.Bool.{false≢true}
use Rattle.tg_rights.specs.RightSet.{RightSet, only}
use Rattle.tg_rights.proofs.RightLaws.{holds_all-only}
use Rattle.tg_model.specs.declared.edge.Edge.{Edge}
use Rattle.tg_model.specs.Graph.{ProtectionGraph}
use Rattle.tg_model.specs.Picture.{Holds}
use Rattle.tg_model.specs.Rules.{HoldsOver}
use Rattle.tg_could.specs.Turns.{AreTurns, after, with_names}
use Rattle.tg_could.specs.Inner.Trial.{Stands}
use Rattle.tg_could.proofs.witness.trial.Trial.lead_there.Goals as goal

pub returns : goal.returns
returns c t g picture if_ok =
    let stands = if_ok (ap is_ok c.in_ok-self.was) in
    let x = c.args.question.x in
    let y = c.args.question.y in
    let turns = c.args.witness.now.turns.now in
    let h : ProtectionGraph = with_names g c.args.witness.now.names in
    let first : c.made-first.result ≡ g.made = c.made-first.ensures ∙ sym picture.made in
    let start : Stands c.args.scene.now.picture.now.edges (record c.args.self.now { limit = c.in-Some.limit }) h = record {
      subjects = stands.subjects;
      made = stands.made;
      limit = ap (λ (n : ℕ). n + c.args.witness.now.names) picture.limit ∙ sym c.in-Some.ensures;
      first = stands.first;
      later = stands.later;
    } in
    let done = c.in_ok-taken.ensures c.if-not-taken.false h
    (subst (λ (es : List Edge). Stands es (record c.args.self.now { limit = c.in-Some.limit }) h) (sym c.edges-edges.ensures) start) in
    let label = (after h turns).label in
    let over : HoldsOver label x y (only c.args.question.right) =
    subst (λ (s : RightSet). HoldsOver label x y s) c.of.ensures (c.has_all.ensures t label done.1.first done.1.later) in
    let held : Holds label x c.args.question.right y = sym (holds_all-only (label x y) c.args.question.right) ∙ over in
    (subst (λ (n : ℕ). AreTurns (λ (p : ℕ). Contains c.args.scene.now.silent.now p × (p < n)) h turns) first done.0, held)

pub returns-in_default : goal.returns-in_default
returns-in_default c t = absurd (false≢true t)

pub returns-then-not-taken : goal.returns-then-not-taken
returns-then-not-taken c t = absurd (false≢true t)
