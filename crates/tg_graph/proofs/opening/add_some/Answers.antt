use Rattle.std.proofs.Common.{◌≡◌, ◌∙◌, ℕ, true, refl, sym, ap, subst}
use Rattle.std.proofs.lemmas.Bool.{cond_both}
use Rattle.tg_rights.specs.RightSet.{RightSet, is_none_held, union}
use Rattle.tg_rights.proofs.RightLaws.{none_held-same, union_none}
use Rattle.tg_model.specs.Graph.{with_rights}
use Rattle.tg_graph.specs.Opened.{labels_in}
use Rattle.tg_graph.proofs.Openings.{relabels_none}
use Rattle.tg_rows.specs.Rows.{name_at}
use Rattle.tg_rows.specs.Spots.{IsSpotFor}
use Rattle.tg_graph.proofs.opening.add_some.Goals as goal

-- the empty set adds nothing
with_none : (label : ℕ → ℕ → RightSet) (x y : ℕ) (rights : RightSet) → is_none_held rights ≡ true → (a b : ℕ) → label a b ≡ with_rights label x y rights a b
with_none label x y rights none a b =
    cond_both _ _ _ (λ (s : RightSet). label a b ≡ s)
    (λ _. sym (ap (union (label a b)) (none_held-same rights none) ∙ union_none (label a b)))
    (λ _. refl)

pub returns-clause-added : goal.returns-clause-added
returns-clause-added g c =
    let one = rw c.unwrap.ensures at c.put_edge.ensures.one_cell in
    record {
      changed = rw c.unwrap.ensures at c.put_edge.ensures.edge.added;
      payloads = c.put_edge.ensures.edge.payloads;
      blocks = one.blocks (c.requires.room (sym c.is_empty.ensures ∙ c.if-is_empty.false));
      remembered = c.put_edge.ensures.edge.remembered;
    }

pub returns-then-is_empty-clause-added : goal.returns-then-is_empty-clause-added
returns-then-is_empty-clause-added g c =
    let cells = c.args.cells.now in
    let x = name_at cells.spaces.spaces c.args.from in
    let y = name_at cells.spaces.spaces c.args.to in
    relabels_none cells (with_rights (labels_in cells) x y c.args.rights) c.requires.graph (with_none (labels_in cells) x y c.args.rights (sym c.is_empty.ensures ∙ c.if-is_empty.true))

pub put_edge-requires-clause-row : goal.put_edge-requires-clause-row
put_edge-requires-clause-row g c = record {
  table = c.find_spot-spot.ensures.table;
  graph = c.requires.graph;
  from = c.requires.from;
  spot = subst (λ n. IsSpotFor c.args.cells.now.spaces.spaces n c.args.from c.find_spot-spot.result) c.name_of.ensures c.find_spot-spot.ensures.spot;
}
