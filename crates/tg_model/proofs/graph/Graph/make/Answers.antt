use mathlib.Core.Bool.{true≢false}
use Rattle.std.proofs.Common.{◌≡◌, ◌<◌, ◌≤◌, ◌∙◌, ◌++◌, ◌∷◌, [], ℕ, List, sym, ap, ap₂, subst, length, get_or, arith}
use Rattle.std.proofs.Math.ListN.{set}
use Rattle.std.proofs.lemmas.List.{get_or_default, set-get_or}
use Rattle.std.specs.List.{Contains}
use Rattle.tg_rights.specs.RightSet.{union}
use Rattle.tg_model.specs.declared.value.Value.{Value}
use Rattle.tg_model.specs.declared.reply.Reply.TheVariants.{Name}
use Rattle.tg_model.specs.Making.{subjects_making}
use Rattle.tg_model.specs.Plain.{Edges, PlainGraph, IsPlain, graph_of, rights_in_row}
use Rattle.tg_model.proofs.MakingLaws.{HasRoom, step-full, answer-vertices, answer-subjects, answer-made}
use Rattle.tg_model.proofs.RowLaws.{changed_at}
use Rattle.tg_model.proofs.PlainLaws.{plain, made, made_plain}
use Rattle.tg_model.proofs.graph.Graph.make.Goals as goal
use Rattle.tg_model.proofs.graph.Graph.make.Goals.{After-enlist}

-- what is in the graph where all calls did their work
parts_are : (c : After-enlist) → plain c.enlist.new.subjects.items c.self.inside.max_vertices c.push.new.self.items c.push-2.new.self.items ≡ plain (subjects_making c.args.making c.self.inside.subjects.items c.made-name.result) c.self.inside.max_vertices (set c.self.inside.rows.items c.args.worker c.add.new.self ++ [] ∷ []) (c.self.inside.values.items ++ record { law = c.args.law; state = c.args.state.now } ∷ [])
parts_are c =
    ap (λ (w : List ℕ). plain w c.self.inside.max_vertices c.push.new.self.items c.push-2.new.self.items) (c.enlist.ensures ∙ ap (λ (w : List ℕ). subjects_making c.args.making w c.made-name.result) c.try_reserve.ensures.items)
    ∙ ap₂ (λ (rows : List Edges) (vs : List Value). plain (subjects_making c.args.making c.self.inside.subjects.items c.made-name.result) c.self.inside.max_vertices rows vs)
    ((rw c.unwrap.ensures at c.push.ensures.items)
    ∙ ap₂ (λ (xs : List Edges) (x : Edges). set xs c.args.worker c.add.new.self ++ x ∷ []) c.try_reserve-2.ensures.items c.new.ensures)
    ((rw c.unwrap-2.ensures at c.push-2.ensures.items)
    ∙ ap₂ (λ (xs : List Value) (state : List ℕ). xs ++ record { law = c.args.law; state = state } ∷ []) c.try_reserve-3.ensures.items c.in_ok-state.ensures)

has_row : (c : After-enlist) → c.args.worker < length c.self.inside.rows.items
has_row c =
    let below = c.self.invariant.subjects c.args.worker (subst (λ (p : PlainGraph). Contains p.subjects c.args.worker) (sym c.self.view_is) c.requires) in
    omega (arith, below, c.self.invariant.rows)

row_is : (c : After-enlist) (b : ℕ) → rights_in_row c.add.new.self b ≡ changed_at c.made-name.result (λ s. union s c.args.label) (get_or c.self.inside.rows.items c.args.worker []) b
row_is c b =
    let old : c.index_mut.result.now ≡ get_or c.self.inside.rows.items c.args.worker [] =
    c.index_mut.ensures.value ∙ ap (λ xs. get_or xs c.args.worker c.index_mut.result.now) c.try_reserve-2.ensures.items
    ∙ get_or_default c.self.inside.rows.items c.args.worker c.index_mut.result.now [] (has_row c) in
    c.in_ok-add.ensures.ok b ∙ ap (λ row. changed_at c.made-name.result (λ s. union s c.args.label) row b) old

has_room : (c : After-enlist) → HasRoom c.args.making (graph_of c.args.self.now)
has_room c = record {
  made = omega (arith, c.made-name.ensures, c.if-name-self.false, ap (λ (p : PlainGraph). p.limit) c.self.view_is);
  subjects = λ (is, many).
      true≢false (sym (c.is_one_too_many.ensures.1 (is, omega (arith, many, c.len.ensures, ap (λ (p : PlainGraph). length p.subjects) c.self.view_is))) ∙ c.if-is_one_too_many.false);
}

-- a limit is met
full : (p q : PlainGraph) → p ≡ q → (n : ℕ) → n ≡ length q.values → p.limit ≤ n → q.limit ≤ length q.values
full p q view n made high = omega (arith, ap (λ (p : PlainGraph). p.limit) view, made, high)

pub returns-then-name-self : goal.returns-then-name-self
returns-then-name-self c =
    let g = graph_of c.args.self.now in
    let met = full _ _ c.self.view_is c.made-name.result c.made-name.ensures c.if-name-self.true in
    record {
      reply = sym (answer-vertices g c.args.worker c.args.label _ c.args.making met);
      step = sym (step-full g c.args.worker c.args.label _ c.args.making (λ room. omega (arith, met, room.made)));
      err = tt;
    }

pub returns-then-is_one_too_many : goal.returns-then-is_one_too_many
returns-then-is_one_too_many c =
    let g = graph_of c.args.self.now in
    let (is, many) = c.is_one_too_many.ensures.0 c.if-is_one_too_many.true in
    let subjects = ap (λ (p : PlainGraph). length p.subjects) c.self.view_is in
    record {
      reply = sym (answer-subjects g c.args.worker c.args.label _ c.args.making
          (omega (arith, c.made-name.ensures, c.if-name-self.false, ap (λ (p : PlainGraph). p.limit) c.self.view_is))
          (is, omega (arith, many, c.len.ensures, subjects)));
      step = sym (step-full g c.args.worker c.args.label _ c.args.making (λ room. room.subjects (is, omega (arith, many, c.len.ensures, subjects))));
      err = tt;
    }

pub returns : goal.returns
returns c =
    let all = (goal.at.returns c).After-enlist in
    record {
      reply = ap Name c.made-name.ensures ∙ sym (answer-made (graph_of c.args.self.now) c.args.worker c.args.label _ c.args.making (has_room all));
      step =
          ap graph_of (parts_are all)
          ∙ made c.args.making c.self.inside.subjects.items c.self.inside.max_vertices c.self.inside.rows.items c.self.inside.values.items c.args.worker c.made-name.result c.args.label c.add.new.self (record { law = c.args.law; state = c.args.state.now })
          (has_row all) (row_is all) c.args.self.now c.self.view_is c.made-name.ensures (has_room all);
      err = tt;
    }

-- there was no memory for the edge
pub invariant_of-self-in_err-add : goal.invariant_of-self-in_err-add
invariant_of-self-in_err-add c =
    let rows = c.try_reserve-2.new.self.items in
    let same : set rows c.args.worker c.add.new.self ≡ rows = ap (set rows c.args.worker) (c.in_err-add.ensures.err ∙ c.index_mut.ensures.value) ∙ set-get_or rows c.args.worker c.index_mut.result.now in
    rw (same, c.try_reserve.ensures.items, c.try_reserve-2.ensures.items, c.try_reserve-3.ensures.items) c.self.invariant

pub invariant_of-self-2 : goal.invariant_of-self-2
invariant_of-self-2 c =
    let all = (goal.at.invariant_of-self-2 c).After-enlist in
    subst IsPlain (sym (parts_are all))
    (made_plain c.args.making c.self.inside.subjects.items c.self.inside.max_vertices c.self.inside.rows.items c.self.inside.values.items c.args.worker c.made-name.result c.args.label c.add.new.self (record { law = c.args.law; state = c.args.state.now })
    (has_row all) (row_is all) c.self.invariant (c.made-name.ensures ∙ sym (ap (λ p. length p.values) c.self.view_is)))

pub index_mut-requires : goal.index_mut-requires
index_mut-requires c =
    let below = c.self.invariant.subjects c.args.worker (subst (λ (p : PlainGraph). Contains p.subjects c.args.worker) (sym c.self.view_is) c.requires) in
    omega (arith, below, c.self.invariant.rows, c.try_reserve-2.ensures.len, c.self.inside.rows.ok.0)
