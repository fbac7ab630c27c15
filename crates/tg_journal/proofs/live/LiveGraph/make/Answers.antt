use Rattle.std.proofs.Common.{◌∙◌, ◌+◌, ℕ, List, refl, ap, sym, subst, arith}
use mathlib.Core.Bool.{true≢false}
use Rattle.tg_rights.specs.RightSet.{RightSet}
use Rattle.tg_model.specs.declared.value.Value.{Value}
use Rattle.tg_model.specs.Graph.{HasEdge, with_rights}
use Rattle.tg_model.specs.Making.{subjects_making}
use Rattle.tg_model.specs.Rules.{with_value}
use Rattle.tg_model.proofs.MakingLaws.{HasRoom, answer-made, answer-subjects, answer-vertices, step-full}
use Rattle.tg_model.proofs.ReachLaws.{targets-with_rights}
use Rattle.tg_journal.specs.Live.{graph_kept, label_between, value_of}
use Rattle.tg_journal.proofs.DeedLaws.{kept, made}
use Rattle.tg_journal.proofs.live.LiveGraph.make.Goals as goal

pub invariant_of-self-2 : goal.invariant_of-self-2
invariant_of-self-2 c =
    targets-with_rights (label_between c.self.inside.vertices) (label_between c.add.new.self) c.args.worker c.self.inside.made c.self.inside.made (c.self.inside.made + 1) c.args.label
    (λ a b i. (c.in_ok-add.ensures.labels ∙ ap (λ f. with_rights f c.args.worker c.self.inside.made c.args.label) c.in_ok-put.ensures.labels) i a b)
    c.self.invariant (omega arith) (λ some. omega arith)

-- there was no memory for the edge
pub invariant_of-self-in_err-add : goal.invariant_of-self-in_err-add
invariant_of-self-in_err-add c = λ x y edge.
    c.self.invariant x y (subst (λ (label : ℕ → ℕ → RightSet). HasEdge label x y) (ap label_between c.in_err-add.ensures.err ∙ c.in_ok-put.ensures.labels) edge)

pub returns-then-name-self : goal.returns-then-name-self
returns-then-name-self c =
    let g = graph_kept (kept c.self.inside.subjects.items c.self.inside.made c.self.inside.max_vertices c.self.inside.vertices) in
    let v : Value = record { law = c.args.law; state = c.args.state.now } in
    rw (← c.self.view_is) (record {
      reply = sym (answer-vertices g c.args.worker c.args.label v c.args.making c.if-name-self.true);
      step = sym (step-full g c.args.worker c.args.label v c.args.making (λ room. omega (arith, room.made, c.if-name-self.true)));
      refused = tt;
    })

pub returns-then-is_one_too_many : goal.returns-then-is_one_too_many
returns-then-is_one_too_many c =
    let g = graph_kept (kept c.self.inside.subjects.items c.self.inside.made c.self.inside.max_vertices c.self.inside.vertices) in
    let v : Value = record { law = c.args.law; state = c.args.state.now } in
    let (is, many) = c.is_one_too_many.ensures.0 c.if-is_one_too_many.true in
    rw (← c.self.view_is) (record {
      reply = sym (answer-subjects g c.args.worker c.args.label v c.args.making c.if-name-self.false (is, omega (arith, many, c.len.ensures)));
      step = sym (step-full g c.args.worker c.args.label v c.args.making (λ room. room.subjects (is, omega (arith, many, c.len.ensures))));
      refused = tt;
    })

pub returns : goal.returns
returns c =
    let s = c.self.inside.subjects.items in
    let n = c.self.inside.made in
    let l = c.self.inside.max_vertices in
    let vs = c.self.inside.vertices in
    let v : Value = record { law = c.args.law; state = c.args.state.now } in
    let room : HasRoom c.args.making (graph_kept (kept s n l vs)) = record {
      made = c.if-name-self.false;
      subjects = λ (is, many). true≢false (sym (c.is_one_too_many.ensures.1 (is, omega (arith, many, c.len.ensures))) ∙ c.if-is_one_too_many.false);
    } in
    rw (← c.self.view_is) (record {
      reply = sym (answer-made (graph_kept (kept s n l vs)) c.args.worker c.args.label v c.args.making room);
      step =
          ap (λ (w : List ℕ). graph_kept (kept w (n + 1) l c.add.new.self)) (c.enlist.ensures ∙ ap (λ (w : List ℕ). subjects_making c.args.making w n) c.try_reserve.ensures.items)
          ∙ made s n l vs (kept s n l vs) refl c.args.worker c.args.label v c.args.making c.add.new.self
          (c.in_ok-add.ensures.labels ∙ ap (λ f. with_rights f c.args.worker n c.args.label) c.in_ok-put.ensures.labels)
          (λ a. c.in_ok-add.ensures.values a ∙ c.in_ok-put.ensures.values a ∙ ap (λ (s : List ℕ). with_value (value_of vs) n (record { law = c.args.law; state = s }) a) c.in_ok-state.ensures)
          room;
      refused = tt;
    })
