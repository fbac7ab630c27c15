use Rattle.std.proofs.Common.{◌∙◌, ℕ, List, Option, Some, refl, sym, ap}
use Rattle.std.specs.Prelude.{option_map}
use Rattle.tg_model.specs.declared.value.Value.{Value}
use Rattle.tg_model.specs.Rules.{written}
use Rattle.tg_journal.proofs.VertexLaws.{value_rises, value_labels, value_written, unwritten}
use Rattle.tg_journal.proofs.vertices.Vertices.write.Goals as goal

pub invariant_of-self : goal.invariant_of-self
invariant_of-self c =
    value_rises c.self.inside.items.items c.args.name c.in-Ok.at c.index_mut.result.now c.self.invariant (rw c.self.view_is c.in-Ok.ensures.found) c.index_mut.ensures.value _

pub returns-in_ok-write : goal.returns-in_ok-write
returns-in_ok-write c =
    let vs = c.self.inside.items.items in
    let is = rw (← c.self.view_is) at c.in-Ok.ensures.found in
    let it : List ℕ → Option Value = λ state. Some (record { law = c.in-Some.stored.law; state = state }) in
    rw (← c.self.view_is) (record {
      labels = λ k a b. value_labels vs c.args.name c.in-Ok.at c.index_mut.result.now c.self.invariant is c.index_mut.ensures.value (it c.write.new.state) a b k;
      values =
          value_written vs c.args.name c.in-Ok.at c.index_mut.result.now c.self.invariant is c.index_mut.ensures.value (it c.write.new.state) c.args.value
          (ap it c.in_ok-write.ensures.written ∙ ap (option_map (written c.args.value)) (sym c.in-Some.is));
      err = tt;
    })

-- it stores nothing
pub returns-in_default-value : goal.returns-in_default-value
returns-in_default-value c =
    let vs = c.self.inside.items.items in
    let old = c.index_mut.result.now in
    let is = rw (← c.self.view_is) at c.in-Ok.ensures.found in
    rw (← c.self.view_is) (record {
      labels = λ k a b. value_labels vs c.args.name c.in-Ok.at old c.self.invariant is c.index_mut.ensures.value old.value a b k;
      values =
          value_written vs c.args.name c.in-Ok.at old c.self.invariant is c.index_mut.ensures.value old.value c.args.value
          (c.in_default-value.is ∙ ap (option_map (written c.args.value)) (sym c.in_default-value.is));
      err = tt;
    })

-- it isn't kept
pub returns-in_default : goal.returns-in_default
returns-in_default c = record { labels = refl; values = unwritten c.args.self.now c.args.name c.in_default.field-0 c.in_default.ensures.absent c.args.value; err = tt }
