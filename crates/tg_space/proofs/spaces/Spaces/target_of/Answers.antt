use Rattle.std.proofs.Common.{ap, arith}
use Rattle.tg_word.specs.declared.Place.{Place}
use Rattle.tg_word.specs.Word.{place_in}
use Rattle.tg_space.proofs.Flat.{flat_inside}
use Rattle.tg_space.proofs.Tables.{flat_facts_at}
use Rattle.tg_space.proofs.spaces.Spaces.target_of.Goals as goal

pub overflow_mul-result : goal.overflow_mul-result
overflow_mul-result c =
    let known = flat_facts_at _ c.args.self.now _ (place_in c.args.word) _ _ c.self.view_is c.self.invariant c.requires (ap (λ (p : Place). p.space) c.place_of-space.ensures) c.index.ensures in
    omega (arith, known.starts, known.inside, known.few)

pub overflow_add-result : goal.overflow_add-result
overflow_add-result c =
    let known = flat_facts_at _ c.args.self.now _ (place_in c.args.word) _ _ c.self.view_is c.self.invariant c.requires (ap (λ (p : Place). p.space) c.place_of-space.ensures) c.index.ensures in
    omega (arith, known.starts, known.inside, known.few, c.number_of-2.ensures.number)

pub returns-clause-inside : goal.returns-clause-inside
returns-clause-inside c =
    let known = flat_facts_at _ c.args.self.now _ (place_in c.args.word) _ _ c.self.view_is c.self.invariant c.requires (ap (λ (p : Place). p.space) c.place_of-space.ensures) c.index.ensures in
    omega (arith, known.starts, known.inside, known.few, c.number_of-2.ensures.number)

pub returns-then-space-eq-OLD-clause-inside : goal.returns-then-space-eq-OLD-clause-inside
returns-then-space-eq-OLD-clause-inside c =
    let inside = flat_inside c.args.self.now.spaces c.blocks-then-space-eq-OLD.ensures.table.blocks (place_in c.args.word) c.requires in
    omega (arith, inside, c.number_of.ensures.number)
