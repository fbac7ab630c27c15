use Rattle.std.proofs.Common.{inl, inr, sym, ◌∙◌}
use Rattle.tg_parallel.proofs.Handing.{all_below, one_past}
use Rattle.tg_parallel.proofs.part.Part.of.Goals as goal

pub returns-clause-aged_few : goal.returns-clause-aged_few
returns-clause-aged_few c = all_below c.args.limit c.args.aged.now (sym c.are_below.ensures ∙ c.if-not-are_below.false)

pub returns-clause-old_few : goal.returns-clause-old_few
returns-clause-old_few c = all_below c.args.limit c.args.old.now (sym c.are_below-2.ensures ∙ c.if-not-are_below-2.false)

pub returns-then-not-are_below-clause-full : goal.returns-then-not-are_below-clause-full
returns-then-not-are_below-clause-full c _ =
    let found = one_past c.args.limit c.args.aged.now (sym c.are_below.ensures ∙ c.if-not-are_below.true) in
    (found.0, inl found.1, found.2)

pub returns-then-not-are_below-2-clause-full : goal.returns-then-not-are_below-2-clause-full
returns-then-not-are_below-2-clause-full c _ =
    let found = one_past c.args.limit c.args.old.now (sym c.are_below-2.ensures ∙ c.if-not-are_below-2.true) in
    (found.0, inr found.1, found.2)
