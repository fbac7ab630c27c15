use Rattle.std.proofs.Common.{◌≡◌, ◌+◌, ◌-◌, ◌/◌, Bool, true, false, nat_le, if◌then◌else◌, slice_index_or, sym, ap, arith}
use Rattle.std.proofs.lemmas.Bool.{le-leb, lt-leb}
use Rattle.tg_could.specs.Names.{halved}
use Rattle.tg_could.proofs.search.names.halve.Goals as goal

pub returns-then-word_of-name-clause-half : goal.returns-then-word_of-name-clause-half
unfolding halved
returns-then-word_of-name-clause-half c =
    let part = c.args.part in
    let there = slice_index_or c.args.names.now (part.0 + part.1 / 2) 0 in
    let test : nat_le there c.args.name ≡ true = le-leb there c.args.name (omega (arith, c.if-word_of-name.true, c.word_of.ensures)) in
    sym (ap (λ (b : Bool). if b then (part.0 + part.1 / 2, part.1 - part.1 / 2) else (part.0, part.1 / 2)) test)

pub returns-else-word_of-name-clause-half : goal.returns-else-word_of-name-clause-half
unfolding halved
returns-else-word_of-name-clause-half c =
    let part = c.args.part in
    let there = slice_index_or c.args.names.now (part.0 + part.1 / 2) 0 in
    let test : nat_le there c.args.name ≡ false = lt-leb there c.args.name (omega (arith, c.if-word_of-name.false, c.word_of.ensures)) in
    sym (ap (λ (b : Bool). if b then (part.0 + part.1 / 2, part.1 - part.1 / 2) else (part.0, part.1 / 2)) test)
