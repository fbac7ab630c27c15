use Rattle.std.proofs.Common.{◌≡◌, List, ℕ, ◌++◌, rules, subst}
use Rattle.std.proofs.lemmas.List.{nil_from_length}
use Rattle.std.specs.Prelude.{codes}
use Rattle.tg_entries.specs.Pieces.{Loses}
use Rattle.tg_entries.proofs.PieceLaws.{loses_listing}
use Rattle.tg_entries.proofs.listing.is_listing.Goals as goal

pub returns-then-branch : goal.returns-then-branch
returns-then-branch g c = λ empty.
    let left = g.R.Read.remaining in
    let text : c.as_slice.result.now ≡ c.args.again.now.bytes.items ++ codes " = ok" = search rules in
    let none = nil_from_length c.takes-2.new.line.items (search rules) in
    loses_listing c.args.line.now.items c.takes.new.line.items c.are_next.new.line.items c.takes-2.new.line.items c.args.again.now.bytes.items c.args.edges.now
    (left c.args.reader.now) (left c.takes.new.reader) (left c.are_next.new.reader) (left c.takes-2.new.reader)
    (subst (λ (t : List ℕ). Loses c.args.line.now.items (left c.args.reader.now) t c.takes.new.line.items (left c.takes.new.reader)) text (c.in_ok-takes.ensures c.if-not-branch.false))
    (c.in_ok-are_next.ensures c.if-not-branch-2.false) (c.in_ok-takes-2.ensures c.if-branch.true) none
