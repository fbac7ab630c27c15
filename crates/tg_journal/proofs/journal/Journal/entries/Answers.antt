use Rattle.std.proofs.Common.{◌∙◌, ◌++◌, ◌-◌, List, ap, arith, drop, length}
use Rattle.std.proofs.lemmas.List.{length-drop, take_all}
use Rattle.tg_journal.specs.Journal.{Entries}
use Rattle.tg_journal.specs.declared.entry.Entry.{Entry}
use Rattle.tg_journal.proofs.PartLaws.{drop-behind}
use Rattle.tg_journal.proofs.journal.Journal.entries.Goals as goal

pub returns : goal.returns
returns c =
    let past : List Entry = c.self.inside.past.entries in
    let items : List Entry = c.deref.result.now in
    let gone = c.self.inside.start - c.self.inside.base in
    take_all (length items - gone) (drop gone items) (omega (arith, length-drop gone items))
    ∙ drop-behind past items c.self.inside.base c.self.inside.start c.self.invariant.0 c.self.invariant.1
    ∙ (λ i. drop c.self.inside.start (past ++ c.deref.ensures.value i)) ∙ ap (λ (j : Entries). drop j.start j.entries) c.self.view_is
