use Rattle.std.proofs.Common.{rules, subst, sym, ◌∙◌}
use Rattle.std.proofs.lemmas.List.Sorted.{answers_always}
use Rattle.std.specs.Prelude.{IfSome}
use Rattle.tg_subjects.specs.Subjects.{IsAt}
use Rattle.std.specs.List.Sorted.{IsBinarySearchResult}
use Rattle.std.specs.Ordering.{nat_cmp}
use Rattle.tg_subjects.proofs.SearchLaws.{none_by_search, there_by_search}
use Rattle.tg_subjects.proofs.subjects.searched.Goals as goal
use Rattle.tg_subjects.proofs.subjects.searched.Goals.{After-ok}

by_name : (c : After-ok) → IsBinarySearchResult (λ s. nat_cmp s.name c.args.name) c.args.subjects.now c.binary_search_by_key.result
by_name c = c.binary_search_by_key.ensures.position (λ s. s.name) (answers_always _ _ _ (λ f a r g called. search rules))

pub returns-clause-there : goal.returns-clause-there
returns-clause-there c =
    subst (λ found. IfSome found (IsAt c.args.subjects.now c.args.name)) (sym c.ok.ensures.value)
    (there_by_search c.args.subjects.now c.requires c.args.name c.binary_search_by_key.result c.binary_search_by_key.ensures.bound (by_name c))

pub returns-clause-none : goal.returns-clause-none
returns-clause-none c none = none_by_search c.args.subjects.now c.requires c.args.name c.binary_search_by_key.result (by_name c) (sym c.ok.ensures.value ∙ none)
