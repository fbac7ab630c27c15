-- Where names rise, a binary search finds the subject with a name.
use Rattle.std.proofs.Common.{◌≡◌, ◌≢◌, ◌≤◌, ◌<◌, List, Ok, Err, Result, ℕ, ap, arith, get_or, length, sym}
use Rattle.std.specs.Prelude.{IfSome, None}
use Rattle.std.specs.List.{All}
use Rattle.std.specs.List.Sorted.{IsBinarySearchResult, IsNonDecreasingBy, IsSearchInRange}
use Rattle.std.specs.Ordering.{nat_cmp, ordering_index}
use Rattle.std.specs.Result.{result_ok}
use Rattle.std.proofs.lemmas.Bool.Decides.{nat_tests}
use Rattle.std.proofs.lemmas.Cmp.{ranked}
use Rattle.tg_subjects.specs.declared.subject.Subject.{Subject}
use Rattle.tg_subjects.specs.Subjects.{AreSubjects, IsAt}

module _ (ss : List Subject) (are : AreSubjects ss) (name : ℕ) where
  comparisons_rise : IsNonDecreasingBy (λ s. ordering_index (nat_cmp s.name name)) ss
  comparisons_rise i j d le inside =
      let names_rise : (get_or ss i d).name ≤ (get_or ss j d).name = grind (arith, are.rising i j d, λ (same : i ≡ j). ap (λ k. (get_or ss k d).name) same) in
      grind (arith, nat_tests)

  pub there_by_search : (r : Result ℕ ℕ) → IsSearchInRange r (length ss) → IsBinarySearchResult (λ s. nat_cmp s.name name) ss r → IfSome (result_ok r) (IsAt ss name)
  there_by_search (Ok at) inside equal = record { inside = inside; named = λ d. ranked _ name _ (sym (equal d)) }
  there_by_search (Err at) inside parted = tt

  pub none_by_search : (r : Result ℕ ℕ) → IsBinarySearchResult (λ s. nat_cmp s.name name) ss r → result_ok r ≡ None → All (λ s. s.name ≢ name) ss
  none_by_search (Ok at) equal none = let f : ⊥ = cc none in absurd f
  none_by_search (Err at) parted none = λ i d low same.
      let below : i < at → (get_or ss i d).name < name = λ lt. ranked _ name _ (sym ((parted comparisons_rise).0 i d (omega arith) lt)) in
      let above : at ≤ i → name < (get_or ss i d).name = λ le. ranked _ name _ (sym ((parted comparisons_rise).1 i d le low)) in
      grind (arith, below, above, same)
