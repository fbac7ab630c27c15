-- Words that name young cells.
use Rattle.std.proofs.Common.{◌≡◌, ◌≢◌, ℕ, ◌<◌, ◌≤◌, ◌+◌, ◌-◌, List, length, get_or, drop, sym, ap, subst, arith, ◌∙◌}
use Rattle.std.specs.List.{Contains}
use Rattle.std.proofs.lemmas.List.{get_or-drop, get_or_default, length-drop}
use Rattle.std.proofs.lemmas.List.Elements.{Contains-get_or}
use Rattle.tg_word.specs.Word.{place_in}
use Rattle.tg_space.specs.Generations.{NamesYoung}
use Rattle.tg_space.specs.Targets.{first_pointer}

module _ (words : List ℕ) (first : ℕ) (is : first ≡ first_pointer (get_or words 0 0)) where
  -- one of the references and the link names a young cell
  pub names_at : (i : ℕ) → first ≤ i → i < length words → (place_in (get_or words i 0)).space ≢ 0 → NamesYoung words
  names_at i from low young =
      let long = length-drop first words in
      let at : first + (i - first) ≡ i = omega arith in
      let word : get_or (drop first words) (i - first) 0 ≡ get_or words i 0 = get_or-drop first words (i - first) 0 ∙ ap (λ (n : ℕ). get_or words n 0) at in
      let here : Contains (drop first words) (get_or words i 0) = subst (λ (x : ℕ). Contains (drop first words) x) word (Contains-get_or (drop first words) (i - first) 0 (omega arith)) in
      (get_or words i 0, subst (λ (n : ℕ). Contains (drop n words) (get_or words i 0)) is here, young)

  -- none of them does
  pub none_young : ((k : ℕ) → k < length words → first ≤ k → (place_in (get_or words k 0)).space ≡ 0) → NamesYoung words → ⊥
  none_young all names =
      let held : Contains (drop first words) names.0 = subst (λ (n : ℕ). Contains (drop n words) names.0) (sym is) names.1 in
      let long = length-drop first words in let low = held.1 in
      let word : get_or words (first + held.0) 0 ≡ names.0 = sym (get_or-drop first words held.0 0) ∙ get_or_default (drop first words) held.0 0 names.0 held.1 ∙ held.2 in
      names.2 (ap (λ (x : ℕ). (place_in x).space) (sym word) ∙ all (first + held.0) (omega arith) (omega arith))
