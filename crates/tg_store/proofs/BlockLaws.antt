-- How few blocks a collection leaves.
use Rattle.std.proofs.Common.{◌≡◌, ℕ, zero, suc, ◌<◌, ◌≤◌, ◌+◌, ◌⊎◌, List, [], ◌∷◌, length, map, refl, sym, ap, subst, arith, lit<, ◌∙◌, inl, inr, ⊎_elim}
use Rattle.std.proofs.lemmas.Bool.{cases_lt}
use Rattle.std.proofs.lemmas.List.{length-append}
use Rattle.std.proofs.lemmas.List.Sums.{sum_by-cons}
use Rattle.tg_space.specs.SpaceList.{SpaceList, BlockList, block_count, space_of}
use Rattle.tg_space.specs.SpaceTable.{SpaceTable, adopted, kept_blocks, with_adopted}
use Rattle.tg_space.specs.Collection.{AreFewBlocks, Collected, blocks_for, copies_in, used_cells}
use Rattle.tg_space.specs.declared.kind.Kind.{Kind}
use Rattle.tg_space.specs.declared.kind.Kind.TheVariants.{Full, Nursery}
use Rattle.tg_graph.specs.Kept.{AreWritten, rewritten_at}
use Rattle.tg_graph.specs.Heap.{HeapState}
use Rattle.tg_graph.proofs.KeptAdopted.{no_nursery_after, only_old_after}
use Rattle.tg_store.specs.Store.{HasFewBlocks}

-- no space has a block
no_blocks_in : (h : SpaceList) → ((space : ℕ) → space_of h space ≡ []) → block_count h ≤ 0
no_blocks_in [] none = omega arith
no_blocks_in (blocks ∷ h) none =
    let first = ap length (none 0) in
    omega (arith, sum_by-cons (λ (b : BlockList). length b) blocks h, no_blocks_in h (λ space. none (suc space)))

-- only Old and Aged have blocks
two_spaces : (h : SpaceList) → ((space : ℕ) → 2 ≤ space → space_of h space ≡ []) → block_count h ≤ length (space_of h 0) + length (space_of h 1)
two_spaces [] none = omega arith
two_spaces (old ∷ []) none = omega (arith, sum_by-cons (λ (b : BlockList). length b) old [])
two_spaces (old ∷ aged ∷ h) none =
    omega (arith, sum_by-cons (λ (b : BlockList). length b) old (aged ∷ h), sum_by-cons (λ (b : BlockList). length b) aged h, no_blocks_in h (λ space. none (suc (suc space)) (omega arith)))

-- where no more cells are held, Old has no more blocks
fewer_held : (t u : SpaceTable) (s : HeapState) (forward : List ℕ) → AreWritten t u (map (rewritten_at s.table.spaces forward) s.remembered) → 0 < length t.spaces → length (space_of u.spaces 0) ≤ length (space_of t.spaces 0)
fewer_held t u s forward done some =
    ⊎_elim
    (λ (more : length (space_of t.spaces 0) < length (space_of u.spaces 0)).
    let past = (done.held (record { space = 0; block = length (space_of t.spaces 0); cell = 0 })).0 (record { space = let long = done.long in omega arith; block = more; cell = lit< tt }) in
    let low : length (space_of t.spaces 0) < length (space_of t.spaces 0) = past.block in
    absurd (omega arith))
    (λ le. le)
    (cases_lt (length (space_of t.spaces 0)) (length (space_of u.spaces 0)))

module _ (spare : ℕ) (old new : SpaceTable) (made : Collected) where
  pub few_left : (kind : Kind) → AreFewBlocks old.limits.space_blocks (kept_blocks kind old.spaces) spare made → copies_in made.forward 0 + copies_in made.forward 1 ≤ used_cells kind old.spaces →
      (kind ≡ Full → new ≡ with_adopted old Full made.aged made.old) → (s : HeapState) → (kind ≡ Nursery → AreWritten (with_adopted old Nursery made.aged made.old) new (map (rewritten_at s.table.spaces made.forward) s.remembered)) → HasFewBlocks kind spare old new
  few_left Full few moved adopted_as s written = record {
    within = λ space. subst (λ (t : SpaceTable). (length (space_of t.spaces space) ≤ old.limits.space_blocks) ⊎ (length (space_of t.spaces space) ≤ length (space_of old.spaces space))) (sym (adopted_as refl)) (inl (within space));
    full = λ _. subst (λ (t : SpaceTable). block_count t.spaces ≤ blocks_for (used_cells Full old.spaces) + spare) (sym (adopted_as refl)) all;
    nursery = λ other. let no : ◌≡◌ {A = Kind} Full Nursery = other in absurd cc;
  }
    where
      within : (space : ℕ) → length (space_of (adopted Full old.spaces made.aged made.old) space) ≤ old.limits.space_blocks
      within zero = let fits = few.old_within in omega arith
      within (suc space) = let none = ap length (only_old_after old.spaces made.aged made.old (suc space) (λ z. omega arith)) in omega arith

      all : block_count (adopted Full old.spaces made.aged made.old) ≤ blocks_for (used_cells Full old.spaces) + spare
      all =
          let none = λ (space : ℕ) (low : 2 ≤ space). only_old_after old.spaces made.aged made.old space (λ z. omega arith) in
          let aged_none = ap length (only_old_after old.spaces made.aged made.old 1 (λ z. omega arith)) in
          let needed = few.old_needed in
          omega (arith, two_spaces (adopted Full old.spaces made.aged made.old) none)
  few_left Nursery few moved adopted_as s written = record {
    within = within;
    full = λ other. let no : ◌≡◌ {A = Kind} Nursery Full = other in absurd cc;
    nursery = λ _.
        let old_needed = few.old_needed in let aged_needed = few.aged_needed in
        let aged_is = ap length (done.others 1 (λ z. omega arith)) in
        omega (arith, two_spaces new.spaces none, old_few, length-append (space_of old.spaces 0) made.old);
  }
    where
      done : AreWritten (with_adopted old Nursery made.aged made.old) new (map (rewritten_at s.table.spaces made.forward) s.remembered)
      done = written refl

      none : (space : ℕ) → 2 ≤ space → space_of new.spaces space ≡ []
      none space low = done.others space (λ z. omega arith) ∙ no_nursery_after old.spaces made.aged made.old Nursery space low

      old_few : length (space_of new.spaces 0) ≤ length (space_of (adopted Nursery old.spaces made.aged made.old) 0)
      old_few = fewer_held (with_adopted old Nursery made.aged made.old) new s made.forward done (omega arith)

      within : (space : ℕ) → (length (space_of new.spaces space) ≤ old.limits.space_blocks) ⊎ (length (space_of new.spaces space) ≤ length (space_of old.spaces space))
      within zero =
          let fits = few.old_within in let both = length-append (space_of old.spaces 0) made.old in let le = old_few in
          ⊎_elim
          (λ (over : old.limits.space_blocks < length (space_of old.spaces 0)). inr (omega arith))
          (λ (under : length (space_of old.spaces 0) ≤ old.limits.space_blocks). inl (omega arith))
          (cases_lt old.limits.space_blocks (length (space_of old.spaces 0)))
      within (suc zero) = let same = ap length (done.others 1 (λ z. omega arith)) in let fits = few.aged_within in inl (omega arith)
      within (suc (suc space)) = let empty = ap length (none (suc (suc space)) (omega arith)) in inl (omega arith)
