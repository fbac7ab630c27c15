-- The bits of the nurseries that are held.
use Rattle.std.proofs.Common.{◌≡◌, ◌≢◌, ◌∙◌, ◌*◌, ◌-◌, ◌%◌, ◌^◌, ◌<◌, List, [], ◌∷◌, ◌++◌, ⊎_elim, ℕ, ap, arith, bit_or, get_or, length, subst, suc, sym, w64, zero}
use Rattle.std.specs.Int.{bit_at, bit_not, trailing_ones}
use Rattle.std.specs.Int.RustNames.{bit_and}
use Rattle.std.specs.List.{All, AllPairs, Contains, remove}
use Rattle.std.proofs.lemmas.Bool.{cases_eq}
use Rattle.std.proofs.lemmas.List.{map-append}
use Rattle.std.proofs.lemmas.List.Elements.{All-cons, Contains-append_left, Contains-push, Contains-push_cases}
use Rattle.std.proofs.lemmas.Nat.Bits.{bit_at-trailing_ones, bit_at_clear_other, bit_at_clear_same, bit_at_ones, bit_at_set_other, bit_at_set_same}
use Rattle.tg_word.specs.declared.TheConstants.{MAX_NURSERIES}
use Rattle.tg_subjects.specs.declared.subject.Subject.{Subject}
use Rattle.tg_subjects.specs.Subjects.{AreSubjects, IsLeastFree, MarksHeld, nurseries_of}
use Rattle.tg_subjects.proofs.TableLaws.{all_held, not_in_column}

-- ---- the least free number

-- the first bit that isn't set is the least number that is free
pub least_by_bits : (ss : List Subject) (word : ℕ) → word < 2 ^ 64 → MarksHeld word (nurseries_of ss) → length ss < MAX_NURSERIES → IsLeastFree ss (trailing_ones w64 word)
least_by_bits ss word fits marks few = record {
  few = first.0;
  free = λ held. let one = (marks _ first.0).1 held in let none = first.1 in omega (arith, one, none);
  least = λ lower low. (marks lower (omega (arith, low, first.0))).0 (first.2 lower low);
}
  where
    -- not all bits are set: there would be as many subjects
    some_free : word ≢ 2 ^ 64 - 1
    some_free all =
        let many = all_held ss (λ n low. (marks n low).0 (ap (λ w. bit_at w n) all ∙ bit_at_ones 64 n low)) in
        omega (arith, many, few)

    first : (trailing_ones w64 word < 64) × (bit_at word (trailing_ones w64 word) ≡ 0) × ((i : ℕ) → i < trailing_ones w64 word → bit_at word i ≡ 1)
    first = bit_at-trailing_ones w64 word (omega (arith, fits, some_free))

-- ---- one more

pub marks_more : (ss : List Subject) (s : Subject) (word : ℕ) → s.nursery < MAX_NURSERIES → MarksHeld word (nurseries_of ss) → MarksHeld (bit_or word (1 * 2 ^ s.nursery % 2 ^ 64)) (nurseries_of (ss ++ s ∷ []))
marks_more ss s word within marks =
    subst (MarksHeld (bit_or word (1 * 2 ^ s.nursery % 2 ^ 64))) (sym (map-append (λ (t : Subject). t.nursery) ss (s ∷ []))) (λ n low. ⊎_elim
    (λ (same : n ≡ s.nursery). (
      λ one. subst (Contains (nurseries_of ss ++ s.nursery ∷ [])) (sym same) (Contains-push (nurseries_of ss) s.nursery),
      λ there. ap (bit_at (bit_or word (1 * 2 ^ s.nursery % 2 ^ 64))) same ∙ bit_at_set_same w64 word s.nursery within,
    ))
    (λ other. let kept = bit_at_set_other w64 word s.nursery within n other in (
      λ one. Contains-append_left (nurseries_of ss) (s.nursery ∷ []) n ((marks n low).0 (sym kept ∙ one)),
      λ there. ⊎_elim (λ before. kept ∙ (marks n low).1 before) (λ (is : s.nursery ≡ n). absurd (other (sym is))) (Contains-push_cases (nurseries_of ss) s.nursery n there),
    ))
    (cases_eq n s.nursery))

-- ---- one less

-- who stays holds its nursery
still_held : (ss : List Subject) (at n : ℕ) (d : Subject) → (get_or ss at d).nursery ≢ n → Contains (nurseries_of ss) n → Contains (nurseries_of (remove ss at)) n
still_held [] at n d other (k, inside, is) = absurd (omega (arith, inside))
still_held (s ∷ ss) zero n d other (zero, inside, is) = absurd (other is)
still_held (s ∷ ss) zero n d other (suc k, inside, is) = (k, omega (arith, inside), is)
still_held (s ∷ ss) (suc at) n d other (zero, inside, is) = (0, omega arith, is)
still_held (s ∷ ss) (suc at) n d other (suc k, inside, is) =
    let r = still_held ss at n d other (k, omega (arith, inside), is) in (suc r.0, omega (arith, r.1), r.2)

held_before : (ss : List Subject) (at n : ℕ) → Contains (nurseries_of (remove ss at)) n → Contains (nurseries_of ss) n
held_before [] zero n there = there
held_before [] (suc at) n there = there
held_before (s ∷ ss) zero n (k, inside, is) = (suc k, omega (arith, inside), is)
held_before (s ∷ ss) (suc at) n (zero, inside, is) = (0, omega arith, is)
held_before (s ∷ ss) (suc at) n (suc k, inside, is) =
    let r = held_before ss at n (k, omega (arith, inside), is) in (suc r.0, omega (arith, r.1), r.2)

-- nobody else holds the nursery of who goes
others_hold : (ss : List Subject) (at n : ℕ) (d : Subject) → at < length ss → AllPairs (λ s t. s.nursery ≢ t.nursery) ss → (get_or ss at d).nursery ≡ n → All (λ t. t.nursery ≢ n) (remove ss at)
others_hold [] at n d inside apart is = absurd (omega (arith, inside))
others_hold (s ∷ ss) zero n d inside apart is = λ i e low same. apart 0 (suc i) e (omega arith) (omega (arith, low)) (is ∙ sym same)
others_hold (s ∷ ss) (suc at) n d inside apart is =
    All-cons (λ (t : Subject). t.nursery ≢ n) s (remove ss at) (λ same. apart 0 (suc at) d (omega arith) inside (same ∙ sym is))
    (others_hold ss at n d (omega (arith, inside)) (λ i j e lt low. apart (suc i) (suc j) e (omega (arith, lt)) (omega (arith, low))) is)

pub marks_less : (ss : List Subject) (at : ℕ) (s : Subject) (word : ℕ) → at < length ss → s ≡ get_or ss at s → AreSubjects ss → s.nursery < MAX_NURSERIES → MarksHeld word (nurseries_of ss) → MarksHeld (bit_and word (bit_not w64 (1 * 2 ^ s.nursery % 2 ^ 64))) (nurseries_of (remove ss at))
marks_less ss at s word inside is are within marks n low =
    let gives : (get_or ss at s).nursery ≡ s.nursery = sym (ap (λ (t : Subject). t.nursery) is) in
    ⊎_elim
    (λ (same : n ≡ s.nursery).
    let cleared = bit_at_clear_same w64 word s.nursery within in (
      λ one. let set = sym (ap (bit_at (bit_and word (bit_not w64 (1 * 2 ^ s.nursery % 2 ^ 64)))) same) ∙ one in absurd (omega (arith, set, cleared)),
      λ there. absurd (not_in_column (λ t. t.nursery) (remove ss at) n (others_hold ss at n s inside are.apart (gives ∙ sym same)) there),
    ))
    (λ other. let kept = bit_at_clear_other w64 word s.nursery within n low other in (
      λ one. still_held ss at n s (λ (same : (get_or ss at s).nursery ≡ n). other (sym same ∙ gives)) ((marks n low).0 (sym kept ∙ one)),
      λ there. kept ∙ (marks n low).1 (held_before ss at n there),
    ))
    (cases_eq n s.nursery)
