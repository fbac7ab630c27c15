-- A run of batches, step by step.
use Rattle.std.proofs.Common.{◌≡◌, ℕ, ◌+◌, ◌<◌, ◌≤◌, List, [], ◌∷◌, ◌++◌, length, get_or, take, drop, sym, ◌∙◌, ap, subst, arith, length-append}
use Rattle.std.proofs.lemmas.List.{append-nil, drop_more, flat_map_more, take_all, take_more, take-append-le}
use Rattle.tg_keep.specs.Batches.{batch_texts}
use Rattle.tg_keep.specs.Fronts.{AddsFront}
use Rattle.tg_keep.specs.Lines.{history_of}
use Rattle.tg_keep.specs.Runs.{FollowOn, SaysAnswered, all_texts}
use Rattle.tg_keep.specs.declared.batch.Batch.{Batch}
use Rattle.tg_keep.specs.declared.sum.LineSum.{LineSum}

-- the batch at i, of which a read of the list gives this
module _ (batches : List Batch) (i : ℕ) (batch : Batch) (within : i < length batches) (is : batch ≡ get_or batches i batch) where
  pub next_batch : drop i batches ≡ batch ∷ drop (i + 1) batches
  next_batch = drop_more batches i batch within ∙ ap (λ (b : Batch). b ∷ drop (i + 1) batches) (sym is)

  pub more_batches : take (i + 1) batches ≡ take i batches ++ batch ∷ []
  more_batches = take_more batches i batch within ∙ ap (λ (b : Batch). take i batches ++ b ∷ []) (sym is)

  pub follows_next : (sum : LineSum) → FollowOn sum (drop i batches) → (batch.before ≡ sum) × FollowOn batch.sum (drop (i + 1) batches)
  follows_next sum follow = let P : List Batch → Type 0 = λ l. FollowOn sum l in subst P next_batch follow

  pub says_next : (before now next : List (List ℕ)) → now ≡ before ++ all_texts (take i batches) → next ≡ now ++ batch_texts batch → next ≡ before ++ all_texts (take (i + 1) batches)
  says_next before now next so_far more =
      more
      ∙ ap (λ (l : List (List ℕ)). l ++ batch_texts batch) so_far
      ∙ flat_map_more batch_texts before (take i batches) batch
      ∙ ap (λ (l : List Batch). before ++ all_texts l) (sym more_batches)

  pub leaves_next : (before now : List (List ℕ)) (c : List ℕ) → now ≡ before ++ all_texts (take i batches) → AddsFront now (batch_texts batch) (history_of c) → SaysAnswered before batches i c
  leaves_next before now c so_far front =
      let rest = all_texts (drop (i + 1) batches) in
      let others : all_texts (drop i batches) ≡ batch_texts batch ++ rest = ap all_texts next_batch in (
        front.0,
        omega (arith, front.1, ap length others, length-append (batch_texts batch) rest),
        front.2
            ∙ ap (λ (l : List (List ℕ)). l ++ take front.0 (batch_texts batch)) so_far
            ∙ ap (λ (l : List (List ℕ)). (before ++ all_texts (take i batches)) ++ l) (sym (take-append-le front.0 (batch_texts batch) rest front.1))
            ∙ ap (λ (l : List (List ℕ)). (before ++ all_texts (take i batches)) ++ take front.0 l) (sym others),
      )

pub leaves_all : (before : List (List ℕ)) (batches : List Batch) (n : ℕ) (c : List ℕ) → length batches ≤ n → history_of c ≡ before ++ all_texts (take n batches) → SaysAnswered before batches n c
leaves_all before batches n c all says = (0, omega arith, says ∙ sym (append-nil (before ++ all_texts (take n batches))))

pub all_batches : (batches : List Batch) (n : ℕ) → length batches ≤ n → take n batches ≡ batches
all_batches batches n all = take_all n batches all

pub says_as : (before : List (List ℕ)) (batches : List Batch) (n : ℕ) (c bytes : List ℕ) → history_of bytes ≡ history_of c → SaysAnswered before batches n c → SaysAnswered before batches n bytes
says_as before batches n c bytes same says = (says.0, says.1, same ∙ says.2)
