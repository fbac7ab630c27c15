-- The sum of what is read of a reader.
use Rattle.std.proofs.Common.{◌≡◌, ◌∙◌, ℕ, Bool, true, false, if◌then◌else◌, ◌==◌, List, [], ◌∷◌, ◌++◌, Option, Some, None, IfSome, ap, sym, subst, append-nil}
use Rattle.std.proofs.KnownBytes.{Consumes-nil, Consumes-kept, Consumes-trans, prepend_known-nil}
use Rattle.std.proofs.Math.Logic.{∥∥₁_elim, ∥∥₁_map}
use Rattle.std.specs.Coded.{Coded-set, coded_list, coded_ℕ}
use Rattle.std.specs.declared.io.buffered.BufReader.{BufReader}
use Rattle.std.specs.Io.Buffered.{reader_buffer, reader_capacity, reader_inner, reader_remaining}
use Rattle.std.specs.Io.KnownBytes.{Consumes, IsAtEnd, Keeps, prepend_known}
use Rattle.sha2.specs.declared.Sha256.{Sha256}
use Rattle.sha2.specs.Hashers.{Holds256}
use Rattle.sha2.specs.Sha256.{sha256}
use Rattle.tg_entries.specs.declared.sum.PartHead.{PartHead}
use Rattle.tg_entries.specs.Read.{HasReadAll}
use Rattle.tg_entries.specs.Sums.{HasSummed}
use Rattle.tg_entries.specs.Texts.{IsHeadAfter, IsSavedAfter}

-- nothing was read
pub summed_none : (whole left : Option (List ℕ)) (s : Sha256) → whole ≡ left → Holds256 s [] → ∥ HasSummed whole left s ∥₁
summed_none whole left s same empty = ∣ record {
  front = [];
  taken = subst (λ (x : Option (List ℕ)). Consumes whole x []) same (Consumes-nil whole);
  holds = empty;
} ∣₁

-- these bytes were read, and summed
pub summed_more : (whole now left : Option (List ℕ)) (s t : Sha256) (bytes : List ℕ) → ∥ HasSummed whole now s ∥₁ → Consumes now left bytes →
    ((m : List ℕ) → Holds256 s m → Holds256 t (m ++ bytes)) → ∥ HasSummed whole left t ∥₁
summed_more whole now left s t bytes was taken adds = ∥∥₁_map was (λ (h : HasSummed whole now s). record {
  front = h.front ++ bytes;
  taken = Consumes-trans whole now left h.front bytes h.taken taken;
  holds = adds h.front h.holds;
})

-- nothing more was read
pub summed_kept : (whole now left : Option (List ℕ)) (s : Sha256) → ∥ HasSummed whole now s ∥₁ → Keeps now left → ∥ HasSummed whole left s ∥₁
summed_kept whole now left s was kept = ∥∥₁_map was (λ (h : HasSummed whole now s). record {
  front = h.front;
  taken = Consumes-kept whole now left h.front h.taken kept;
  holds = h.holds;
})

-- where no byte is left, all were taken
whole_front : (xs : List ℕ) (left : Option (List ℕ)) (front : List ℕ) → Consumes (Some xs) left front → IsAtEnd left → xs ≡ front
whole_front xs None front taken end = absurd taken
whole_front xs (Some rest) front taken end = taken ∙ ap (λ (x : List ℕ). front ++ x) end ∙ append-nil front

-- all was read, and summed
pub summed_all : (whole left : Option (List ℕ)) (s : Sha256) (sum : List ℕ) → ∥ HasSummed whole left s ∥₁ → IsAtEnd left →
    ((m : List ℕ) → Holds256 s m → sum ≡ sha256 m) → IfSome whole (λ text. sum ≡ sha256 text)
summed_all None left s sum was end gives = tt
summed_all (Some xs) left s sum was end gives = ∥∥₁_elim was (Coded-set (coded_list coded_ℕ) _ _)
    (λ (h : HasSummed (Some xs) left s). gives h.front h.holds ∙ ap sha256 (sym (whole_front xs left h.front h.taken end)))

-- ---- a buffer before the reader

-- the buffer is empty, and has room
pub buffer_new : (capacity : ℕ) (buffer : List ℕ) (inner : Option (List ℕ)) → capacity ≡ 65536 → buffer ≡ [] →
    (if capacity == 0 then None else prepend_known buffer inner) ≡ inner
buffer_new capacity buffer inner room empty =
    ap (λ (n : ℕ). if n == 0 then None else prepend_known buffer inner) room ∙ ap (λ (b : List ℕ). prepend_known b inner) empty ∙ prepend_known-nil inner

tail_none : (xs ys : List ℕ) → xs ++ ys ≡ [] → ys ≡ []
tail_none [] ys is = is
tail_none (x ∷ xs) ys is = let no : ⊥ = cc in absurd no

-- all was read of a reader with a buffer
pub buffer_end : (bare : Bool) (buffer : List ℕ) (inner : Option (List ℕ)) → (if bare then None else prepend_known buffer inner) ≡ Some [] → IsAtEnd inner
buffer_end bare buffer None is = tt
buffer_end true buffer (Some ys) is = let no : ⊥ = cc in absurd no
buffer_end false buffer (Some ys) is = let same : buffer ++ ys ≡ [] = cc in tail_none buffer ys same

-- the head of the next part
pub head_read : (whole left : Option (List ℕ)) (head : PartHead) → IfSome whole (λ text. IsSavedAfter text head.snapshot) → HasReadAll whole left →
    (left ≡ Some [] → IfSome whole (λ text. head.sum ≡ sha256 text)) → IfSome whole (λ text. IsHeadAfter text head)
head_read None left head saved all sums = tt
head_read (Some text) left head saved all sums = record { saved = saved; sum = sums all }

-- the same, of a part that is read with a buffer, and summed
pub head_summed : {T A : Type 0} (first last : BufReader T A) (remaining : T → Option (List ℕ)) (summed inner : T) (whole known : Option (List ℕ)) (head : PartHead) →
    reader_capacity first ≡ 65536 → reader_buffer first ≡ [] → reader_inner first ≡ summed → remaining summed ≡ known → whole ≡ known →
    IfSome (reader_remaining remaining first) (λ text. IsSavedAfter text head.snapshot) → HasReadAll (reader_remaining remaining first) (reader_remaining remaining last) →
    inner ≡ reader_inner last → (IsAtEnd (remaining inner) → IfSome whole (λ text. head.sum ≡ sha256 text)) → IfSome known (λ text. IsHeadAfter text head)
head_summed {T} {A} first last remaining summed inner whole known head room empty is begun same saved all left sums =
    let from : reader_remaining remaining first ≡ known =
    buffer_new (reader_capacity first) (reader_buffer first) (remaining (reader_inner first)) room empty ∙ ap remaining is ∙ begun in
    head_read known (reader_remaining remaining last) head
    (subst (λ (k : Option (List ℕ)). IfSome k (λ text. IsSavedAfter text head.snapshot)) from saved)
    (subst (λ (k : Option (List ℕ)). HasReadAll k (reader_remaining remaining last)) from all)
    (λ end. subst (λ (k : Option (List ℕ)). IfSome k (λ text. head.sum ≡ sha256 text)) same
    (sums (subst (λ (s : T). IsAtEnd (remaining s)) (sym left) (buffer_end (reader_capacity last == 0) (reader_buffer last) (remaining (reader_inner last)) end))))
