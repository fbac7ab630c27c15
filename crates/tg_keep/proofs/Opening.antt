-- What was read of a file is on its disk.
use Rattle.std.proofs.Common.{◌≡◌, ℕ, List, sym, ◌∙◌, ap, subst, arith}
use Rattle.std.specs.Prelude.{IsTrue, Result, Err}
use Rattle.sqlite_disk.specs.Disk.{Only}
use Rattle.tg_keep.specs.Lines.{first_sum, length_after}
use Rattle.tg_keep.specs.Opened.{CausesFault, HasLinesTo, is_of_disk}
use Rattle.tg_keep.specs.declared.fault.FileFault.{FileFault}

pub lines_to : {D : Type 0} (seen : D → List ℕ) (may_leave : D → List ℕ → Type 0) (end : ℕ) (old mid : D) (bytes : List ℕ) → end ≡ length_after first_sum bytes → bytes ≡ seen mid → seen mid ≡ seen old
    → Only (seen old) (may_leave mid) → HasLinesTo seen may_leave end mid
lines_to seen may_leave end old mid bytes place same kept only =
    let P : List ℕ → Type 0 = λ f. Only f (may_leave mid) in
    record {
      lines = place ∙ ap (length_after first_sum) same;
      durable = subst P (sym kept) only;
    }

-- a fault that isn't the disk's, where the disk didn't fail
pub caused_by_text : {T : Type 0} (result : Result T FileFault) (e f : FileFault) (old new : ℕ) → result ≡ Err e → e ≡ f → (IsTrue (is_of_disk f) → ⊥) → new ≡ old → CausesFault result old new
caused_by_text {T} result e f old new is same own kept =
    let P : Result T FileFault → Type 0 = λ r. CausesFault r old new in
    let Q : FileFault → Type 0 = λ x. CausesFault {T = T} (Err x) old new in
    subst P (sym is) (subst Q (sym same) (λ disk. absurd (own disk), omega (arith, kept)))
