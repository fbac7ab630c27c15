-- The bits of what a worker holds.
use Rattle.std.proofs.Common.{◌≡◌, ◌⊎◌, inl, inr, true, false, refl, sym, ap}
use Rattle.std.proofs.lemmas.Bool.{cases_Bool}
use Rattle.tg_rights.specs.RightSet.{RightSet, bits_of, is_none_held, label_of}
use Rattle.tg_rights.proofs.RightLaws.{none_held-same}
use Rattle.tg_c.specs.Forms.{rights_out}

-- the bits of a set's label are those of the set
pub rights_same : (s : RightSet) → rights_out (label_of s) ≡ bits_of s
rights_same s = by_test (cases_Bool (is_none_held s))
  where
    by_test : (is_none_held s ≡ true) ⊎ (is_none_held s ≡ false) → rights_out (label_of s) ≡ bits_of s
    by_test (inl t) = rw t (sym (ap bits_of (none_held-same s t)))
    by_test (inr f) = rw f refl
