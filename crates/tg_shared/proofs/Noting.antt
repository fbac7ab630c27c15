-- The roll after several notes of one maker.
use Rattle.std.proofs.Common.{◌≡◌, ◌∙◌, ℕ, List, [], ◌∷◌, ◌++◌, append_assoc, map, ap, subst, sym}
use Rattle.std.proofs.lemmas.List.{map-append}
use Rattle.tg_rights.specs.RightSet.{RightSet}
use Rattle.tg_journal.specs.declared.entry.Entry.{Entry}
use Rattle.tg_passes.specs.declared.signed.Maker.{Maker}
use Rattle.tg_passes.specs.declared.signed.Maker.TheVariants.{Session}
use Rattle.tg_passes.specs.declared.signed.Signed.{Signed}
use Rattle.tg_passes.specs.Passes.{RollState, sign, sign_all}
use Rattle.tg_store.specs.Leaving.{removal, retiring}
use Rattle.tg_shared.specs.Sessions.{IsGone, SharedStart}

abbrev pub rolled_as : List Signed → ℕ → RollState
rolled_as signed below = record { signed = signed; below = below }

-- these entries, and one more, of one maker
pub sign_more : (maker : Maker) (first : List Signed) (done : List Entry) (e : Entry) → (first ++ sign_all maker done) ++ sign maker e ∷ [] ≡ first ++ sign_all maker (done ++ e ∷ [])
sign_more maker first done e = append_assoc first (sign_all maker done) (sign maker e ∷ []) ∙ ap (λ l. first ++ l) (sym (map-append (sign maker) done (e ∷ [])))

-- one note more
pub signed_all : (first now next : RollState) (worker named : ℕ) (done more : List Entry) (e : Entry) → named ≡ worker → now ≡ record { signed = first.signed ++ sign_all (Session worker) done; below = first.below }
    → next ≡ record { signed = now.signed ++ sign_all (Session named) (e ∷ []); below = now.below } → more ≡ done ++ e ∷ [] → next ≡ record { signed = first.signed ++ sign_all (Session worker) more; below = first.below }
signed_all first now next worker named done more e same before after is =
    after ∙ (λ i. rolled_as ((before i).signed ++ sign (Session (same i)) e ∷ []) (before i).below)
    ∙ ap (λ (l : List Signed). rolled_as l first.below) (sign_more (Session worker) first.signed done e ∙ ap (λ (l : List Entry). first.signed ++ sign_all (Session worker) l) (sym is))

-- and the last of a leave
pub left_signed : (roll looked now : RollState) (worker first named : ℕ) (row taken : List (ℕ × RightSet)) (e : Entry) → first ≡ worker → named ≡ first → looked ≡ roll
    → now ≡ record { signed = looked.signed ++ sign_all (Session first) (map (removal first) taken); below = looked.below } → taken ≡ row → e ≡ retiring first
    → roll.signed ++ sign_all (Session worker) (map (removal worker) row ++ retiring worker ∷ []) ≡ now.signed ++ sign_all (Session named) (e ∷ [])
left_signed roll looked now worker first named row taken e same named_is same_roll before all is =
    sym
    (
    (λ i. (before i).signed ++ sign (Session (named_is i)) (is i) ∷ [])
    ∙ sign_more (Session first) looked.signed (map (removal first) taken) (retiring first)
    ∙ (λ i. (same_roll i).signed ++ sign_all (Session (same i)) (map (removal (same i)) (all i) ++ retiring (same i) ∷ []))
    )

pub gone_moved : (start : SharedStart) (p q : List Signed) (v w : ℕ) → p ≡ q → v ≡ w → IsGone start p v → IsGone start q w
gone_moved start p q v w same named gone = subst (λ (n : ℕ). IsGone start q n) named (subst (λ (l : List Signed). IsGone start l v) same gone)
