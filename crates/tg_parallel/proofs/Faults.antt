-- The fault that is told where several helpers have one.
use Rattle.std.proofs.Common.{◌≡◌, ◌≢◌, List, [], ◌∷◌, ◌++◌, map, length, Result, Ok, Err, IfErr, IfOk, refl, subst, sym, ap, inl, inr, arith}
use Rattle.tg_space.specs.declared.room_fault.RoomFault.{RoomFault}
use Rattle.tg_space.specs.declared.room_fault.RoomFault.TheVariants.{HeapFull}
use Rattle.tg_parallel.specs.declared.part.Helped.{Helped}
use Rattle.tg_parallel.specs.declared.part.Part.{Part}
use Rattle.tg_parallel.specs.Helping.{IsFaultOfLeast, IsOfBoth, parts_helped}

-- each part was made
abbrev pub AreAllMade : List (Result Part RoomFault) → Type 0
AreAllMade [] = Unit {0}
AreAllMade (Ok part ∷ parts) = AreAllMade parts
AreAllMade (Err why ∷ parts) = ⊥

made_push : (parts : List (Result Part RoomFault)) (c : Part) → AreAllMade parts → AreAllMade (parts ++ Ok c ∷ [])
made_push [] c made = tt
made_push (Ok p ∷ parts) c made = made_push parts c made
made_push (Err why ∷ parts) c made = absurd made

-- where all before are made, the fault of the last is that of the least
last_least : (parts : List (Result Part RoomFault)) (why : RoomFault) → AreAllMade parts → IsFaultOfLeast (parts ++ Err why ∷ []) why
last_least [] why made = inl refl
last_least (Ok p ∷ parts) why made = last_least parts why made
last_least (Err other ∷ parts) why made = absurd made

memory_least : (parts : List (Result Part RoomFault)) (c : Part) (fault : RoomFault) → AreAllMade parts → fault ≢ HeapFull → IsFaultOfLeast (parts ++ Ok c ∷ []) fault
memory_least [] c fault made other = other
memory_least (Ok p ∷ parts) c fault made other = memory_least parts c fault made other
memory_least (Err why ∷ parts) c fault made other = absurd made

-- a fault of the least stays it after more parts
still_least : (parts : List (Result Part RoomFault)) (next : Result Part RoomFault) (fault : RoomFault) → IsFaultOfLeast parts fault → IsFaultOfLeast (parts ++ next ∷ []) fault
still_least [] (Ok p) fault least = least
still_least [] (Err why) fault least = inr least
still_least (Ok p ∷ parts) next fault least = still_least parts next fault least
still_least (Err why ∷ parts) next fault least = least

module _ (parts : List (Result Part RoomFault)) where
  pub all_made : (a b c : Result Part RoomFault) → IsOfBoth a b c → IfOk a (λ part. AreAllMade parts) → IfOk c (λ part. AreAllMade (parts ++ b ∷ []))
  all_made (Ok a) (Ok b) (Ok c) both made = made_push parts b made
  all_made (Ok a) (Err why) (Ok c) both made = absurd both
  all_made (Err why) b (Ok c) both made = absurd both
  all_made a b (Err fault) both made = tt

  pub least_of_all : (a b c : Result Part RoomFault) → IsOfBoth a b c → IfOk a (λ part. AreAllMade parts) → IfErr a (IsFaultOfLeast parts) → IfErr c (IsFaultOfLeast (parts ++ b ∷ []))
  least_of_all a b (Ok c) both made least = tt
  least_of_all (Ok a) (Ok b) (Err fault) both made least = memory_least parts b fault made both
  least_of_all (Ok a) (Err why) (Err fault) both made least = subst (IsFaultOfLeast (parts ++ Err why ∷ [])) (sym both) (last_least parts why made)
  least_of_all (Err why) b (Err fault) both made least = subst (IsFaultOfLeast (parts ++ b ∷ [])) (sym both) (still_least parts b why least)

pub own_fault : (own a b c : Result Part RoomFault) → IsOfBoth a b c → IfErr own (λ fault. a ≡ Err fault) → IfErr own (λ fault. c ≡ Err fault)
own_fault (Ok p) a b c both is = tt
own_fault (Err fault) a b c both is = told c (subst (λ (r : Result Part RoomFault). IsOfBoth r b c) is both)
  where
    told : (c : Result Part RoomFault) → IsOfBoth (Err fault) b c → c ≡ Err fault
    told (Ok p) none = absurd none
    told (Err why) same = ap (λ (f : RoomFault). Err f) same

pub parts_push : (mine : Helped) (theirs : List Helped) (next : Helped) → parts_helped mine theirs ++ next.part ∷ [] ≡ parts_helped mine (theirs ++ next ∷ [])
parts_push mine theirs next = ap (λ (l : List (Result Part RoomFault)). mine.part ∷ l) (pushed theirs)
  where
    pushed : (l : List Helped) → map (λ (r : Helped). r.part) l ++ next.part ∷ [] ≡ map (λ (r : Helped). r.part) (l ++ next ∷ [])
    pushed [] = refl
    pushed (h ∷ l) = ap (λ (m : List (Result Part RoomFault)). h.part ∷ m) (pushed l)

-- a list with no item
pub empty_is : (l : List Helped) → length l ≡ 0 → l ≡ []
empty_is [] none = refl
empty_is (h ∷ l) none = absurd (omega arith)
