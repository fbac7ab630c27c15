-- What follows of a result, or of a value that there may be.
use Rattle.std.proofs.Common.{◌≡◌, Option, Some, None, Result, Ok, Err}
use Rattle.std.specs.Prelude.{IfSome, OnOk, OnErr}
use Rattle.tg_space.specs.declared.room_fault.RoomFault.TheVariants.{HeapFull, OutOfMemory}
use Rattle.tg_space.specs.declared.room_fault.RoomFault.{RoomFault}

pub either_way : {T E A B C : Type 0} (r : Result T E) → OnOk r A → OnErr r B → (A → C) → (B → C) → C
either_way (Ok x) done refused f g = f done
either_way (Err e) done refused f g = g refused

-- a result is one of two
pub ok_or_err : {T E : Type 0} (x : T) (e : E) → ◌≡◌ {A = Result T E} (Ok x) (Err e) → ⊥
ok_or_err x e same = cc

-- lack of memory isn't reported as a full heap
pub memory_or_full : OutOfMemory ≡ HeapFull → ⊥
memory_or_full same = cc

pub no_full : {T : Type 0} → ◌≡◌ {A = Result T RoomFault} (Err OutOfMemory) (Err HeapFull) → ⊥
no_full same = let inside : OutOfMemory ≡ HeapFull = cc in memory_or_full inside

pub always_ok : {T E A : Type 0} (r : Result T E) → A → OnOk r A
always_ok (Ok x) a = a
always_ok (Err e) a = tt

pub error_gives : {T E A B : Type 0} (r : Result T E) → (A → B) → OnErr r A → OnErr r B
error_gives (Ok x) gives a = tt
error_gives (Err e) gives a = gives a

pub success_gives : {T E A B : Type 0} (r : Result T E) → (A → B) → OnOk r A → OnOk r B
success_gives (Ok x) gives a = gives a
success_gives (Err e) gives a = tt

pub both_oks : {T E : Type 0} (A B : Type 0) (r : Result T E) → OnOk r A → OnOk r B → OnOk r (A × B)
both_oks A B (Ok x) one two = (one, two)
both_oks A B (Err e) one two = tt

pub both_errors : {T E : Type 0} (A B : Type 0) (r : Result T E) → OnErr r A → OnErr r B → OnErr r (A × B)
both_errors A B (Ok x) one two = tt
both_errors A B (Err e) one two = (one, two)

-- what follows from what is known of a value, if there is one
pub if_some : {T : Type 0} (o : Option T) (P Q : T → Type 0) → ((x : T) → P x → Q x) → IfSome o P → IfSome o Q
if_some (Some x) P Q gives is = gives x is
if_some None P Q gives is = tt
