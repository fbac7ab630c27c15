-- A batch of creates for which a purse pays, vertex by vertex, and what the client's session knows then.
use Rattle.std.proofs.Common.{◌≡◌, ◌↔◌, ◌⊎◌, inl, inr, ℕ, ◌+◌, List, Result, Err, take, ap, arith, subst}
use Rattle.tg_rights.specs.RightSet.{RightSet}
use Rattle.tg_model.specs.declared.value.Value.{Value}
use Rattle.tg_store.specs.declared.fault.CreateFault.{CreateFault}
use Rattle.tg_store.specs.declared.fault.CreateFault.TheVariants as fault
use Rattle.tg_shared.specs.declared.creating.CreatesFault.TheVariants.{Stopped}
use Rattle.tg_shared.specs.Creating.{creating}
use Rattle.tg_shared.specs.Sessions.{HoldsWhenFree, LockedState, SessionState, SharedStart}
use Rattle.tg_shared.proofs.Replies.{IsReady, refused_ready}
use Rattle.tg_shares.specs.declared.fault.Lack.{Lack}
use Rattle.tg_shares.specs.declared.fault.PaidCreatesFault.{PaidCreatesFault}
use Rattle.tg_shares.specs.declared.fault.PaidCreatesFault.TheVariants.{Share, Store}
use Rattle.tg_shares.specs.declared.fault.ShareFault.{ShareFault}
use Rattle.tg_shares.specs.declared.purse.Portion.{Portion}
use Rattle.tg_shares.specs.Creating.{LacksVertex, StopsMakingPaid, StopsPaidCreates}
use Rattle.tg_shares.specs.Shares.{LacksToMake, Pays, entries_alone, one_vertex, vertices_with_entries}
use Rattle.tg_shares.proofs.SeenCalls.{kept_none}
use Rattle.tg_shares.proofs.SeenCreates.{makes_all, stops_creates}

-- ---- in the lock

-- one vertex more was paid for
pub pays_more : (done : ℕ) (old mid new : Portion) → Pays (vertices_with_entries done) old mid → Pays one_vertex mid new → Pays (vertices_with_entries (done + 1)) old new
pays_more done old mid new was more =
    let vertices : mid.vertices + done ≡ old.vertices = was.vertices in
    let entries : mid.entries + done ≡ old.entries = was.entries in
    let vertex : new.vertices + 1 ≡ mid.vertices = more.vertices in
    let entry : new.entries + 1 ≡ mid.entries = more.entries in
    record { vertices = omega (arith, vertices, vertex); entries = omega (arith, entries, entry) }

-- what a purse lacks that may make no vertex
pub lacks_vertex : {T : Type 0} (worker : ℕ) (purse part : Portion) (why : ShareFault) → part ≡ entries_alone 0 → why.worker ≡ worker
    → ((lack : Lack) → (◌≡◌ {A = Result T ShareFault} (Err why) (Err (record { worker = worker; lacks = lack }))) ↔ LacksToMake part purse lack) → LacksVertex worker purse why
lacks_vertex worker purse part why none named told = record {
  named = named;
  lacks = subst (λ (p : Portion). LacksToMake p purse why.lacks) none ((told why.lacks).0 (λ i. Err (record { worker = named i; lacks = why.lacks })));
}

-- ---- what the session knows

pub stops_paid_creates : (start : SharedStart) (label : RightSet) (values left : List Value) (v w : LockedState) (old ready new : SessionState) (rest : Portion) → IsReady start v old ready → HoldsWhenFree start w → (fault : PaidCreatesFault)
    → StopsMakingPaid label values left v w ready new rest fault → StopsPaidCreates start label values left old new rest fault
stops_paid_creates start label values left v w old ready new rest is_so held (Store fault) stop = stops_creates start label values left v w old ready new is_so held fault stop
stops_paid_creates start label values left v w old ready new rest is_so held (Share done why) stop =
    let first : ℕ = stop.made.first in
    record {
      place = stop.place;
      left_is = stop.left_is;
      none = λ zero. (refused_ready start v old ready new is_so
          (kept_none (creating ready.worker label (take done values) first) v w ready new (ap (λ (n : ℕ). creating ready.worker label (take n values) first) zero) is_so.all stop.made.added)).0;
      some = λ _. makes_all start label (take done values) v w old ready new is_so stop.made;
      lacking = subst (λ (n : ℕ). LacksVertex n rest why) is_so.looked.kept.0 stop.lacking;
    }

-- ---- before the lock

-- no vertex was asked for, so none is refused for their number
pub early_not_full : {N : Type 0} (why : CreateFault) (first done : ℕ) → ((why ≡ fault.NoSuchWorker) × N) ⊎ (why ≡ fault.OutOfMemory)
    → ◌≡◌ {A = Result ℕ PaidCreatesFault} (Err (Store (Stopped first why))) (Err (Store (Stopped done fault.VerticesFull))) → ⊥
early_not_full why first done (inl none) = λ is. let no : ⊥ = cc (none.0, is) in no
early_not_full why first done (inr memory) = λ is. let no : ⊥ = cc (memory, is) in no
