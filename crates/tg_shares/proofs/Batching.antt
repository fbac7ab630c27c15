-- A batch of commands for which a purse pays: what was done of it in the lock, and what the client's session knows then.
use Rattle.std.proofs.Common.{◌≡◌, ◌∙◌, ℕ, ◌+◌, ◌<◌, ◌≤◌, min, Bool, true, false, List, [], ◌∷◌, Some, Result, Ok, Err, length, length-take-le, ltb-true, map, take, take-take, get_or-take, ap, arith, refl, subst, sym}
use Rattle.std.proofs.lemmas.Option.{get_or_from_slice_get, slice_get-get_or, slice_get_within}
use Rattle.std.specs.Prelude.{IfErr, IfOk, OnOk, if◌then◌else◌, nat_lt}
use Rattle.tg_model.specs.declared.command.Command.{Command}
use Rattle.tg_model.specs.declared.command.Deed.TheVariants.{Plain}
use Rattle.tg_journal.specs.declared.entry.Entry.{Entry}
use Rattle.tg_store.specs.Batch.{IsRefusedAt}
use Rattle.tg_store.specs.declared.batch.BatchFault.{BatchFault}
use Rattle.tg_store.specs.declared.batch.BatchFault.TheVariants.{Stopped, TooLong}
use Rattle.tg_store.specs.declared.fault.ApplyFault.{ApplyFault}
use Rattle.tg_store.specs.Store.{StoreState}
use Rattle.tg_shared.specs.Batch.{AddsInLock, ServesAll, StopsServing}
use Rattle.tg_shared.specs.Sessions.{HoldsWhenFree, LockedState, SessionState, SharedStart}
use Rattle.tg_shared.proofs.Replies.{IsReady, refused_ready}
use Rattle.tg_shares.specs.declared.fault.PaidCallsFault.{PaidCallsFault}
use Rattle.tg_shares.specs.declared.fault.PaidCallsFault.TheVariants.{Share, Store}
use Rattle.tg_shares.specs.declared.fault.ShareFault.{ShareFault}
use Rattle.tg_shares.specs.declared.purse.Portion.{Portion}
use Rattle.tg_shares.specs.Batch.{StopsPaidCalls, StopsPaying, commands_done, no_entries, paid_answer}
use Rattle.tg_shares.specs.Shares.{Pays, entries_alone}
use Rattle.tg_shares.proofs.SeenCalls.{answers_all, kept_none, stops_calls}

-- ---- the answer

-- whether the purse could pay for all or not, so many were done
done_either : (b : Bool) (done : ℕ) (why : ShareFault) → commands_done (if b then Err (Share done why) else Ok done) ≡ done
done_either true done why = refl
done_either false done why = refl

-- ---- in the lock: the front of the commands was asked for

module _ (commands : List Command) (most worker : ℕ) (v w : LockedState) (ready new : SessionState) (small : most ≤ length commands) where
  long_front : length (take most commands) ≡ most
  long_front = length-take-le most commands small

  pub done_within : (answer : Result ℕ BatchFault) → IfOk answer (λ count. count ≡ length (take most commands)) → IfErr answer (StopsServing (take most commands) v w ready new) → commands_done (paid_answer answer (length commands) worker) ≤ most
  done_within (Ok count) all stop =
      let is = done_either (nat_lt count (length commands)) count (no_entries worker) in
      let long = long_front in
      omega (arith, is, all, long)
  done_within (Err TooLong) all stop = absurd stop
  done_within (Err (Stopped done why)) all stop =
      let inside = slice_get_within (take most commands) done stop.refused.next stop.refused.there in
      let long = long_front in
      omega (arith, inside, long)

  -- exactly those that were done were served
  pub served_front : (answer : Result ℕ BatchFault) → IfOk answer (λ count. count ≡ length (take most commands)) → OnOk answer (ServesAll (take most commands) v w ready new) → IfErr answer (StopsServing (take most commands) v w ready new)
      → ServesAll (take (commands_done (paid_answer answer (length commands) worker)) commands) v w ready new
  served_front (Ok count) all served stop =
      let is : commands_done (paid_answer (Ok count) (length commands) worker) ≡ most = done_either (nat_lt count (length commands)) count (no_entries worker) ∙ all ∙ long_front in
      subst (λ (n : ℕ). ServesAll (take n commands) v w ready new) (sym is) served
  served_front (Err TooLong) all served stop = absurd stop
  served_front (Err (Stopped done why)) all served stop =
      let inside = slice_get_within (take most commands) done stop.refused.next stop.refused.there in
      let long = long_front in
      subst (λ (cs : List Command). ServesAll cs v w ready new) (take-take done most commands (omega (arith, inside, long))) stop.served

  -- the command at a place was refused of the front, and so of all
  refused_front : (s : StoreState) (done : ℕ) (why : ApplyFault) → IsRefusedAt worker (take most commands) s done why → IsRefusedAt worker commands s done why
  refused_front s done why told =
      let inside : done < length (take most commands) = slice_get_within (take most commands) done told.next told.there in
      let long = long_front in
      record {
        next = told.next;
        there = slice_get-get_or commands done told.next (omega (arith, inside, long, small))
            ∙ ap (λ (c : Command). Some c) (sym (get_or-take most commands done told.next (omega (arith, inside, long))) ∙ get_or_from_slice_get (take most commands) done told.next told.next told.there);
        no_such_worker = told.no_such_worker;
        full = told.full;
      }

-- if the purse could not pay for all, it is empty, and the next one could not be paid for
not_paid : (b : Bool) (count : ℕ) (commands : List Command) (v w : LockedState) (ready new : SessionState) (rest : Portion) → nat_lt count (length commands) ≡ b → ServesAll (take count commands) v w ready new → (count < length commands → rest.entries ≡ 0)
    → IfErr (if b then Err (Share count (no_entries ready.worker)) else Ok count) (StopsPaying commands v w ready new rest)
not_paid true count commands v w ready new rest is served spent =
    let inside = ltb-true count (length commands) is in
    record { place = inside; served = served; spent = spent inside; named = refl }
not_paid false count commands v w ready new rest is served spent = tt

-- the purse is empty, if less was asked for than there is
empty_then : (count most all : ℕ) (full rest : Portion) → count ≡ most → most ≡ min full.entries all → rest.entries + count ≡ full.entries → count < all → rest.entries ≡ 0
empty_then count most all full rest done small paid low = omega (arith, done, small, paid, low)

-- the answer to the front tells of all
stopped_all : (commands : List Command) (most : ℕ) (v w : LockedState) (ready new : SessionState) → most ≤ length commands → (full rest : Portion) → most ≡ min full.entries (length commands) → (answer : Result ℕ BatchFault)
    → IfOk answer (λ count. count ≡ length (take most commands)) → OnOk answer (ServesAll (take most commands) v w ready new) → IfErr answer (StopsServing (take most commands) v w ready new)
    → rest.entries + commands_done (paid_answer answer (length commands) ready.worker) ≡ full.entries → IfErr (paid_answer answer (length commands) ready.worker) (StopsPaying commands v w ready new rest)
stopped_all commands most v w ready new small full rest least (Ok count) all served stop paid =
    let is : count ≡ most = all ∙ length-take-le most commands small in
    let so : commands_done (paid_answer (Ok count) (length commands) ready.worker) ≡ count = done_either (nat_lt count (length commands)) count (no_entries ready.worker) in
    let spent : rest.entries + count ≡ full.entries = subst (λ (n : ℕ). rest.entries + n ≡ full.entries) so paid in
    not_paid (nat_lt count (length commands)) count commands v w ready new rest refl (subst (λ (n : ℕ). ServesAll (take n commands) v w ready new) (sym is) served)
    (empty_then count most (length commands) full rest is least spent)
stopped_all commands most v w ready new small full rest least (Err TooLong) all served stop paid = absurd stop
stopped_all commands most v w ready new small full rest least (Err (Stopped done why)) all served stop paid = record {
  served = served_front commands most ready.worker v w ready new small (Err (Stopped done why)) tt tt stop;
  refused = refused_front commands most ready.worker v w ready new small w.store done why stop.refused;
}

-- The front of the commands that the purse can pay for was asked for, and this is the answer to all of them.
pub record ServesFront (commands : List Command) (v w : LockedState) (ready new : SessionState) (full : Portion) (result : Result ℕ PaidCallsFault) : Type 0 where
  pub most : ℕ
  pub answer : Result ℕ BatchFault
  pub least : most ≡ min full.entries (length commands)
  pub is : result ≡ paid_answer answer (length commands) ready.worker
  pub all : IfOk answer (λ count. count ≡ length (take most commands))
  pub served : OnOk answer (ServesAll (take most commands) v w ready new)
  pub stop : IfErr answer (StopsServing (take most commands) v w ready new)

pub serves_front : (commands front : List Command) (v w : LockedState) (ready new : SessionState) (full : Portion) (most : ℕ) (answer : Result ℕ BatchFault) (result : Result ℕ PaidCallsFault) → front ≡ take most commands → most ≡ min full.entries (length commands)
    → result ≡ paid_answer answer (length commands) ready.worker → IfOk answer (λ count. count ≡ length front) → OnOk answer (ServesAll front v w ready new) → IfErr answer (StopsServing front v w ready new) → ServesFront commands v w ready new full result
serves_front commands front v w ready new full most answer result same least is all served stop = record {
  most = most;
  answer = answer;
  least = least;
  is = is;
  all = subst (λ (cs : List Command). IfOk answer (λ count. count ≡ length cs)) same all;
  served = subst (λ (cs : List Command). OnOk answer (ServesAll cs v w ready new)) same served;
  stop = subst (λ (cs : List Command). IfErr answer (StopsServing cs v w ready new)) same stop;
}

module _ (commands : List Command) (v w : LockedState) (ready new : SessionState) (full : Portion) (result : Result ℕ PaidCallsFault) (front : ServesFront commands v w ready new full result) where
  abbrev told : Result ℕ PaidCallsFault
  told = paid_answer front.answer (length commands) ready.worker

  small : front.most ≤ length commands
  small = let least = front.least in omega (arith, least)

  same_done : commands_done result ≡ commands_done told
  same_done = ap (λ (r : Result ℕ PaidCallsFault). commands_done r) front.is

  low_done : commands_done told ≤ front.most
  low_done = done_within commands front.most ready.worker v w ready new small front.answer front.all front.stop

  -- what was done are the first of the commands
  pub paid_length : length (take (commands_done result) commands) ≡ commands_done result
  paid_length = length-take-le (commands_done result) commands (let least = front.least in let low = low_done in let same = same_done in omega (arith, least, low, same))

  pub paid_front : ServesAll (take (commands_done result) commands) v w ready new
  paid_front = subst (λ (n : ℕ). ServesAll (take n commands) v w ready new) (sym same_done) (served_front commands front.most ready.worker v w ready new small front.answer front.all front.served front.stop)

  pub paid_stopped : (rest : Portion) → Pays (entries_alone (commands_done result)) full rest → IfErr result (StopsPaying commands v w ready new rest)
  paid_stopped rest paid =
      let spent : rest.entries + commands_done told ≡ full.entries = subst (λ (n : ℕ). rest.entries + n ≡ full.entries) same_done paid.entries in
      subst (λ (r : Result ℕ PaidCallsFault). IfErr r (StopsPaying commands v w ready new rest)) (sym front.is)
      (stopped_all commands front.most v w ready new small full rest front.least front.answer front.all front.served front.stop spent)

-- ---- what the session knows

nil_of : (made : List Entry) → map (λ (e : Entry). e.deed) made ≡ [] → made ≡ []
nil_of [] is = refl
nil_of (e ∷ made) is = let no : ⊥ = cc in absurd no

pub stops_paid_calls : (start : SharedStart) (v w : LockedState) (old ready new : SessionState) (commands : List Command) (rest : Portion) → IsReady start v old ready → HoldsWhenFree start w → (fault : PaidCallsFault) → StopsPaying commands v w ready new rest fault
    → StopsPaidCalls start commands old new rest fault
stops_paid_calls start v w old ready new commands rest is_so held (Store fault) stop = stops_calls start v w old ready new commands is_so held fault stop
stops_paid_calls start v w old ready new commands rest is_so held (Share done why) stop =
    let served : ServesAll (take done commands) v w ready new = stop.served in
    let made : List Entry = served.applies.made in
    let added : AddsInLock made v w ready new =
    record { made = served.applies.entries; legal = served.applies.legal; opening = served.applies.opening; collections = served.applies.collections; receipts = served.receipts; signed = served.signed; seen = served.seen } in
    let nothing : done ≡ 0 → made ≡ [] = λ zero. nil_of made (served.applies.theirs.deeds ∙ ap (λ (n : ℕ). map (λ (c : Command). Plain c) (take n commands)) zero) in
    record {
      place = stop.place;
      none = λ zero. (refused_ready start v old ready new is_so (kept_none made v w ready new (nothing zero) is_so.all added)).0;
      some = λ _. answers_all start v w old ready new (take done commands) is_so served;
      spent = stop.spent;
      named = stop.named ∙ ap (λ (n : ℕ). no_entries n) is_so.looked.kept.0;
    }
