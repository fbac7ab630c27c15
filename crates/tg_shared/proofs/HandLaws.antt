-- The entries that are made of a session's hand: their receipts, the store in the lock, and what the session knows then.
use Rattle.std.proofs.Common.{◌≡◌, ◌≢◌, ◌↔◌, ◌⊎◌, ◌∙◌, ℕ, ◌+◌, ◌<◌, Bool, false, true, List, [], ◌∷◌, ◌++◌, Option, Some, None, Result, Ok, Err, length, length-append, add-zero, ap, arith, inl, inr, refl, subst, sym, ⊎_elim}
use Rattle.std.specs.Prelude.{IfErr, IfOk}
use Rattle.std.specs.List.{All}
use Rattle.std.specs.Option.{option_or}
use Rattle.std.proofs.lemmas.List.{append-nil}
use Rattle.std.proofs.lemmas.List.Elements.{All-cons, All-nil}
use Rattle.tg_model.specs.declared.command.Command.{Command}
use Rattle.tg_model.specs.declared.command.Command.TheVariants.{Retire}
use Rattle.tg_model.specs.declared.command.Deed.TheVariants.{Plain}
use Rattle.tg_model.specs.declared.reply.Denial.{Denial}
use Rattle.tg_model.specs.declared.reply.Reply.TheVariants as reply
use Rattle.tg_model.specs.Graph.{IsSubject}
use Rattle.tg_graph.specs.Heap.{HeapState}
use Rattle.tg_journal.specs.declared.entry.Entry.{Entry}
use Rattle.tg_passes.specs.declared.signed.Maker.TheVariants.{Session}
use Rattle.tg_passes.specs.Passes.{RollState, entries_by, sign_all}
use Rattle.tg_store.specs.Handing.{ComesOfHand, LacksCellsToHand, denied_as, done_by, grant_of, take_of}
use Rattle.tg_store.specs.Leaving.{removal}
use Rattle.tg_store.specs.Store.{StoreState, graph_of_store}
use Rattle.tg_store.specs.declared.fault.ApplyFault.{ApplyFault}
use Rattle.tg_store.specs.declared.fault.ApplyFault.TheVariants.{HeapFull, NoSuchWorker, OutOfMemory}
use Rattle.tg_store.specs.declared.handing.Hand.{Hand}
use Rattle.tg_store.specs.declared.handing.Handed.{Handed}
use Rattle.tg_store.specs.declared.handing.Handed.TheVariants.{Done, Denied}
use Rattle.tg_shared.specs.declared.handing.OwnHand.{OwnHand}
use Rattle.tg_shared.specs.Handing.{HandsAtSeen, RefusesHand, ServesHand, entries_handed, hand_by}
use Rattle.tg_shared.specs.Serving.{HasNoted, Signs}
use Rattle.tg_shared.specs.Sessions.{AddsReceipt, AddsReceipts, HoldsWhenFree, IsNobodyAtSeen, KeepsReceipts, LockedState, RecordsNothing, SessionState, SharedStart, retired_behind, retired_by, spawned}
use Rattle.tg_shared.proofs.Replies.{added_all}
use Rattle.tg_shared.proofs.Calls.{err_as, found_with, ok_not_err}
use Rattle.tg_shared.proofs.Knowing.{got_more, looked_none, places_are}
use Rattle.tg_shared.proofs.Leavings.{adds_one}
use Rattle.tg_shared.proofs.Noting.{signed_all}
use Rattle.tg_shared.proofs.Replies.{IsReady, refused_ready}

-- ---- notes one after another

-- The session noted these entries, from this place on. So many entries had been counted.
pub record HasNotedAll (roll : RollState) (total at : ℕ) (old : SessionState) (next : RollState) (sum : ℕ) (new : SessionState) (es : List Entry) : Type 0 where
  pub receipts : AddsReceipts old new at es
  pub rolled : next ≡ record { signed = roll.signed ++ sign_all (Session old.worker) es; below = roll.below }
  pub counted : sum ≡ total + length es
  pub spare : new.spare + length es ≡ old.spare

pub noted_nothing : (roll : RollState) (total at : ℕ) (s : SessionState) → HasNotedAll roll total at s roll total s []
noted_nothing roll total at s = record {
  receipts = (refl {A = ℕ}, sym (append-nil s.receipts), refl {A = ℕ}, refl {A = ℕ}, refl {A = Bool}, sym (append-nil s.made));
  rolled = λ i. record { signed = sym (append-nil roll.signed) i; below = roll.below };
  counted = sym (add-zero total);
  spare = add-zero s.spare;
}

-- one entry more
pub noted_one : {roll now next : RollState} {total sum after at place : ℕ} {old mid new : SessionState} (es : List Entry) (e : Entry) → HasNotedAll roll total at old now sum mid es → AddsReceipt mid new place e.deed e.reply
    → Signs now next mid new (e ∷ []) → new.spare + 1 ≡ mid.spare → after ≡ sum + 1 → place ≡ at + length es → e.worker ≡ mid.worker → HasNotedAll roll total at old next after new (es ++ e ∷ [])
noted_one {roll = roll} {now = now} {next = next} {total = total} {sum = sum} {after = after} {at = at} {place = place} {old = old} {mid = mid} {new = new} es e was receipt signs less more there own =
    let long = length-append es (e ∷ []) in
    let before = was.counted in
    let room = was.spare in
    record {
      receipts = adds_one old mid new at place es e was.receipts receipt there own;
      rolled = signed_all roll now next old.worker mid.worker es (es ++ e ∷ []) e was.receipts.0 was.rolled signs.roll refl;
      counted = omega (arith, long, more, before);
      spare = omega (arith, long, less, room);
    }

-- who makes an entry of a command other than a retire has not retired by it
pub not_retire : (e : Entry) (command : Command) → e.deed ≡ Plain command → retired_by false (Plain command) ≡ false → e.deed ≡ Plain Retire → ⊥
not_retire e command is stays retires =
    let both : false ≡ true = sym stays ∙ ap (retired_by false) (sym is ∙ retires) in
    let no : ⊥ = cc both in no

pub retired_before : (before after : Bool) (e : Entry) (command : Command) → after ≡ retired_by before e.deed → e.deed ≡ Plain command → retired_by false (Plain command) ≡ false → after ≡ true → before ≡ true
retired_before true after e command by is stays now = refl
retired_before false after e command by is stays now =
    let both : false ≡ true = sym (by ∙ ap (retired_by false) is ∙ stays) ∙ now in
    let no : ⊥ = cc both in absurd no

-- ---- the entries of a hand

abbrev first_or : Command → Option (Command × Denial) → Command
first_or other None = other
first_or other (Some denied) = denied.0

-- the denied command is one of the two
denied_is : (one two : Command) (x y : Option Denial) (c : Command) (d : Denial) → option_or (denied_as one x) (denied_as two y) ≡ Some (c, d) → (c ≡ one) ⊎ (c ≡ two)
denied_is one two (Some e) y c d is = inl (sym (ap (first_or one) is))
denied_is one two None (Some e) c d is = inr (sym (ap (first_or two) is))
denied_is one two None None c d is = let no : ⊥ = cc is in absurd no

module _ (h : Hand) (old new : StoreState) where
  -- nobody retires by a hand
  pub stays_handed : (handed : Handed) → ComesOfHand h old new handed → retired_behind false (entries_handed h handed) ≡ false
  stays_handed (Done None) come = refl
  stays_handed (Done (Some back)) come = refl
  stays_handed (Denied command denial) come =
      let same : (c : Command) → command ≡ c → retired_by false (Plain c) ≡ false → retired_by false (Plain command) ≡ false =
      λ c is stays. ap (λ (x : Command). retired_by false (Plain x)) is ∙ stays in
      ⊎_elim
      (λ (is : command ≡ take_of h). same (take_of h) is refl)
      (λ (is : command ≡ grant_of h). same (grant_of h) is refl)
      (denied_is (take_of h) (grant_of h) _ _ command denial come.first)

  pub entries_come : (handed : Handed) → ComesOfHand h old new handed → new.entries ≡ old.entries ++ entries_handed h handed
  entries_come (Done back) come = come.entries
  entries_come (Denied command denial) come = come.entry.entry

  pub opening_comes : (handed : Handed) → ComesOfHand h old new handed → new.opening ≡ old.opening
  opening_comes (Done back) come = come.opening
  opening_comes (Denied command denial) come = come.entry.opening

  pub handed_comes : (handed : Handed) → ComesOfHand h old new handed → new.handed ≡ old.handed
  handed_comes (Done back) come = come.handed
  handed_comes (Denied command denial) come = come.entry.handed

  pub limits_come : (handed : Handed) → ComesOfHand h old new handed → new.heap.table.limits ≡ old.heap.table.limits
  limits_come (Done back) come = come.limits
  limits_come (Denied command denial) come = ap (λ (x : HeapState). x.table.limits) come.entry.heap

own_none : (x : ℕ) → All (λ (e : Entry). e.worker ≡ x) []
own_none x = All-nil (λ (e : Entry). e.worker ≡ x)

own_more : (x : ℕ) (e : Entry) (es : List Entry) → e.worker ≡ x → All (λ (e : Entry). e.worker ≡ x) es → All (λ (e : Entry). e.worker ≡ x) (e ∷ es)
own_more x e es is more = All-cons (λ (e : Entry). e.worker ≡ x) e es is more

-- each is of the one who hands on
pub own_handed : (x : ℕ) (h : Hand) (handed : Handed) → h.via ≡ x → All (λ e. e.worker ≡ x) (entries_handed h handed)
own_handed x h (Done None) is = own_more x (done_by h.via (take_of h)) (done_by h.via (grant_of h) ∷ []) is (own_more x (done_by h.via (grant_of h)) [] is (own_none x))
own_handed x h (Done (Some rights)) is =
    let last : Entry = removal h.via (h.target, rights) in
    own_more x (done_by h.via (take_of h)) (done_by h.via (grant_of h) ∷ last ∷ []) is (own_more x (done_by h.via (grant_of h)) (last ∷ []) is (own_more x last [] is (own_none x)))
own_handed x h (Denied command denial) is = own_more x (record { worker = h.via; deed = Plain command; reply = reply.Denied denial }) [] is (own_none x)

pub none_spawned : (h : Hand) (handed : Handed) → spawned (entries_handed h handed) ≡ 0
none_spawned h (Done None) = refl
none_spawned h (Done (Some rights)) = refl
none_spawned h (Denied command denial) = refl

some_handed : (h : Hand) (handed : Handed) → 0 < length (entries_handed h handed)
some_handed h (Done back) = omega arith
some_handed h (Denied command denial) = omega arith

-- ---- in the lock

pub hand_served : (hand : OwnHand) (h : Hand) (old new : StoreState) (before after : SessionState) (at : ℕ) (handed : Handed) → h ≡ hand_by before.worker hand → at ≡ length old.entries → ComesOfHand h old new handed
    → AddsReceipts before after at (entries_handed h handed) → (◌≡◌ {A = Result Handed ApplyFault} (Ok handed) (Err NoSuchWorker) ↔ (¬ IsSubject (graph_of_store old) h.via)) → ServesHand hand old new before after (Ok handed)
hand_served hand h old new before after at handed is place come receipts nobody = record {
  comes = subst (λ (k : Hand). ComesOfHand k old new handed) is come;
  receipts = subst (λ (k : Hand). AddsReceipts before after (length old.entries) (entries_handed k handed)) is (subst (λ (n : ℕ). AddsReceipts before after n (entries_handed h handed)) place receipts);
  no_such_worker = subst (λ (k : Hand). ◌≡◌ {A = Result Handed ApplyFault} (Ok handed) (Err NoSuchWorker) ↔ (¬ IsSubject (graph_of_store old) k.via)) is nobody;
  full = λ none. absurd (ok_not_err handed HeapFull none);
  refused = tt;
}

pub hand_refused : (hand : OwnHand) (h : Hand) (old new : StoreState) (before after : SessionState) (why : ApplyFault) → h ≡ hand_by before.worker hand → (◌≡◌ {A = Result Handed ApplyFault} (Err why) (Err NoSuchWorker) ↔ (¬ IsSubject (graph_of_store old) h.via))
    → (◌≡◌ {A = Result Handed ApplyFault} (Err why) (Err HeapFull) → LacksCellsToHand h old) → RecordsNothing old new before after → ServesHand hand old new before after (Err why)
hand_refused hand h old new before after why is nobody full nothing = record {
  comes = tt;
  receipts = tt;
  no_such_worker = subst (λ (k : Hand). ◌≡◌ {A = Result Handed ApplyFault} (Err why) (Err NoSuchWorker) ↔ (¬ IsSubject (graph_of_store old) k.via)) is nobody;
  full = λ lacks. subst (λ (k : Hand). LacksCellsToHand k old) is (full lacks);
  refused = nothing;
}

-- ---- what the session knows

longer : (es more : List Entry) → 0 < length more → es ++ more ≢ es
longer es more some same =
    let l = ap (λ (x : List Entry). length x) same in
    let long = length-append es more in
    omega (arith, some, l, long)

hands_at_seen : (start : SharedStart) (v w : LockedState) (old ready new : SessionState) (hand : OwnHand) (handed : Handed) → IsReady start v old ready → HoldsWhenFree start w → HasNoted v w ready new → ComesOfHand (hand_by ready.worker hand) v.store w.store handed
    → AddsReceipts ready new (length v.store.entries) (entries_handed (hand_by ready.worker hand) handed) → HandsAtSeen start hand old new handed
hands_at_seen start v w old ready new hand handed is_so held noted come receipts =
    let keeps = is_so.looked.kept in
    let named : ready.worker ≡ old.worker = keeps.0 in
    let h : Hand = hand_by ready.worker hand in
    let more : List Entry = entries_handed h handed in
    let seen : new.seen ≡ w.signed = noted.seen (λ same. longer ready.made more (some_handed h handed) (sym receipts.5 ∙ same)) in
    record {
      before = v.signed;
      sees = is_so.sees;
      receipts = subst (λ (n : ℕ). AddsReceipts old new n (entries_handed (hand_by old.worker hand) handed)) (places_are start v.store v.signed is_so.held.grown_by)
          (added_all old ready new _ _ keeps (subst (λ (x : ℕ). AddsReceipts ready new (length v.store.entries) (entries_handed (hand_by x hand) handed)) named receipts));
      came = found_with start v.signed _ v is_so.held refl
          (found_with start new.seen (λ s. ComesOfHand (hand_by old.worker hand) v.store s handed) w held seen (subst (λ (x : ℕ). ComesOfHand (hand_by x hand) v.store w.store handed) named come));
      seen = seen ∙ noted.signed ∙ ap (λ (l : List Entry). v.signed ++ sign_all (Session ready.worker) l) (got_more v.store.entries w.store.entries more (entries_come h v.store w.store handed come))
          ∙ (λ i. v.signed ++ sign_all (Session (named i)) (entries_handed (hand_by (named i) hand) handed));
    }

pub handed_at_seen : (start : SharedStart) (v w : LockedState) (old ready new : SessionState) (hand : OwnHand) (result : Result Handed ApplyFault) → IsReady start v old ready → HoldsWhenFree start w → HasNoted v w ready new → ServesHand hand v.store w.store ready new result → IfOk result (HandsAtSeen start hand old new)
handed_at_seen start v w old ready new hand (Ok handed) is_so held noted served = hands_at_seen start v w old ready new hand handed is_so held noted served.comes served.receipts
handed_at_seen start v w old ready new hand (Err why) is_so held noted served = tt

pub refuses_hand : (start : SharedStart) (v : LockedState) (next : StoreState) (old ready new : SessionState) (hand : OwnHand) (result : Result Handed ApplyFault) → IsReady start v old ready → ServesHand hand v.store next ready new result → IfErr result (RefusesHand start hand old new)
refuses_hand start v next old ready new hand (Ok handed) is_so served = tt
refuses_hand start v next old ready new hand (Err why) is_so served =
    let looked = refused_ready start v old ready new is_so served.refused.1 in
    let named : ready.worker ≡ old.worker = is_so.looked.kept.0 in
    record {
      looked = looked.0;
      no_such_worker = λ is. found_with start new.seen (λ s. ¬ IsSubject (graph_of_store s) old.worker) v is_so.held looked.1
          (subst (λ (n : ℕ). ¬ IsSubject (graph_of_store v.store) n) named (served.no_such_worker.0 (ap Err is)));
      full = λ is. found_with start new.seen (LacksCellsToHand (hand_by old.worker hand)) v is_so.held looked.1 (subst (λ (n : ℕ). LacksCellsToHand (hand_by n hand) v.store) named (served.full (ap Err is)));
    }

-- and where no lock was taken
pub refuses_early : (start : SharedStart) (old new : SessionState) (hand : OwnHand) (why : ApplyFault) → KeepsReceipts old new → entries_by (Session old.worker) old.seen ≡ old.made
    → ((why ≡ NoSuchWorker) × IsNobodyAtSeen start old.seen old.worker) ⊎ (why ≡ OutOfMemory) → RefusesHand start hand old new why
refuses_early start old new hand why keeps own (inl none) = record {
  looked = looked_none old new keeps own;
  no_such_worker = λ _. subst (λ l. IsNobodyAtSeen start l old.worker) (sym keeps.6) none.1;
  full = λ is. let no : ⊥ = cc (none.0, is) in absurd no;
}
refuses_early start old new hand why keeps own (inr memory) = record {
  looked = looked_none old new keeps own;
  no_such_worker = λ is. let no : ⊥ = cc (memory, is) in absurd no;
  full = λ is. let no : ⊥ = cc (memory, is) in absurd no;
}
