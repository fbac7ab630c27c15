-- What a session and the keeper know of the store in the lock, and what the roll has of it.
use Rattle.std.proofs.Common.{◌≡◌, ◌≢◌, ◌⊎◌, ◌∙◌, ℕ, ◌+◌, ◌<◌, ◌≤◌, Bool, true, false, List, [], ◌∷◌, ◌++◌, length, map, drop, append_assoc, append-nil, length-append, ap, arith, inl, inr, refl, subst, sym, ⊎_elim}
use Rattle.std.specs.List.{All}
use Rattle.std.proofs.lemmas.List.{drop-append-le, drop_all, length-map, map_push}
use Rattle.std.proofs.lemmas.List.Elements.{All-append, All-cons, All-head, All-nil, All-tail}
use Rattle.tg_model.specs.declared.command.Command.TheVariants.{Retire}
use Rattle.tg_model.specs.declared.command.Deed.{Deed}
use Rattle.tg_model.specs.declared.command.Deed.TheVariants.{Plain}
use Rattle.tg_model.specs.Graph.{ProtectionGraph, IsSound, IsSubject}
use Rattle.tg_model.specs.Rules.{step}
use Rattle.tg_model.proofs.SoundLaws.{IsSound-step}
use Rattle.tg_journal.specs.declared.entry.Entry.{Entry}
use Rattle.tg_journal.specs.History.{IsLegal, graph_after}
use Rattle.tg_journal.proofs.HistoryLaws.{IsLegal-cut, IsSound-after, graph_after-append, le-graph_after-made, no_subject-after}
use Rattle.tg_passes.specs.declared.signed.Maker.{Maker}
use Rattle.tg_passes.specs.declared.signed.Maker.TheVariants.{Keeper, Session}
use Rattle.tg_passes.specs.declared.signed.Signed.{Signed}
use Rattle.tg_passes.specs.Passes.{AreOwn, BeginsWith, MayMake, PassState, RollState, Sees, entries_by, entries_of, own_entries, sign, sign_all}
use Rattle.tg_passes.proofs.Signing.{by_append, by_one, by_other, by_others, by_signed, entries_append, entries_signed, own_append, own_by_session, own_signed, session_keeper, whole}
use Rattle.tg_store.specs.Origin.{start_at}
use Rattle.tg_store.specs.Store.{StoreState, IsFaithful, graph_of_store}
use Rattle.tg_store.proofs.OriginLaws.{sound_from}
use Rattle.tg_store.proofs.StandLaws.{sound_of}
use Rattle.tg_shared.specs.declared.receipt.Receipt.{Receipt}
use Rattle.tg_shared.specs.Serving.{HasNoted, Signs}
use Rattle.tg_shared.specs.Sessions.{GoesOn, HasAllUnlessEnded, HasGrownBy, HasLooked, HasMade, HoldsWhenFree, IsGone, IsRolled, KeeperState, KeeperLooked, KeepsReceipts, LockedState, OnlyLooked, SessionState, SharedStart, StaysOut, graph_seen, keeper_knowledge, knowledge, retired_behind, retired_by, sessions_made, since, subjects_at}
use Rattle.tg_shared.proofs.Balances.{graph_more, graph_same, locked_as, not_both}
use Rattle.tg_shared.proofs.Leavings.{legal_more}
use Rattle.tg_shared.proofs.Staying.{behind_append, none_later, who_retired, who_stays}

-- ---- what is in the lock

some_of : (all some more : ℕ) → all ≡ some + more → some ≤ all
some_of all some more is = omega arith

pub free_as : (start : SharedStart) (s : StoreState) (sessions entered : ℕ) (roll : RollState) → IsFaithful s → GoesOn start s → sessions ≡ sessions_made start s.entries → IsRolled start s roll entered → HoldsWhenFree start (locked_as s sessions entered roll.signed)
free_as start s sessions entered roll faithful on made rolled = record {
  faithful = faithful;
  gone_on = on;
  grown_by = rolled.grown;
  entered = rolled.ended;
  sessions = made;
  started = some_of sessions (length (subjects_at start)) _ made;
  none_ended = λ never. rolled.ended ∙ ap (λ (l : List Entry). length l) (rolled.grown.none_ended never);
}

-- ---- the entries since the start

drop_front : (xs ys : List Entry) → drop (length xs) (xs ++ ys) ≡ ys
drop_front xs ys = drop-append-le (length xs) xs ys (omega arith) ∙ ap (λ l. l ++ ys) (drop_all (length xs) xs (omega arith))

-- what a store got more
pub got_more : (old new more : List Entry) → new ≡ old ++ more → drop (length old) new ≡ more
got_more old new more is = ap (drop (length old)) is ∙ drop_front old more

-- the graph after some more than these
pub graph_front : (start : SharedStart) (seen rest : List Signed) → graph_seen start (seen ++ rest) ≡ graph_after (graph_seen start seen) (entries_of rest)
graph_front start seen rest =
    let first : ProtectionGraph = start_at start.opening in
    let all : start.entries ++ entries_of (seen ++ rest) ≡ (start.entries ++ entries_of seen) ++ entries_of rest =
    ap (λ l. start.entries ++ l) (entries_append seen rest) ∙ sym (append_assoc start.entries (entries_of seen) (entries_of rest)) in
    ap (graph_after first) all ∙ graph_after-append first (start.entries ++ entries_of seen) (entries_of rest)

module _ (start : SharedStart) (s : StoreState) (signed : List Signed) (grew : HasGrownBy start s signed) where
  pub since_is : since start s ≡ entries_of signed
  since_is = ap (drop (length start.entries)) grew.all ∙ drop_front start.entries (entries_of signed)

  pub places_are : length s.entries ≡ length start.entries + length signed
  places_are =
      let all = ap (λ (es : List Entry). length es) grew.all in
      omega (arith, all, length-append start.entries (entries_of signed), length-map signed (λ (x : Signed). x.entry))

  -- all stores with these entries have one graph
  pub graph_is : GoesOn start s → graph_of_store s ≡ graph_seen start signed
  graph_is on = λ i. graph_after (start_at (on.opening i)) (grew.all i)

  -- the keeper made none of a worker
  pub none_of : (worker : ℕ) → (start.may_end ≡ true → own_entries worker (entries_by Keeper signed) ≡ []) → own_entries worker (entries_by Keeper signed) ≡ []
  none_of worker alone = by_case start.may_end refl
    where
      by_case : (b : Bool) → start.may_end ≡ b → own_entries worker (entries_by Keeper signed) ≡ []
      by_case true is = alone is
      by_case false is = ap (own_entries worker) (grew.none_ended is)

-- ---- what the roll has

pub grown_same : (start : SharedStart) (old new : StoreState) (signed : List Signed) → HasGrownBy start old signed → new.entries ≡ old.entries → HasGrownBy start new signed
grown_same start old new signed grew entries = record { all = entries ∙ grew.all; owned = grew.owned; none_ended = grew.none_ended }

-- more entries, of one maker
pub grown_more : (start : SharedStart) (old new : StoreState) (signed : List Signed) (maker : Maker) (more : List Entry) → HasGrownBy start old signed → new.entries ≡ old.entries ++ more → All (MayMake maker) more → (start.may_end ≡ false → maker ≢ Keeper)
    → HasGrownBy start new (signed ++ sign_all maker more)
grown_more start old new signed maker more grew entries may isnt = record {
  all = entries ∙ ap (λ l. l ++ more) grew.all ∙ append_assoc start.entries (entries_of signed) more
      ∙ ap (λ l. start.entries ++ l) (sym (entries_append signed (sign_all maker more) ∙ ap (λ l. entries_of signed ++ l) (entries_signed maker more)));
  owned = All-append (λ (x : Signed). MayMake x.by x.entry) signed (sign_all maker more) grew.owned (own_signed maker more may);
  none_ended = λ is. by_append Keeper signed (sign_all maker more) ∙ (λ i. grew.none_ended is i ++ by_others maker Keeper more (isnt is) i);
}

pub rolled_same : (start : SharedStart) (old new : StoreState) (roll : RollState) (entered : ℕ) → IsRolled start old roll entered → new.entries ≡ old.entries → new.opening ≡ old.opening → IsRolled start new roll entered
rolled_same start old new roll entered held entries opening = record {
  grown = grown_same start old new roll.signed held.grown entries;
  ended = held.ended;
  below = subst (λ (g : ProtectionGraph). roll.below ≤ g.made) (sym (graph_same old new entries opening)) held.below;
}

low_more : (old new : StoreState) (more : List Entry) (below : ℕ) → new.entries ≡ old.entries ++ more → new.opening ≡ old.opening → below ≤ (graph_of_store old).made → below ≤ (graph_of_store new).made
low_more old new more below entries opening low =
    let grows = le-graph_after-made (graph_of_store old) more in
    let made = ap (λ (g : ProtectionGraph). g.made) (graph_more old new more entries opening) in
    omega (arith, grows, made, low)

-- more entries of a session, which the roll has too
pub rolled_more : (start : SharedStart) (old new : StoreState) (roll next : RollState) (worker entered : ℕ) (more : List Entry) → IsRolled start old roll entered → new.entries ≡ old.entries ++ more → new.opening ≡ old.opening
    → All (λ e. e.worker ≡ worker) more → next ≡ record { signed = roll.signed ++ sign_all (Session worker) more; below = roll.below } → IsRolled start new next entered
rolled_more start old new roll next worker entered more held entries opening own is =
    subst (λ (r : RollState). IsRolled start new r entered) (sym is)
    (record {
      grown = grown_more start old new roll.signed (Session worker) more held.grown entries own (λ _. session_keeper worker);
      ended = held.ended ∙ sym (ap (λ (l : List Entry). length l) (by_append Keeper roll.signed (sign_all (Session worker) more) ∙ ap (λ l. entries_by Keeper roll.signed ++ l) (by_others (Session worker) Keeper more (session_keeper worker)) ∙ append-nil (entries_by Keeper roll.signed)));
      below = low_more old new more roll.below entries opening held.below;
    })

-- and entries that the keeper made
pub rolled_ended : (start : SharedStart) (old new : StoreState) (roll next : RollState) (entered count : ℕ) (more : List Entry) → IsRolled start old roll entered → new.entries ≡ old.entries ++ more → new.opening ≡ old.opening → start.may_end ≡ true
    → count ≡ length more → next ≡ record { signed = roll.signed ++ sign_all Keeper more; below = roll.below } → IsRolled start new next (entered + count)
rolled_ended start old new roll next entered count more held entries opening may many is =
    subst (λ (r : RollState). IsRolled start new r (entered + count)) (sym is)
    (record {
      grown = grown_more start old new roll.signed Keeper more held.grown entries (any more) (λ none. absurd (not_both start.may_end may none));
      ended =
          let all = ap (λ (l : List Entry). length l) (by_append Keeper roll.signed (sign_all Keeper more) ∙ ap (λ l. entries_by Keeper roll.signed ++ l) (by_signed Keeper more)) in
          let ended = held.ended in
          omega (arith, all, ended, many, length-append (entries_by Keeper roll.signed) more);
      below = low_more old new more roll.below entries opening held.below;
    })
  where
    any : (es : List Entry) → All (MayMake Keeper) es
    any es = λ i d inside. tt

-- and where a worker got a pass
pub rolled_issued : (start : SharedStart) (s : StoreState) (roll next : RollState) (entered name : ℕ) → IsRolled start s roll entered → next.signed ≡ roll.signed → next.below ≡ name + 1 → (graph_of_store s).made ≡ name + 1 → IsRolled start s next entered
rolled_issued start s roll next entered name held same below made = record {
  grown = subst (HasGrownBy start s) (sym same) held.grown;
  ended = held.ended ∙ ap (λ (l : List Signed). length (entries_by Keeper l)) (sym same);
  below = omega (arith, below, made);
}

-- at the start it has nothing
pub rolled_start : (start : SharedStart) (s : StoreState) (roll : RollState) → s.entries ≡ start.entries → roll.signed ≡ [] → roll.below ≤ (graph_of_store s).made → IsRolled start s roll 0
rolled_start start s roll same none low =
    let nothing : HasGrownBy start s [] = record { all = same ∙ sym (append-nil start.entries); owned = λ i d inside. absurd (omega arith); none_ended = λ _. refl } in
    record { grown = subst (HasGrownBy start s) (sym none) nothing; ended = ap (λ (l : List Signed). length (entries_by Keeper l)) (sym none); below = low }

-- ---- what a session knows

-- the same but for what it has seen
pub kept_seen : (old new : SessionState) (all : List Signed) → new ≡ record old { seen = all } → KeepsReceipts (record old { seen = new.seen }) new
kept_seen old new all is = (ap (λ (x : SessionState). x.worker) is, ap (λ (x : SessionState). x.receipts) is, ap (λ (x : SessionState). x.handed) is, ap (λ (x : SessionState). x.parts) is, ap (λ (x : SessionState). x.retired) is, ap (λ (x : SessionState). x.made) is, refl)

pub kept_all : (s : SessionState) → KeepsReceipts s s
kept_all s = (refl, refl, refl, refl, refl, refl, refl)

-- a session that saw all entries, and looked
pub looked_all : (old new : SessionState) (all : List Signed) → new ≡ record old { seen = all } → Sees all (knowledge old) → HasLooked old new
looked_all old new all is sees = record {
  kept = kept_seen old new all is;
  grown = subst (λ (x : SessionState). BeginsWith x.seen old.seen) (sym is) sees.front;
  own = subst (λ (x : SessionState). entries_by (Session x.worker) x.seen ≡ x.made) (sym is) sees.own;
}

pub only_looked : (old new : SessionState) (all : List Signed) → new ≡ record old { seen = all } → Sees all (knowledge old) → OnlyLooked old new
only_looked old new all is sees = record {
  looked = looked_all old new all is sees;
  same = is ∙ (λ i. record old { seen = sym (ap (λ (x : SessionState). x.seen) is) i });
}

-- one that did nothing has looked too
pub looked_none : (old new : SessionState) → KeepsReceipts old new → entries_by (Session old.worker) old.seen ≡ old.made → HasLooked old new
looked_none old new keeps own = record {
  kept = (keeps.0, keeps.1, keeps.2, keeps.3, keeps.4, keeps.5, refl);
  grown = subst (λ (l : List Signed). BeginsWith l old.seen) (sym keeps.6) (whole old.seen);
  own = (λ i. entries_by (Session (keeps.0 i)) (keeps.6 i)) ∙ own ∙ sym keeps.5;
}

-- and one that kept its receipts before or afterwards
pub looked_between : (old ready now new : SessionState) → KeepsReceipts old ready → HasLooked ready now → KeepsReceipts now new → HasLooked old new
looked_between old ready now new first looks last = record {
  kept = (last.0 ∙ looks.kept.0 ∙ first.0, last.1 ∙ looks.kept.1 ∙ first.1, last.2 ∙ looks.kept.2 ∙ first.2, last.3 ∙ looks.kept.3 ∙ first.3, last.4 ∙ looks.kept.4 ∙ first.4, last.5 ∙ looks.kept.5 ∙ first.5, refl);
  grown = subst (λ (l : List Signed). BeginsWith l old.seen) (sym last.6) (subst (λ (l : List Signed). BeginsWith now.seen l) first.6 looks.grown);
  own = (λ i. entries_by (Session (last.0 i)) (last.6 i)) ∙ looks.own ∙ sym last.5;
}

-- a keeper that saw all entries, and looked
pub keeper_looked : (old new : KeeperState) (all : List Signed) → new.made ≡ old.made → new.seen ≡ all → Sees all (keeper_knowledge old) → KeeperLooked old new
keeper_looked old new all made seen sees = record {
  same = made;
  grown = subst (λ (l : List Signed). BeginsWith l old.seen) (sym seen) sees.front;
  own = ap (entries_by Keeper) seen ∙ sees.own ∙ sym made;
}

pub keeper_only : (old new : KeeperState) (all : List Signed) → new ≡ record old { seen = all } → new ≡ record old { seen = new.seen }
keeper_only old new all is = is ∙ (λ i. record old { seen = sym (ap (λ (x : KeeperState). x.seen) is) i })

-- a session sees what one with the same knowledge sees
pub sees_as : (all : List Signed) (old ready : SessionState) → KeepsReceipts old ready → Sees all (knowledge ready) → Sees all (knowledge old)
sees_as all old ready keeps sees = subst (Sees all) (λ i. record { maker = Session (keeps.0 i); made = keeps.5 i; seen = keeps.6 i }) sees

-- ---- who is a subject

-- no session of a worker that isn't made after a legal history made one of its entries
none_by : (g : ProtectionGraph) (all : List Signed) (name : ℕ) → IsSound g → IsLegal g (entries_of all) → AreOwn all → (graph_after g (entries_of all)).made ≤ name → entries_by (Session name) all ≡ []
none_by g [] name sound legal own low = refl
none_by g (s ∷ ss) name sound legal own low =
    let Own : Signed → Type 0 = λ x. MayMake x.by x.entry in
    let here : s.entry.worker < g.made = sound.subjects_made s.entry.worker legal.0.subject in
    let grows = le-graph_after-made g (entries_of (s ∷ ss)) in
    let mine : MayMake s.by s.entry = All-head Own s ss own in
    let apart : s.by ≢ Session name = λ is. (let same : s.entry.worker ≡ name = subst (λ (m : Maker). MayMake m s.entry) is mine in absurd (omega (arith, here, grows, low, same))) in
    let rest = none_by (step g s.entry.worker s.entry.deed) ss name (IsSound-step g sound s.entry.worker legal.0.subject s.entry.deed) legal.1 (All-tail Own s ss own) low in
    by_append (Session name) (s ∷ []) ss ∙ (λ i. by_other s.by (Session name) s.entry apart i ++ rest i)

module _ (start : SharedStart) (s : StoreState) (signed : List Signed) (on : GoesOn start s) (faithful : IsFaithful s) (grew : HasGrownBy start s signed) where
  later : graph_of_store s ≡ graph_after (graph_after (start_at s.opening) start.entries) (entries_of signed)
  later = ap (graph_after (start_at s.opening)) grew.all ∙ graph_after-append (start_at s.opening) start.entries (entries_of signed)

  cut : IsLegal (start_at s.opening) start.entries × IsLegal (graph_after (start_at s.opening) start.entries) (entries_of signed)
  cut = IsLegal-cut (start_at s.opening) start.entries (entries_of signed) (subst (IsLegal (start_at s.opening)) grew.all faithful.legal)

  sound_first : IsSound (graph_after (start_at s.opening) start.entries)
  sound_first = sound_from s.opening start.entries faithful.origin cut.0

  -- who was gone after a front of the entries is gone after all of them
  pub stays_gone : (session : SessionState) → StaysOut start s signed session
  stays_gone session = λ sees gone here.
      let rest : List Signed = sees.front.0 in
      let then : ProtectionGraph = graph_of_store gone.0 in
      let graph : graph_of_store s ≡ graph_after then (entries_of rest) =
      graph_is start s signed grew on ∙ ap (graph_seen start) sees.front.1 ∙ graph_front start session.seen rest
      ∙ ap (λ (g : ProtectionGraph). graph_after g (entries_of rest)) (sym (graph_is start gone.0 session.seen gone.3.0 gone.1)) in
      no_subject-after then (entries_of rest) session.worker gone.3.1.0 gone.3.1.1 (subst (λ (g : ProtectionGraph). IsSubject g session.worker) graph here)

  pub gone_later : (session : SessionState) → Sees signed (knowledge session) → IsGone start session.seen session.worker → IsGone start signed session.worker
  gone_later session sees gone =
      let rest : List Signed = sees.front.0 in
      let then : ProtectionGraph = graph_of_store gone.0 in
      let graph : graph_of_store s ≡ graph_after then (entries_of rest) =
      graph_is start s signed grew on ∙ ap (graph_seen start) sees.front.1 ∙ graph_front start session.seen rest
      ∙ ap (λ (g : ProtectionGraph). graph_after g (entries_of rest)) (sym (graph_is start gone.0 session.seen gone.3.0 gone.1)) in
      let grows = le-graph_after-made then (entries_of rest) in
      let made = ap (λ (g : ProtectionGraph). g.made) graph in
      let low = gone.3.1.0 in
      (s, on, faithful, (grew, (omega (arith, grows, made, low), stays_gone session sees gone)))

  -- a worker that entered a retire, and of whom the keeper made no entry, is no subject
  pub gone_made : (worker : ℕ) (made : List Entry) → entries_by (Session worker) signed ≡ made → own_entries worker (entries_by Keeper signed) ≡ [] → retired_behind false made ≡ true → ¬ IsSubject (graph_of_store s) worker
  gone_made worker made own none among = λ here.
      let all : retired_behind false (own_entries worker (entries_of signed)) ≡ true = ap (retired_behind false) (own_by_session worker signed grew.owned none ∙ own) ∙ among in
      who_retired (graph_after (start_at s.opening) start.entries) worker (entries_of signed) sound_first cut.1 all (subst (λ (g : ProtectionGraph). IsSubject g worker) later here)

  -- and one that entered none is one, if it was one after a front of the entries
  pub stays_made : (worker : ℕ) (made : List Entry) (front rest : List Signed) → entries_by (Session worker) signed ≡ made → own_entries worker (entries_by Keeper signed) ≡ [] → retired_behind false made ≡ false → signed ≡ front ++ rest
      → IsSubject (graph_seen start front) worker → IsSubject (graph_of_store s) worker
  stays_made worker made front rest own none stays split here =
      let all : own_entries worker (entries_of front ++ entries_of rest) ≡ made = ap (own_entries worker) (sym (entries_append front rest) ∙ ap entries_of (sym split)) ∙ own_by_session worker signed grew.owned none ∙ own in
      let no_more : retired_behind false (own_entries worker (entries_of rest)) ≡ false =
      none_later (own_entries worker (entries_of front)) (own_entries worker (entries_of rest)) (ap (retired_behind false) (sym (own_append worker (entries_of front) (entries_of rest)) ∙ all) ∙ stays) in
      let graph : graph_of_store s ≡ graph_after (graph_seen start front) (entries_of rest) = graph_is start s signed grew on ∙ ap (graph_seen start) split ∙ graph_front start front rest in
      subst (λ (g : ProtectionGraph). IsSubject g worker) (sym graph) (who_stays (graph_seen start front) worker (entries_of rest) here no_more)

  -- no session of a worker that isn't made yet made an entry
  pub none_named : (name : ℕ) → (graph_of_store s).made ≤ name → entries_by (Session name) signed ≡ []
  none_named name low = none_by (graph_after (start_at s.opening) start.entries) signed name sound_first cut.1 grew.owned (subst (λ (g : ProtectionGraph). g.made ≤ name) later low)

-- ---- who retires

-- who made the last entry was made before it
pub last_low : (g : ProtectionGraph) (front : List Entry) (e : Entry) → IsSound g → IsLegal g (front ++ e ∷ []) → e.worker < (graph_after g (front ++ e ∷ [])).made
last_low g front e sound legal =
    let parts = IsLegal-cut g front (e ∷ []) legal in
    let then : ProtectionGraph = graph_after g front in
    let here : e.worker < then.made = (IsSound-after g front sound parts.0).subjects_made e.worker parts.1.0.subject in
    let grows = le-graph_after-made then (e ∷ []) in
    let all = ap (λ (x : ProtectionGraph). x.made) (graph_after-append g front (e ∷ [])) in
    omega (arith, here, grows, all)

-- a worker that made the last of these entries, and then is no subject, is gone
pub gone_noted : (start : SharedStart) (old new : StoreState) (signed : List Signed) (worker : ℕ) (front : List Entry) (e : Entry) → HasGrownBy start old signed → new.entries ≡ old.entries ++ (front ++ e ∷ []) → new.opening ≡ old.opening
    → All (λ x. x.worker ≡ worker) (front ++ e ∷ []) → e.worker ≡ worker → GoesOn start new → IsFaithful old → IsFaithful new → ¬ IsSubject (graph_of_store new) worker
    → IsGone start (signed ++ sign_all (Session worker) (front ++ e ∷ [])) worker
gone_noted start old new signed worker front e grew entries opening own is on before after none =
    let more : List Entry = front ++ e ∷ [] in
    let sound : IsSound (graph_of_store old) = sound_of old before in
    let low : e.worker < (graph_after (graph_of_store old) more).made = last_low (graph_of_store old) front e sound (legal_more old new more entries opening after) in
    let here : worker < (graph_of_store new).made = subst (λ (n : ℕ). n < (graph_of_store new).made) is (subst (λ (g : ProtectionGraph). e.worker < g.made) (sym (graph_more old new more entries opening)) low) in
    (new, on, after, (grown_more start old new signed (Session worker) more grew entries own (λ _. session_keeper worker), (here, none)))

-- what a session's pass sees, the session sees
pub sees_view : (all : List Signed) (v : SessionState) (pass : PassState) (worker : ℕ) → v.worker ≡ worker → v.made ≡ pass.made → v.seen ≡ pass.seen → pass.maker ≡ Session worker → Sees all pass → Sees all (knowledge v)
sees_view all v pass worker named made seen maker sees = subst (Sees all) (λ i. record { maker = (maker ∙ ap Session (sym named)) i; made = sym made i; seen = sym seen i }) sees

-- ---- a session's notes

pub one_own : (worker : ℕ) (e : Entry) → e.worker ≡ worker → All (λ x. x.worker ≡ worker) (e ∷ [])
one_own worker e is = All-cons (λ (x : Entry). x.worker ≡ worker) e [] is (All-nil (λ (x : Entry). x.worker ≡ worker))

-- the entries that a store got are noted as the session's
pub noted_as : (v : LockedState) (new : StoreState) (sessions entered : ℕ) (before after : SessionState) (roll next : RollState) (more : List Entry) → v.signed ≡ roll.signed → new.entries ≡ v.store.entries ++ more → Signs roll next before after more
    → HasNoted v (locked_as new sessions entered next.signed) before after
noted_as v new sessions entered before after roll next more same entries signs = record {
  signed = ap (λ (r : RollState). r.signed) signs.roll ∙ (λ i. sym same i ++ sign_all (Session before.worker) (sym (got_more v.store.entries new.entries more entries) i));
  seen = λ _. signs.seen;
}

-- and if it got none, none is
pub noted_none : (v : LockedState) (new : StoreState) (sessions entered : ℕ) (signed : List Signed) (before after : SessionState) → new.entries ≡ v.store.entries → signed ≡ v.signed → after.made ≡ before.made → HasNoted v (locked_as new sessions entered signed) before after
noted_none v new sessions entered signed before after entries same made = record {
  signed = same ∙ sym (append-nil v.signed) ∙ ap (λ (l : List Entry). v.signed ++ sign_all (Session before.worker) l) (sym (got_more v.store.entries new.entries [] (entries ∙ sym (append-nil v.store.entries))));
  seen = λ more. absurd (more made);
}

-- what is so after room was made is so from before
pub noted_before : (v w : LockedState) (before ready after : SessionState) → ready.worker ≡ before.worker → ready.made ≡ before.made → HasNoted v w ready after → HasNoted v w before after
noted_before v w before ready after named made noted = record {
  signed = noted.signed ∙ ap (λ (n : ℕ). v.signed ++ sign_all (Session n) (drop (length v.store.entries) w.store.entries)) named;
  seen = λ more. noted.seen (λ same. more (same ∙ made));
}

-- where an entry was added, the list is longer
pub longer_made : (es front : List Entry) (e : Entry) → es ++ (front ++ e ∷ []) ≢ es
longer_made es front e same =
    let l = ap (λ (x : List Entry). length x) same in
    let long = length-append es (front ++ e ∷ []) in
    let more = length-append front (e ∷ []) in
    omega (arith, l, long, more)

-- who made these has then seen them
pub seen_noted : (v w : LockedState) (before after : SessionState) (front : List Entry) (e : Entry) → HasNoted v w before after → w.store.entries ≡ v.store.entries ++ (front ++ e ∷ []) → after.made ≡ before.made ++ (front ++ e ∷ [])
    → after.seen ≡ v.signed ++ sign_all (Session before.worker) (front ++ e ∷ [])
seen_noted v w before after front e noted entries made =
    noted.seen (λ same. longer_made before.made front e (sym made ∙ same)) ∙ noted.signed ∙ ap (λ (l : List Entry). v.signed ++ sign_all (Session before.worker) l) (got_more v.store.entries w.store.entries (front ++ e ∷ []) entries)

-- a session that makes an entry has then retired only where it had before, or where the entry is a retire
retired_from : (retired : Bool) (deed : Deed) → retired_by retired deed ≡ true → (deed ≡ Plain Retire) ⊎ (retired ≡ true)
retired_from retired (Plain Retire) is = inl refl
retired_from retired deed is = inr is

pub note_gone : {G H : Type 0} (before after : Bool) (e : Entry) → after ≡ retired_by before e.deed → (before ≡ true → H) → (before ≡ true → ¬ H) → (e.deed ≡ Plain Retire → G) → after ≡ true → G
note_gone before after e by was still gone is =
    ⊎_elim
    (λ (here : e.deed ≡ Plain Retire). gone here)
    (λ (earlier : before ≡ true). absurd (still earlier (was earlier)))
    (retired_from before e.deed (sym by ∙ is))

pub note_entered : (before after : Bool) (made next : List Entry) (e : Entry) → before ≡ retired_behind false made → next ≡ made ++ e ∷ [] → after ≡ retired_by before e.deed → after ≡ retired_behind false next
note_entered before after made next e entered noted by = by ∙ ap (λ b. retired_by b e.deed) entered ∙ sym (behind_append false made (e ∷ [])) ∙ ap (retired_behind false) (sym noted)

-- all receipts so far, and one more
pub note_single : (items new : List Receipt) (r : Receipt) (made next : List Entry) (e : Entry) → new ≡ items ++ r ∷ [] → r.entry ≡ e → next ≡ made ++ e ∷ [] → map (λ x. x.entry) items ≡ made → map (λ x. x.entry) new ≡ next
note_single items new r made next e more is noted held = ap (map (λ (x : Receipt). x.entry)) more ∙ map_push (λ (x : Receipt). x.entry) items r ∙ (λ i. held i ++ is i ∷ []) ∙ sym noted

-- its own entries among those that it has then seen
pub note_within : (all : List Signed) (maker : Maker) (made : List Entry) (e : Entry) → entries_by maker all ≡ made → entries_by maker (all ++ sign maker e ∷ []) ≡ made ++ e ∷ []
note_within all maker made e own = by_append maker all (sign maker e ∷ []) ∙ (λ i. own i ++ by_one maker e i)

-- ---- at the end

-- a session that sees all entries has receipts of all entries of its worker, if the keeper made none of it
pub has_all : (start : SharedStart) (s : StoreState) (signed : List Signed) (session : SessionState) → HasGrownBy start s signed → Sees signed (knowledge session) → HasMade session → HasAllUnlessEnded (entries_by Keeper signed) (since start s) session
has_all start s signed session grew sees own = λ unended none one.
    own none one ∙ sym sees.own ∙ sym (own_by_session session.worker signed grew.owned unended) ∙ ap (own_entries session.worker) (sym (since_is start s signed grew))
