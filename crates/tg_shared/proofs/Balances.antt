-- What an entry makes of the balance in the lock.
use Rattle.std.proofs.Common.{◌≡◌, ℕ, ◌+◌, ◌^◌, ◌<◌, ◌≤◌, Bool, true, false, cond, List, ◌∷◌, ◌++◌, [], length, length-append, drop, refl, sym, subst, ap, ◌∙◌, arith}
use Rattle.std.specs.Prelude.{Result, IfOk, OnOk, take}
use Rattle.std.proofs.lemmas.List.{append-nil, length-take, take-append-le, drop-append-le, drop_all}
use Rattle.std.proofs.lemmas.List.Sums.{sum_by-append, sum_by-cons}
use Rattle.std.proofs.lemmas.Result.{on_err_weaker}
use Rattle.std.proofs.Math.Seq.{take-length}
use Rattle.tg_rights.specs.RightSet.{RightSet}
use Rattle.tg_model.specs.declared.law.Law.{Law}
use Rattle.tg_model.specs.declared.command.Deed.{Deed}
use Rattle.tg_model.specs.declared.command.Deed.TheVariants.{Spawn}
use Rattle.tg_model.specs.declared.reply.Reply.{Reply}
use Rattle.tg_model.specs.declared.reply.Reply.TheVariants.{Name}
use Rattle.tg_model.specs.Graph.{ProtectionGraph, IsSound}
use Rattle.tg_model.specs.Rules.{answer_of}
use Rattle.tg_model.proofs.NameLaws.{name_is_next}
use Rattle.tg_model.proofs.SubjectLaws.{few_from_rising, made-spawned}
use Rattle.tg_journal.specs.declared.entry.Entry.{Entry}
use Rattle.tg_journal.specs.History.{graph_after}
use Rattle.tg_journal.proofs.HistoryLaws.{graph_after-append, le-graph_after-made}
use Rattle.tg_space.specs.declared.kind.Kind.{Kind}
use Rattle.tg_passes.specs.declared.signed.Signed.{Signed}
use Rattle.tg_store.specs.Collecting.{IsSwept, KeepsHistory}
use Rattle.tg_store.specs.Origin.{Origin, IsOrigin, start_at}
use Rattle.tg_store.specs.Store.{StoreState, Enters, HasFewBlocks, IsFaithful, graph_of_store}
use Rattle.tg_store.proofs.OriginLaws.{made_from}
use Rattle.tg_store.proofs.StandLaws.{graph-entered, made_of, sound_of}
use Rattle.tg_shared.specs.Serving.{Collects}
use Rattle.tg_shared.specs.Sessions.{GoesOn, IsBalanced, LockedState, SharedStart, is_spawn, made_subject, sessions_made, shared_as, spawned, subjects_at}

-- ---- how many sessions were made

abbrev pub one : Bool → ℕ
one b = cond b 1 0

-- as many sessions more as these entries made subjects
pub sessions_more : (start : SharedStart) (es more : List Entry) → length start.entries ≤ length es → sessions_made start (es ++ more) ≡ sessions_made start es + spawned more
sessions_more start es more few =
    let n = length start.entries in
    let later = ap spawned (drop-append-le n es more few) in
    omega (arith, later, sum_by-append (λ e. one (is_spawn e)) (drop n es) more)

-- an entry makes one where it made a subject
spawned_one : (e : Entry) → spawned (e ∷ []) ≡ one (is_spawn e)
spawned_one e = let last = sum_by-cons (λ x. one (is_spawn x)) e [] in omega (arith, last)

-- at first there is one for each subject
pub sessions_start : (start : SharedStart) → sessions_made start start.entries ≡ length (subjects_at start)
sessions_start start =
    let none : spawned (drop (length start.entries) start.entries) ≡ 0 = ap spawned (drop_all (length start.entries) start.entries (omega arith)) in
    omega (arith, none)

pub made_more : (start : SharedStart) (old new : StoreState) (worker : ℕ) (deed : Deed) (reply : Reply) → Enters old new worker deed reply → length start.entries ≤ length old.entries
    → sessions_made start new.entries ≡ sessions_made start old.entries + one (made_subject deed reply)
made_more start old new worker deed reply entry few =
    let e : Entry = record { worker = worker; deed = deed; reply = reply } in
    let all = ap (sessions_made start) entry in
    let more = sessions_more start old.entries (e ∷ []) few in
    let last = spawned_one e in
    omega (arith, all, more, last)

-- ---- what more entries make of what is in the lock

pub not_both : (b : Bool) → b ≡ true → b ≡ false → ⊥
not_both b is isnt = cc

-- as long as before at least
pub grown : (start : SharedStart) (s : StoreState) → GoesOn start s → length start.entries ≤ length s.entries
grown start s on =
    let long = ap (λ (es : List Entry). length es) on.earlier in
    omega (arith, length-take (length start.entries) s.entries)

module _ (old new : StoreState) (more : List Entry) (entries : new.entries ≡ old.entries ++ more) (opening : new.opening ≡ old.opening) where
  pub graph_more : graph_of_store new ≡ graph_after (graph_of_store old) more
  graph_more = (λ i. graph_after (start_at (opening i)) (entries i)) ∙ graph_after-append (start_at old.opening) old.entries more

  -- the entries are counted
  pub balanced_more : (start sessions owed total next rest left parts : ℕ) → IsBalanced old start sessions total rest parts → next ≡ total + length more → owed + left ≡ sessions + rest → owed ≤ (graph_of_store new).made → IsBalanced new start owed next left parts
  balanced_more start sessions owed total next rest left parts held counts cut made =
      let count = held.counted in
      let longer = ap (λ (es : List Entry). length es) entries ∙ length-append old.entries more in
      record {
        counted = omega (arith, count, longer, counts);
        cut = cut ∙ held.cut;
        enough = held.enough ∙ ap (λ (o : Origin). o.plan.limit + 1) (sym opening);
        made = made;
      }

  -- the shared store goes on
  pub goes_on_more : (start : SharedStart) → GoesOn start old → new.heap.table.limits ≡ old.heap.table.limits → (start.in_parts ≡ false → new.handed ≡ old.handed) → GoesOn start new
  goes_on_more start on limits handed = record {
    opening = opening ∙ on.opening;
    earlier = ap (take (length start.entries)) entries ∙ (take-append-le (length start.entries) old.entries more (grown start old on) ∙ on.earlier);
    limits = limits ∙ on.limits;
    within = on.within;
    whole = λ is_whole. handed is_whole ∙ on.whole is_whole;
  }

  -- where no subject was made, what is so in the lock stays so, but for one part, which its caller tells
  pub locked_more : {P Q R : Type 0} (start : SharedStart) (first sessions total next rest parts : ℕ) → IsBalanced old first sessions total rest parts × P × Q × GoesOn start old × (sessions ≡ sessions_made start old.entries)
      → spawned more ≡ 0 → new.heap.table.limits ≡ old.heap.table.limits → (start.in_parts ≡ false → new.handed ≡ old.handed) → next ≡ total + length more → R
      → IsBalanced new first sessions next rest parts × P × R × GoesOn start new × (sessions ≡ sessions_made start new.entries)
  locked_more start first sessions total next rest parts held none limits handed counts told =
      let grows = le-graph_after-made (graph_of_store old) more in
      let made = ap (λ (g : ProtectionGraph). g.made) graph_more in
      let least = held.0.made in
      let all = ap (sessions_made start) entries in
      let same = sessions_more start old.entries more (grown start old held.3) in
      let was = held.4 in (
        balanced_more first sessions sessions total next rest rest parts held.0 counts refl (omega (arith, grows, made, least)),
        held.1,
        told,
        goes_on_more start held.3 limits handed,
        omega (arith, all, same, was, none),
      )

-- the same of no entry; what was handed out is told by its caller
pub locked_taken : {P Q R : Type 0} (start : SharedStart) (old new : StoreState) (first sessions total rest parts : ℕ) → IsBalanced old first sessions total rest parts × P × Q × GoesOn start old × (sessions ≡ sessions_made start old.entries)
    → new.entries ≡ old.entries → new.opening ≡ old.opening → new.heap.table.limits ≡ old.heap.table.limits → (start.in_parts ≡ false → new.handed ≡ old.handed) → R
    → IsBalanced new first sessions total rest parts × P × R × GoesOn start new × (sessions ≡ sessions_made start new.entries)
locked_taken start old new first sessions total rest parts held entries opening limits handed told =
    locked_more old new [] (entries ∙ sym (append-nil old.entries)) opening start first sessions total total rest parts held refl limits handed (omega arith) told

-- and where nothing was
pub locked_same : {P Q : Type 0} {out : ℕ} (start : SharedStart) (old new : StoreState) (first sessions total rest parts : ℕ) → IsBalanced old first sessions total rest parts × P × (Q × (out ≡ old.handed)) × GoesOn start old × (sessions ≡ sessions_made start old.entries)
    → new.entries ≡ old.entries → new.opening ≡ old.opening → new.heap.table.limits ≡ old.heap.table.limits → new.handed ≡ old.handed
    → IsBalanced new first sessions total rest parts × P × (Q × (out ≡ new.handed)) × GoesOn start new × (sessions ≡ sessions_made start new.entries)
locked_same start old new first sessions total rest parts held entries opening limits handed =
    locked_taken start old new first sessions total rest parts held entries opening limits (λ _. handed) (held.2.0, held.2.1 ∙ sym handed)

-- and of one
pub locked_entered : {P Q : Type 0} {out : ℕ} (start : SharedStart) (old new : StoreState) (first sessions total next rest parts worker : ℕ) (deed : Deed) (reply : Reply) → made_subject deed reply ≡ false
    → IsBalanced old first sessions total rest parts × P × (Q × (out ≡ old.handed)) × GoesOn start old × (sessions ≡ sessions_made start old.entries)
    → Enters old new worker deed reply → new.opening ≡ old.opening → new.heap.table.limits ≡ old.heap.table.limits → new.handed ≡ old.handed → next ≡ total + 1
    → IsBalanced new first sessions next rest parts × P × (Q × (out ≡ new.handed)) × GoesOn start new × (sessions ≡ sessions_made start new.entries)
locked_entered start old new first sessions total next rest parts worker deed reply object held entry opening limits handed counts =
    let e : Entry = record { worker = worker; deed = deed; reply = reply } in
    locked_more old new (e ∷ []) entry opening start first sessions total next rest parts held (spawned_one e ∙ ap one object) limits (λ _. handed) counts (held.2.0, held.2.1 ∙ sym handed)

-- ---- parts

-- a ledger's parts are a 64-bit number
pub within_word : (limit parts : ℕ) → limit ≤ 281474976710656 → parts ≡ limit + 1 → parts < 2 ^ 64
within_word limit parts within are = omega (arith, within, are)

-- there is a part left for one more session
pub part_left : (s : StoreState) (start sessions total rest parts : ℕ) → IsBalanced s start sessions total rest parts → IsFaithful s → 1 ≤ rest
part_left s start sessions total rest parts held faithful =
    let most = made_of s faithful in
    omega (arith, most, held.cut, held.enough, held.made)

pub some_part : (rest : ℕ) → 1 ≤ rest → 0 < rest
some_part rest least = omega arith

module _ (old new : StoreState) (start sessions total rest parts worker name : ℕ) (label : RightSet) (law : Law) (state : List ℕ) (held : IsBalanced old start sessions total rest parts)
    (entry : Enters old new worker (Spawn label law state) (Name name)) (answer : answer_of (graph_of_store old) worker (Spawn label law state) ≡ Name name) (opening : new.opening ≡ old.opening) where
  one_made : (graph_of_store new).made ≡ (graph_of_store old).made + 1
  one_made = ap (λ (g : ProtectionGraph). g.made) (graph-entered old new worker (Spawn label law state) (Name name) opening entry) ∙ made-spawned (graph_of_store old) worker label law state name answer

  -- its name is the next one
  pub named_next : name ≡ (graph_of_store old).made
  named_next = (name_is_next (graph_of_store old) worker (Spawn label law state) name answer).0

  pub made_named : (graph_of_store new).made ≡ name + 1
  made_named = ap (λ (g : ProtectionGraph). g.made) (graph-entered old new worker (Spawn label law state) (Name name) opening entry) ∙ (name_is_next (graph_of_store old) worker (Spawn label law state) name answer).1

  -- where an entry made a subject, it wasn't the last part that was left
  pub parts_left : IsFaithful old → 1 ≡ rest → ⊥
  parts_left faithful last =
      let most = made_from new.opening new.entries (subst IsOrigin (sym opening) faithful.origin) in
      let limit = ap (λ (o : Origin). o.plan.limit) opening in
      let grows = one_made in
      omega (arith, most, limit, grows, held.cut, held.enough, held.made)

  -- and its session gets it
  pub balanced_spawned : (next left : ℕ) → next ≡ total + 1 → left + 1 ≡ rest → IsBalanced new start (sessions + 1) next left parts
  balanced_spawned next left counts gone =
      let grows = one_made in
      let made = held.made in
      balanced_more old new _ entry opening start sessions (sessions + 1) total next rest left parts held counts (omega (arith, gone)) (omega (arith, grows, made))

-- the same opening and the same entries make the same graph
pub graph_same : (old new : StoreState) → new.entries ≡ old.entries → new.opening ≡ old.opening → graph_of_store new ≡ graph_of_store old
graph_same old new entries opening = λ i. graph_after (start_at (opening i)) (entries i)

-- a store that is shared has made its subjects at least
pub active_made : (s : StoreState) → IsFaithful s → length (graph_of_store s).subjects ≤ (graph_of_store s).made
active_made s faithful =
    let sound : IsSound (graph_of_store s) = sound_of s faithful in
    few_from_rising (graph_of_store s).subjects (graph_of_store s).made sound.rising sound.subjects_made

-- a store that was just shared goes on
pub goes_on_start : (start : SharedStart) (s : StoreState) → shared_as start.in_parts start.may_end s ≡ start → s.handed ≤ length s.entries → GoesOn start s
goes_on_start start s is within =
    subst (λ (b : SharedStart). GoesOn b s) is (record { opening = refl; earlier = take-length s.entries; limits = refl; within = within; whole = λ _. refl })

-- ---- what a collection leaves

abbrev pub locked_as : StoreState → ℕ → ℕ → List Signed → LockedState
locked_as store sessions entered signed = record { store = store; sessions = sessions; entered = entered; signed = signed }

pub collected : {E : Type 0} (kind : Kind) (more : ℕ) (old new : StoreState) (sessions entered : ℕ) (signed : List Signed) (before : LockedState) (result : Result ℕ E) → locked_as old sessions entered signed ≡ before → IfOk result (IsSwept kind old new)
    → OnOk result (HasFewBlocks kind more old.heap.table new.heap.table) → KeepsHistory old new result → Collects kind more before (locked_as new sessions entered signed) result
collected kind more old new sessions entered signed before result same swept blocks history =
    subst (λ (b : LockedState). Collects kind more b (locked_as new sessions entered signed) result) same
    (record {
      swept = swept;
      blocks = blocks;
      history = history;
      refused = on_err_weaker result (λ (is : new ≡ old). ap (λ (s : StoreState). locked_as s sessions entered signed) is) history.refused;
      numbers = record { sessions = refl; entered = refl };
      signed = refl;
    })
