-- The entries by which a worker leaves: their receipts, and what they make of the balance in the lock.
use Rattle.std.proofs.Common.{◌≡◌, ◌∙◌, ℕ, ◌+◌, ◌<◌, ◌^◌, Bool, true, List, [], ◌∷◌, ◌++◌, length, add-zero, length-append, map, append_assoc, refl, sym, ap, subst, arith}
use Rattle.std.specs.List.{All}
use Rattle.std.proofs.lemmas.List.{length-map}
use Rattle.std.proofs.lemmas.List.Elements.{All-cons, All-nil}
use Rattle.std.proofs.lemmas.List.Sums.{sum_by-cons}
use Rattle.tg_rights.specs.RightSet.{RightSet}
use Rattle.tg_model.specs.declared.command.Command.TheVariants.{Remove, Retire}
use Rattle.tg_model.specs.declared.command.Deed.TheVariants.{Plain}
use Rattle.tg_model.specs.Graph.{ProtectionGraph, IsSound, IsSubject, listing_of}
use Rattle.tg_model.proofs.SubjectLaws.{is_without}
use Rattle.tg_journal.specs.declared.entry.Entry.{Entry}
use Rattle.tg_journal.specs.History.{IsLegal}
use Rattle.tg_journal.proofs.HistoryLaws.{IsLegal-cut, no_subject-after}
use Rattle.tg_store.specs.Leaving.{HasLeft, leaving, removal, retiring}
use Rattle.tg_store.specs.Origin.{Origin, start_at}
use Rattle.tg_store.specs.Store.{StoreState, IsFaithful, graph_of_store}
use Rattle.tg_store.proofs.StandLaws.{sound_of}
use Rattle.tg_shared.specs.Receipts.{receipt_of, receipts_from}
use Rattle.tg_shared.specs.Sessions.{AddsReceipt, AddsReceipts, GoesOn, IsBalanced, SessionState, SharedStart, is_spawn, retired_behind, retired_by, sessions_made, spawned}
use Rattle.tg_shared.proofs.Balances.{graph_more, locked_more, one}

-- ---- receipts

receipts_push : (at : ℕ) (es : List Entry) (e : Entry) → receipts_from at (es ++ e ∷ []) ≡ receipts_from at es ++ receipt_of (at + length es) e ∷ []
receipts_push at [] e = ap (λ n. receipt_of n e ∷ []) (sym (add-zero at))
receipts_push at (x ∷ es) e =
    let same : at + 1 + length es ≡ at + length (x ∷ es) = omega arith in
    ap (λ rs. receipt_of at x ∷ rs) (receipts_push (at + 1) es e ∙ ap (λ n. receipts_from (at + 1) es ++ receipt_of n e ∷ []) same)

retired_push : (retired : Bool) (es : List Entry) (e : Entry) → retired_behind retired (es ++ e ∷ []) ≡ retired_by (retired_behind retired es) e.deed
retired_push retired [] e = refl
retired_push retired (x ∷ es) e = retired_push (retired_by retired x.deed) es e

-- one receipt more, of the entry that comes next
pub adds_one : (old now new : SessionState) (at next : ℕ) (es : List Entry) (e : Entry) → AddsReceipts old now at es → AddsReceipt now new next e.deed e.reply
    → next ≡ at + length es → e.worker ≡ now.worker → AddsReceipts old new at (es ++ e ∷ [])
adds_one old now new at next es e more one place own = (
  one.0 ∙ more.0,
  one.1 ∙ (λ i. more.1 i ++ receipt_of (place i) (record { worker = sym own i; deed = e.deed; reply = e.reply }) ∷ [])
      ∙ append_assoc old.receipts (receipts_from at es) (receipt_of (at + length es) e ∷ []) ∙ ap (λ rs. old.receipts ++ rs) (sym (receipts_push at es e)),
  one.2 ∙ more.2,
  one.3 ∙ more.3,
  one.4 ∙ ap (λ b. retired_by b e.deed) more.4 ∙ sym (retired_push old.retired es e),
  one.5 ∙ (λ i. more.5 i ++ (record { worker = sym own i; deed = e.deed; reply = e.reply }) ∷ []) ∙ append_assoc old.made es (e ∷ []),
)

-- who gives edges up does not retire by it
pub removals_stay : (retired : Bool) (x : ℕ) (row : List (ℕ × RightSet)) → retired_behind retired (map (removal x) row) ≡ retired
removals_stay retired x [] = refl
removals_stay retired x (e ∷ row) = removals_stay retired x row

pub remove_stays : (target : ℕ) (rights : RightSet) → Plain (Remove rights target) ≡ Plain Retire → ⊥
remove_stays target rights is = cc

-- who has left has entered a retire
pub retired_left : (retired : Bool) (g : ProtectionGraph) (x : ℕ) → retired_behind retired (leaving g x) ≡ true
retired_left retired g x = retired_push retired (map (removal x) (listing_of g.label g.made x)) (retiring x)

-- ---- the store

-- each entry of a leave is the worker's
pub leaving_own : (x : ℕ) (row : List (ℕ × RightSet)) → All (λ e. e.worker ≡ x) (map (removal x) row ++ retiring x ∷ [])
leaving_own x [] = All-cons (λ (e : Entry). e.worker ≡ x) (retiring x) [] refl (All-nil (λ (e : Entry). e.worker ≡ x))
leaving_own x (e ∷ row) = All-cons (λ (y : Entry). y.worker ≡ x) (removal x e) (map (removal x) row ++ retiring x ∷ []) refl (leaving_own x row)

-- what was entered was legal
pub legal_more : (old new : StoreState) (es : List Entry) → new.entries ≡ old.entries ++ es → new.opening ≡ old.opening → IsFaithful new → IsLegal (graph_of_store old) es
legal_more old new es entries opening faithful =
    let legal : IsLegal (start_at old.opening) new.entries = subst (λ (o : Origin). IsLegal (start_at o) new.entries) opening faithful.legal in
    (IsLegal-cut (start_at old.opening) old.entries es (subst (IsLegal (start_at old.opening)) entries legal)).1

-- who has left is no subject
pub gone_left : (old new : StoreState) (x : ℕ) → HasLeft x old new → ¬ IsSubject (graph_of_store new) x
gone_left old new x left here =
    ((is_without (graph_of_store old).subjects x x).0 (subst (λ (g : ProtectionGraph). IsSubject g x) left.graph here)).1 refl

-- and never is one again
pub stays_away : (old new later : StoreState) (x : ℕ) (es : List Entry) → IsFaithful old → IsSubject (graph_of_store old) x → HasLeft x old new → later.opening ≡ new.opening → later.entries ≡ new.entries ++ es → ¬ IsSubject (graph_of_store later) x
stays_away old new later x es faithful here left opening entries again =
    let sound : IsSound (graph_of_store old) = sound_of old faithful in
    let low : x < (graph_of_store new).made = subst (λ (g : ProtectionGraph). x < g.made) (sym left.graph) (sound.subjects_made x here) in
    no_subject-after (graph_of_store new) es x low (gone_left old new x left) (subst (λ (g : ProtectionGraph). IsSubject g x) (graph_more new later es entries opening) again)

pub length_leaving : (g : ProtectionGraph) (x : ℕ) → length (leaving g x) ≡ length (listing_of g.label g.made x) + 1
length_leaving g x =
    let row = listing_of g.label g.made x in
    let all = length-append (map (removal x) row) (retiring x ∷ []) in
    let each = length-map row (removal x) in
    omega (arith, all, each)

-- all entries have a number, and so have those that are made of a leave
pub entries_fit : (old new : StoreState) (x count places : ℕ) → HasLeft x old new → count ≡ length (listing_of (graph_of_store old).label (graph_of_store old).made x) → places ≡ length new.entries → places < 2 ^ 64 → length old.entries + (count + 1) < 2 ^ 64
entries_fit old new x count places left is long fits =
    let row = length_leaving (graph_of_store old) x in
    let all = ap (λ (es : List Entry). length es) left.entries in
    omega (arith, row, all, length-append old.entries (leaving (graph_of_store old) x), is, long, fits)

-- and they make no subject
pub none_spawned : (x : ℕ) (row : List (ℕ × RightSet)) → spawned (map (removal x) row ++ retiring x ∷ []) ≡ 0
none_spawned x [] = let last = sum_by-cons (λ e. one (is_spawn e)) (retiring x) [] in omega (arith, last)
none_spawned x (e ∷ row) =
    let rest = none_spawned x row in
    let first = sum_by-cons (λ y. one (is_spawn y)) (removal x e) (map (removal x) row ++ retiring x ∷ []) in
    omega (arith, first, rest)

-- what is so in the lock stays so, but for one part, which its caller tells; each entry is counted
pub locked_left : (old new : StoreState) (x : ℕ) (left : HasLeft x old new) {P Q R : Type 0} (start : SharedStart) (first sessions total next rest parts : ℕ) → IsBalanced old first sessions total rest parts × P × Q × GoesOn start old × (sessions ≡ sessions_made start old.entries)
    → next ≡ total + (length (listing_of (graph_of_store old).label (graph_of_store old).made x) + 1) → R → IsBalanced new first sessions next rest parts × P × R × GoesOn start new × (sessions ≡ sessions_made start new.entries)
locked_left old new x left start first sessions total next rest parts held counts told =
    let g = graph_of_store old in
    let long = length_leaving g x in
    locked_more old new (leaving g x) left.entries left.opening start first sessions total next rest parts held (none_spawned x (listing_of g.label g.made x)) left.limits (λ _. left.handed) (omega (arith, long, counts)) told
