-- Entries that a session adds in the lock, one after the other, and what it knows of them then.
use Rattle.std.proofs.Common.{Bool, ◌≡◌, ◌∙◌, ℕ, ◌+◌, List, [], ◌∷◌, ◌++◌, length, length-append, map, append_assoc, add-zero, ap, arith, refl, subst, sym}
use Rattle.std.proofs.lemmas.List.{append-nil, map-append}
use Rattle.tg_model.specs.declared.command.Deed.{Deed}
use Rattle.tg_model.specs.declared.reply.Reply.{Reply}
use Rattle.tg_model.specs.Graph.{ProtectionGraph}
use Rattle.tg_journal.specs.declared.entry.Entry.{Entry}
use Rattle.tg_journal.specs.History.{IsLegal, graph_after}
use Rattle.tg_journal.proofs.HistoryLaws.{IsLegal-append}
use Rattle.tg_passes.specs.declared.signed.Maker.TheVariants.{Session}
use Rattle.tg_passes.specs.declared.signed.Signed.{Signed}
use Rattle.tg_passes.specs.Passes.{sign, sign_all}
use Rattle.tg_store.specs.Store.{IsFaithful, graph_of_store}
use Rattle.tg_shared.specs.declared.receipt.Receipt.{Receipt}
use Rattle.tg_shared.specs.Batch.{AddsAtSeen, AddsInLock}
use Rattle.tg_shared.specs.Receipts.{receipt_of, receipts_from}
use Rattle.tg_shared.specs.Serving.{HasNoted, KeepsNumbers}
use Rattle.tg_shared.specs.Sessions.{AddsReceipts, KeepsReceipts, LockedState, Records, RecordsNothing, SessionState, SharedStart, retired_behind}
use Rattle.tg_shared.proofs.Balances.{graph_more}
use Rattle.tg_shared.proofs.Calls.{found_with}
use Rattle.tg_shared.proofs.Knowing.{got_more, longer_made, places_are}
use Rattle.tg_shared.proofs.Leavings.{legal_more}
use Rattle.tg_shared.proofs.Replies.{IsReady, added_all}
use Rattle.tg_shared.proofs.Staying.{behind_append}

receipts_append : (at : ℕ) (xs ys : List Entry) → receipts_from at (xs ++ ys) ≡ receipts_from at xs ++ receipts_from (at + length xs) ys
receipts_append at [] ys = ap (λ n. receipts_from n ys) (sym (add-zero at))
receipts_append at (x ∷ xs) ys =
    let same : at + 1 + length xs ≡ at + length (x ∷ xs) = omega arith in
    ap (λ rs. receipt_of at x ∷ rs) (receipts_append (at + 1) xs ys ∙ ap (λ n. receipts_from (at + 1) xs ++ receipts_from n ys) same)

-- ---- in the lock

-- no entry
pub adds_none : (v : LockedState) (session : SessionState) → AddsInLock [] v v session session
adds_none v session = record {
  made = sym (append-nil v.store.entries);
  legal = tt;
  opening = refl;
  collections = refl;
  receipts = (refl {A = ℕ}, sym (append-nil session.receipts), refl {A = ℕ}, refl {A = ℕ}, refl {A = Bool}, sym (append-nil session.made));
  signed = sym (append-nil v.signed);
  seen = λ is. is;
}

-- no session was made, and the keeper made no entry
pub numbers_kept : (old now new : LockedState) → KeepsNumbers old now → KeepsNumbers now new → KeepsNumbers old new
numbers_kept old now new was more = record { sessions = more.sessions ∙ was.sessions; entered = more.entered ∙ was.entered }

-- entries after others
pub adds_more : (xs ys : List Entry) (old now new : LockedState) (before mid after : SessionState) → AddsInLock xs old now before mid → AddsInLock ys now new mid after → AddsInLock (xs ++ ys) old new before after
adds_more xs ys old now new before mid after was more =
    let named : mid.worker ≡ before.worker = was.receipts.0 in
    let at : ℕ = length old.store.entries in
    let place : length now.store.entries ≡ at + length xs = ap (λ (es : List Entry). length es) was.made ∙ length-append old.store.entries xs in
    let graph : graph_of_store now.store ≡ graph_after (graph_of_store old.store) xs = graph_more old.store now.store xs was.made was.opening in
    record {
      made = more.made ∙ ap (λ (es : List Entry). es ++ ys) was.made ∙ append_assoc old.store.entries xs ys;
      legal = IsLegal-append (graph_of_store old.store) xs ys was.legal (subst (λ (g : ProtectionGraph). IsLegal g ys) graph more.legal);
      opening = more.opening ∙ was.opening;
      collections = more.collections ∙ was.collections;
      receipts = (
        more.receipts.0 ∙ named,
        more.receipts.1 ∙ (λ i. was.receipts.1 i ++ receipts_from (place i) ys) ∙ append_assoc before.receipts (receipts_from at xs) (receipts_from (at + length xs) ys)
            ∙ ap (λ (rs : List Receipt). before.receipts ++ rs) (sym (receipts_append at xs ys)),
        more.receipts.2 ∙ was.receipts.2,
        more.receipts.3 ∙ was.receipts.3,
        more.receipts.4 ∙ ap (λ (b : Bool). retired_behind b ys) was.receipts.4 ∙ sym (behind_append before.retired xs ys),
        more.receipts.5 ∙ ap (λ (l : List Entry). l ++ ys) was.receipts.5 ∙ append_assoc before.made xs ys,
      );
      signed = more.signed ∙ (λ i. was.signed i ++ sign_all (Session (named i)) ys) ∙ append_assoc old.signed (sign_all (Session before.worker) xs) (sign_all (Session before.worker) ys)
          ∙ ap (λ (l : List Signed). old.signed ++ l) (sym (map-append (sign (Session before.worker)) xs ys));
      seen = λ is. more.seen (was.seen is);
    }

-- one entry, which was noted
pub adds_noted : (old new : LockedState) (before after : SessionState) (deed : Deed) (reply : Reply) → Records old.store new.store before after deed reply → HasNoted old new before after → new.store.opening ≡ old.store.opening
    → new.store.collections ≡ old.store.collections → IsFaithful new.store → AddsInLock ((record { worker = before.worker; deed = deed; reply = reply }) ∷ []) old new before after
adds_noted old new before after deed reply records noted opening collections faithful =
    let e : Entry = record { worker = before.worker; deed = deed; reply = reply } in
    record {
      made = records.entry;
      legal = legal_more old.store new.store (e ∷ []) records.entry opening faithful;
      opening = opening;
      collections = collections;
      receipts = records.receipt;
      signed = noted.signed ∙ ap (λ (es : List Entry). old.signed ++ sign_all (Session before.worker) es) (got_more old.store.entries new.store.entries (e ∷ []) records.entry);
      seen = λ _. noted.seen (λ same. longer_made before.made [] e (sym records.receipt.5 ∙ same));
    }

-- and none, where nothing was done
pub adds_nothing : (old new : LockedState) (before after : SessionState) → RecordsNothing old.store new.store before after → HasNoted old new before after → AddsInLock [] old new before after
adds_nothing old new before after nothing noted =
    let k = nothing.1 in
    let made : new.store.entries ≡ old.store.entries ++ [] = nothing.0.entries ∙ sym (append-nil old.store.entries) in
    let signed : new.signed ≡ old.signed ++ [] = noted.signed ∙ ap (λ (es : List Entry). old.signed ++ sign_all (Session before.worker) es) (got_more old.store.entries new.store.entries [] made) in
    record {
      made = made;
      legal = tt;
      opening = nothing.0.opening;
      collections = nothing.0.collections;
      receipts = (k.0, k.1 ∙ sym (append-nil before.receipts), k.2, k.3, k.4, k.5 ∙ sym (append-nil before.made));
      signed = signed;
      seen = λ is. k.6 ∙ is ∙ sym (append-nil old.signed) ∙ sym signed;
    }

-- and where the session made room alone
pub adds_still : (v : LockedState) (before after : SessionState) → KeepsReceipts before after → AddsInLock [] v v before after
adds_still v before after k = record {
  made = sym (append-nil v.store.entries);
  legal = tt;
  opening = refl;
  collections = refl;
  receipts = (k.0, k.1 ∙ sym (append-nil before.receipts), k.2, k.3, k.4, k.5 ∙ sym (append-nil before.made));
  signed = sym (append-nil v.signed);
  seen = λ is. k.6 ∙ is;
}

-- what is so after room was made is so from before
pub adds_before : (es : List Entry) (v w : LockedState) (old ready new : SessionState) → KeepsReceipts old ready → AddsInLock es v w ready new → AddsInLock es v w old new
adds_before es v w old ready new k was = record {
  made = was.made;
  legal = was.legal;
  opening = was.opening;
  collections = was.collections;
  receipts = added_all old ready new (length v.store.entries) es (k.0, k.1, k.2, k.3, k.4, k.5, refl) was.receipts;
  signed = was.signed ∙ ap (λ (n : ℕ). v.signed ++ sign_all (Session n) es) k.0;
  seen = λ is. was.seen (k.6 ∙ is);
}

-- ---- what the session knows

pub adds_at_seen : (start : SharedStart) (v w : LockedState) (old ready new : SessionState) (es : List Entry) → IsReady start v old ready → AddsInLock es v w ready new → AddsAtSeen start es old new
adds_at_seen start v w old ready new es is_so added =
    let keeps = is_so.looked.kept in
    record {
      before = v.signed;
      sees = is_so.sees;
      receipts = subst (λ (n : ℕ). AddsReceipts old new n es) (places_are start v.store v.signed is_so.held.grown_by) (added_all old ready new _ es keeps added.receipts);
      legal = found_with start v.signed (λ s. IsLegal (graph_of_store s) es) v is_so.held refl added.legal;
      seen = added.seen is_so.all ∙ added.signed ∙ ap (λ (n : ℕ). v.signed ++ sign_all (Session n) es) keeps.0;
    }

-- if no entry was added, the session has the receipts that it had
pub kept_none : (es : List Entry) (v w : LockedState) (ready new : SessionState) → es ≡ [] → ready.seen ≡ v.signed → AddsInLock es v w ready new → KeepsReceipts ready new
kept_none es v w ready new is all added =
    let r : AddsReceipts ready new (length v.store.entries) [] = subst (AddsReceipts ready new (length v.store.entries)) is added.receipts in
    let signed : w.signed ≡ v.signed = added.signed ∙ ap (λ (es : List Entry). v.signed ++ sign_all (Session ready.worker) es) is ∙ append-nil v.signed in
    (r.0, r.1 ∙ append-nil ready.receipts, r.2, r.3, r.4, r.5 ∙ append-nil ready.made, added.seen all ∙ signed ∙ sym all)
