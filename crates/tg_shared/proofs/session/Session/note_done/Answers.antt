-- The entries of a hand that was done are noted one after the other.
use Rattle.std.proofs.Common.{◌≡◌, ◌∙◌, ◌+◌, ◌<◌, ◌≤◌, ◌∷◌, [], true, ℕ, List, Option, Some, None, length, add-zero, ap, arith, refl, subst, sym}
use Rattle.tg_model.specs.declared.command.Command.{Command}
use Rattle.tg_model.specs.declared.command.Command.TheVariants.{Grant, Remove, Take}
use Rattle.tg_journal.specs.declared.entry.Entry.{Entry}
use Rattle.tg_store.specs.declared.handing.Hand.{Hand}
use Rattle.tg_store.specs.Handing.{entries_of_hand, grant_of, take_of}
use Rattle.tg_shared.specs.Serving.{Signs}
use Rattle.tg_shared.specs.Sessions.{AddsReceipts}
use Rattle.tg_shared.proofs.HandLaws.{HasNotedAll, not_retire, noted_nothing, noted_one, retired_before}
use Rattle.tg_shared.proofs.session.Session.note_done.Goals as goal

some_first : (spare : ℕ) → 3 ≤ spare → 0 < spare
some_first spare room = omega arith

some_second : (spare before : ℕ) → 3 ≤ before → spare + 1 ≡ before → 0 < spare
some_second spare before room less = omega arith

some_third : (spare between before : ℕ) → 3 ≤ before → between + 1 ≡ before → spare + 1 ≡ between → 0 < spare
some_third spare between before room less last = omega arith

pub note-requires : goal.note-requires
note-requires g c =
    let deed = ap (λ (e : Entry). e.deed) c.entry_by.ensures in
    record {
      room = some_first c.args.self.now.spare c.requires.room;
      own = ap (λ (e : Entry). e.worker) c.entry_by.ensures ∙ c.requires.own;
      still = λ _ retired _. absurd (c.requires.acts retired);
      gone = λ is. absurd (not_retire c.entry_by.result (take_of c.args.hand.now) deed refl is);
    }

pub note-requires-2 : goal.note-requires-2
note-requires-2 g c =
    let first = c.note.ensures.receipt in
    let deed = ap (λ (e : Entry). e.deed) c.entry_by-2.ensures in
    record {
      room = some_second c.note.new.self.spare c.args.self.now.spare c.requires.room c.note.ensures.spare;
      own = ap (λ (e : Entry). e.worker) c.entry_by-2.ensures ∙ c.requires.own ∙ sym first.0;
      still = λ _ retired _. absurd (c.requires.acts (retired_before _ _ c.entry_by.result (take_of c.args.hand.now) first.4 (ap (λ (e : Entry). e.deed) c.entry_by.ensures) refl retired));
      gone = λ is. absurd (not_retire c.entry_by-2.result (grant_of c.args.hand.now) deed refl is);
    }

pub note-requires-in-Some : goal.note-requires-in-Some
note-requires-in-Some g c =
    let first = c.note.ensures.receipt in
    let second = c.note-2.ensures.receipt in
    let back = Remove c.in-Some.back c.args.hand.now.target in
    record {
      room = some_third c.note-2.new.self.spare c.note.new.self.spare c.args.self.now.spare c.requires.room c.note.ensures.spare c.note-2.ensures.spare;
      own = ap (λ (e : Entry). e.worker) c.removal.ensures ∙ c.requires.own ∙ sym first.0 ∙ sym second.0;
      still = λ _ retired _. absurd (c.requires.acts
          (retired_before _ _ c.entry_by.result (take_of c.args.hand.now) first.4 (ap (λ (e : Entry). e.deed) c.entry_by.ensures) refl
          (retired_before _ _ c.entry_by-2.result (grant_of c.args.hand.now) second.4 (ap (λ (e : Entry). e.deed) c.entry_by-2.ensures) refl retired)));
      gone = λ is. absurd (not_retire c.removal.result back (ap (λ (e : Entry). e.deed) c.removal.ensures) refl is);
    }

-- without a remove
none_left : {A : Type 0} (o : Option A) → ((x : A) → o ≡ Some x → ⊥) → o ≡ None
none_left None isnt = refl
none_left (Some x) isnt = absurd (isnt x refl)

pub returns-in_default : goal.returns-in_default
returns-in_default g c =
    let h : Hand = c.args.hand.now in
    let e1 : Entry = c.entry_by.result in
    let e2 : Entry = c.entry_by-2.result in
    let one = noted_one [] e1 (noted_nothing c.args.register.now.roll c.args.register.now.book.total c.args.at c.args.self.now) c.note.ensures.receipt c.note.ensures.signed c.note.ensures.spare c.note.ensures.book (sym (add-zero c.args.at))
    (ap (λ (e : Entry). e.worker) c.entry_by.ensures ∙ c.requires.own) in
    let two = noted_one (e1 ∷ []) e2 one c.note-2.ensures.receipt c.note-2.ensures.signed c.note-2.ensures.spare c.note-2.ensures.book refl
    (ap (λ (e : Entry). e.worker) c.entry_by-2.ensures ∙ c.requires.own ∙ sym c.note.ensures.receipt.0) in
    let all : e1 ∷ e2 ∷ [] ≡ entries_of_hand h c.args.removed.now =
    (λ i. c.entry_by.ensures i ∷ c.entry_by-2.ensures i ∷ []) ∙ ap (entries_of_hand h) (sym (none_left c.args.removed.now c.in_default.not-Some)) in
    record {
      receipts = subst (AddsReceipts c.args.self.now c.note-2.new.self c.args.at) all two.receipts;
      signed = subst (Signs c.args.register.now.roll c.note-2.new.register.roll c.args.self.now c.note-2.new.self) all (record { roll = two.rolled; seen = c.note-2.ensures.signed.seen });
      book = two.counted ∙ ap (λ (es : List Entry). c.args.register.now.book.total + length es) all;
    }

pub returns-in-Some : goal.returns-in-Some
returns-in-Some g c =
    let h : Hand = c.args.hand.now in
    let e1 : Entry = c.entry_by.result in
    let e2 : Entry = c.entry_by-2.result in
    let e3 : Entry = c.removal.result in
    let one = noted_one [] e1 (noted_nothing c.args.register.now.roll c.args.register.now.book.total c.args.at c.args.self.now) c.note.ensures.receipt c.note.ensures.signed c.note.ensures.spare c.note.ensures.book (sym (add-zero c.args.at))
    (ap (λ (e : Entry). e.worker) c.entry_by.ensures ∙ c.requires.own) in
    let two = noted_one (e1 ∷ []) e2 one c.note-2.ensures.receipt c.note-2.ensures.signed c.note-2.ensures.spare c.note-2.ensures.book refl
    (ap (λ (e : Entry). e.worker) c.entry_by-2.ensures ∙ c.requires.own ∙ sym c.note.ensures.receipt.0) in
    let three = noted_one (e1 ∷ e2 ∷ []) e3 two c.note-in-Some.ensures.receipt c.note-in-Some.ensures.signed c.note-in-Some.ensures.spare c.note-in-Some.ensures.book refl
    (ap (λ (e : Entry). e.worker) c.removal.ensures ∙ c.requires.own ∙ sym c.note.ensures.receipt.0 ∙ sym c.note-2.ensures.receipt.0) in
    let all : e1 ∷ e2 ∷ e3 ∷ [] ≡ entries_of_hand h c.args.removed.now =
    (λ i. c.entry_by.ensures i ∷ c.entry_by-2.ensures i ∷ c.removal.ensures i ∷ []) ∙ ap (entries_of_hand h) (sym c.in-Some.is) in
    record {
      receipts = subst (AddsReceipts c.args.self.now c.note-in-Some.new.self c.args.at) all three.receipts;
      signed = subst (Signs c.args.register.now.roll c.note-in-Some.new.register.roll c.args.self.now c.note-in-Some.new.self) all (record { roll = three.rolled; seen = c.note-in-Some.ensures.signed.seen });
      book = three.counted ∙ ap (λ (es : List Entry). c.args.register.now.book.total + length es) all;
    }
