-- The outcome of a hand is noted by a session that hadn't retired.
use Rattle.std.proofs.Common.{◌≡◌, ◌∙◌, ◌+◌, ◌<◌, ◌≤◌, ◌^◌, ◌∷◌, [], false, true, ℕ, List, length, add-zero, ap, arith, refl, subst, sym}
use Rattle.tg_journal.specs.declared.entry.Entry.{Entry}
use Rattle.tg_passes.specs.declared.signed.Signed.{Signed}
use Rattle.tg_passes.specs.Passes.{RollState}
use Rattle.tg_store.specs.declared.handing.Hand.{Hand}
use Rattle.tg_store.specs.declared.handing.Handed.{Handed}
use Rattle.tg_store.specs.declared.handing.Handed.TheVariants.{Denied, Done}
use Rattle.tg_shared.specs.Handing.{entries_handed}
use Rattle.tg_shared.specs.Serving.{Signs}
use Rattle.tg_shared.specs.Sessions.{AddsReceipts, SessionState, retired_behind}
use Rattle.tg_shared.proofs.HandLaws.{not_retire, noted_nothing, noted_one}
use Rattle.tg_shared.proofs.session.Session.note_hand.Goals as goal

some_first : (spare : ℕ) → 3 ≤ spare → 0 < spare
some_first spare room = omega arith

-- what a note of several entries leaves
record NotesHand (old new : SessionState) (all next : RollState) (total sum at : ℕ) (es : List Entry) : Type 0 where
  pub receipts : AddsReceipts old new at es
  pub signed : Signs all next old new es
  pub book : sum ≡ total + length es

pub look-requires : goal.look-requires
look-requires g c = record { gone = λ sees retired gone. absurd (c.requires.still sees retired gone) }

pub note_done-requires : goal.note_done-requires
note_done-requires g c =
    let same = c.look.ensures.same in
    record {
      own = c.requires.own ∙ sym (ap (λ (s : SessionState). s.worker) same);
      room = subst (λ (s : SessionState). 3 ≤ s.spare) (sym same) c.requires.room;
      places = subst (λ (x : Handed). c.args.at + length (entries_handed c.args.hand.now x) < 2 ^ 64) c.in-Done.is c.requires.places;
      acts = λ is.
          let before : c.args.self.now.retired ≡ true = ap (λ (s : SessionState). s.retired) (sym same) ∙ is in
          c.requires.still c.look.ensures.sees before (c.look.ensures.gone before);
    }

pub note-requires : goal.note-requires
note-requires g c =
    let same = c.look.ensures.same in
    let stays : retired_behind false (entries_handed c.args.hand.now (Denied c.in-Denied.command c.in-Denied.denial)) ≡ false =
    subst (λ (x : Handed). retired_behind false (entries_handed c.args.hand.now x) ≡ false) c.in-Denied.is c.requires.stays in
    record {
      room = some_first c.look.new.self.spare (subst (λ (s : SessionState). 3 ≤ s.spare) (sym same) c.requires.room);
      own = ap (λ (e : Entry). e.worker) c.entry_by-entry.ensures ∙ c.requires.own ∙ sym (ap (λ (s : SessionState). s.worker) same);
      still = λ _ retired _.
          let before : c.args.self.now.retired ≡ true = ap (λ (s : SessionState). s.retired) (sym same) ∙ retired in
          c.requires.still c.look.ensures.sees before (c.look.ensures.gone before);
      gone = λ is. absurd (not_retire c.entry_by-entry.result c.in-Denied.command (ap (λ (e : Entry). e.deed) c.entry_by-entry.ensures) stays is);
    }

-- what was noted by the session that had looked is noted by it as it was
noted_first : (old looked new : SessionState) (seen : List Signed) (all first next : RollState) (total sum at : ℕ) (h : Hand) (handed given : Handed) → looked ≡ record old { seen = seen } → first ≡ all → given ≡ handed
    → AddsReceipts looked new at (entries_handed h handed) → Signs first next looked new (entries_handed h handed) → sum ≡ total + length (entries_handed h handed) → NotesHand old new all next total sum at (entries_handed h given)
noted_first old looked new seen all first next total sum at h handed given same rolls is receipts signs counts =
    let moved = subst (λ (s : SessionState). Signs first next s new (entries_handed h handed)) same signs in
    let signed : Signs first next old new (entries_handed h handed) = record { roll = moved.roll; seen = moved.seen } in
    subst (λ (x : Handed). NotesHand old new all next total sum at (entries_handed h x)) (sym is)
    (record {
      receipts = subst (λ (s : SessionState). AddsReceipts s new at (entries_handed h handed)) same receipts;
      signed = subst (λ (r : RollState). Signs r next old new (entries_handed h handed)) rolls signed;
      book = counts;
    })

pub returns-in-Done : goal.returns-in-Done
returns-in-Done g c =
    let told = c.note_done.ensures in
    let all = noted_first c.args.self.now c.look.new.self c.note_done.new.self c.args.register.now.roll.signed c.args.register.now.roll c.look.new.roll c.note_done.new.register.roll c.args.register.now.book.total c.note_done.new.register.book.total c.args.at c.args.hand.now
    (Done c.in-Done.removed) c.args.handed.now c.look.ensures.same c.look.ensures.same_roll c.in-Done.is told.receipts told.signed told.book in
    record { receipts = all.receipts; signed = all.signed; book = all.book }

pub returns-in-Denied : goal.returns-in-Denied
returns-in-Denied g c =
    let same = c.look.ensures.same in
    let e : Entry = c.entry_by-entry.result in
    let denied : Handed = Denied c.in-Denied.command c.in-Denied.denial in
    let own = ap (λ (e : Entry). e.worker) c.entry_by-entry.ensures ∙ c.requires.own ∙ sym (ap (λ (s : SessionState). s.worker) same) in
    let one = noted_one [] e (noted_nothing c.look.new.roll c.args.register.now.book.total c.args.at c.look.new.self) c.note.ensures.receipt c.note.ensures.signed c.note.ensures.spare c.note.ensures.book (sym (add-zero c.args.at)) own in
    let named : e ∷ [] ≡ entries_handed c.args.hand.now denied = λ i. c.entry_by-entry.ensures i ∷ [] in
    let all = noted_first c.args.self.now c.look.new.self c.note.new.self c.args.register.now.roll.signed c.args.register.now.roll c.look.new.roll c.note.new.register.roll c.args.register.now.book.total c.note.new.register.book.total c.args.at c.args.hand.now
    denied c.args.handed.now same c.look.ensures.same_roll c.in-Denied.is (subst (AddsReceipts c.look.new.self c.note.new.self c.args.at) named one.receipts)
    (subst (Signs c.look.new.roll c.note.new.register.roll c.look.new.self c.note.new.self) named (record { roll = one.rolled; seen = c.note.ensures.signed.seen }))
    (one.counted ∙ ap (λ (es : List Entry). c.args.register.now.book.total + length es) named) in
    record { receipts = all.receipts; signed = all.signed; book = all.book }
