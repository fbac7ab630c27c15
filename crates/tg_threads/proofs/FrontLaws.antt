-- What holds of a store with the first of some entries holds of one with the first of more entries.
use Rattle.std.proofs.Common.{◌≡◌, ◌⊎◌, ◌∙◌, ℕ, Bool, true, false, List, [], ◌∷◌, ◌++◌, Option, Some, None, inl, inr, refl, sym, ap, subst}
use Rattle.std.specs.Prelude.{drop, length}
use Rattle.tg_model.specs.declared.value.Value.{Value}
use Rattle.tg_model.specs.declared.command.Deed.{Deed}
use Rattle.tg_model.specs.declared.command.Deed.TheVariants as deed
use Rattle.tg_space.specs.declared.kind.Kind.{Kind}
use Rattle.tg_space.specs.declared.kind.Kind.TheVariants as kind
use Rattle.tg_journal.specs.declared.entry.Entry.{Entry}
use Rattle.tg_passes.specs.declared.signed.Signed.{Signed}
use Rattle.tg_passes.specs.Passes.{BeginsWith, entries_of}
use Rattle.tg_passes.proofs.Signing.{begins_again, whole}
use Rattle.tg_store.specs.Store.{StoreState}
use Rattle.tg_text.specs.declared.line.Line.{Line}
use Rattle.tg_text.specs.declared.line.Line.TheVariants as line
use Rattle.tg_text.specs.declared.answer.Answer.{Answer}
use Rattle.tg_text.specs.declared.answer.Answer.TheVariants as answer
use Rattle.tg_text.specs.declared.answer.Refusal.{Refusal}
use Rattle.tg_text.specs.declared.answer.Refusal.TheVariants as refusal
use Rattle.tg_script.specs.Script.{create_of, spawn_of}
use Rattle.tg_shared.specs.declared.receipt.Receipt.{Receipt}
use Rattle.tg_shared.specs.Sessions.{AtSeen, HasGrownBy, LeavesAtSeen, SharedStart, since}
use Rattle.tg_shared.proofs.Knowing.{since_is}
use Rattle.tg_threads.specs.declared.task.Told.{Told}
use Rattle.tg_threads.specs.declared.task.Told.TheVariants as came
use Rattle.tg_threads.specs.Boxes.{Boxed}
use Rattle.tg_threads.specs.Output.{Arena, AtFront, EntersOrRefuses, TellsCollection, IsCountTold, TellsMade, IsOfStore, IsServed, IsUncollected, LeavesAtFront, Tells, arena_of}
use Rattle.tg_threads.specs.Tasks.{RunsOne, Runs, served_past}

-- ---- a store with exactly the entries that a session has seen

seen_begins : (shared : SharedStart) (s : StoreState) (seen : List Signed) → HasGrownBy shared s seen → BeginsWith (entries_of seen) (since shared s)
seen_begins shared s seen grown = subst (BeginsWith (entries_of seen)) (sym (since_is shared s seen grown)) (whole (entries_of seen))

pub front_seen : (shared : SharedStart) (seen : List Signed) (P : StoreState → Type 0) → AtSeen shared seen P → AtFront shared (entries_of seen) P
front_seen shared seen P held = (held.0, held.1, held.2, (seen_begins shared held.0 seen held.3.0, held.3.1))

pub leaves_seen : (shared : SharedStart) (seen : List Signed) (k : Kind) (number : ℕ) → LeavesAtSeen shared seen k number → LeavesAtFront shared (entries_of seen) k number
leaves_seen shared seen k number held =
    let after = held.3.1 in (
      held.0,
      held.1,
      held.2,
      (seen_begins shared held.0 seen held.3.0, (after.0, after.1, after.2, (seen_begins shared after.0 seen after.3.0, (after.3.0.all ∙ sym held.3.0.all, after.3.1)))),
    )

-- ---- more entries

module _ (shared : SharedStart) (fewer more : List Entry) (begins : BeginsWith more fewer) where
  pub front_wider : (P : StoreState → Type 0) → AtFront shared fewer P → AtFront shared more P
  front_wider P held = (held.0, held.1, held.2, (begins_again more fewer (since shared held.0) begins held.3.0, held.3.1))

  leaves_wider : (k : Kind) (number : ℕ) → LeavesAtFront shared fewer k number → LeavesAtFront shared more k number
  leaves_wider k number held =
      let after = held.3.1 in (
        held.0,
        held.1,
        held.2,
        (begins_again more fewer (since shared held.0) begins held.3.0, (after.0, after.1, after.2, (begins_again more fewer (since shared after.0) begins after.3.0, after.3.1))),
      )

  refused_wider : (x : ℕ) (d : Deed) (r : Refusal) → IsOfStore shared fewer x d r → IsOfStore shared more x d r
  refused_wider x d refusal.Memory h = tt
  refused_wider x d refusal.Heap h = front_wider _ h
  refused_wider x d r h = absurd h

  enters_wider : (x : ℕ) (d : Deed) (e : Option Entry) (a : Answer) → EntersOrRefuses shared fewer x d e a → EntersOrRefuses shared more x d e a
  enters_wider x d (Some e) a h = h
  enters_wider x d None a h = (h.0, refused_wider x d h.0 h.1, h.2)

  made_wider : (x : ℕ) (making : Value → Deed) (box : Option Value) (e : Option Entry) (a : Answer) → TellsMade shared fewer x making box e a → TellsMade shared more x making box e a
  made_wider x making (Some value) e a h = enters_wider x (making value) e a h
  made_wider x making None e a h = h

  count_wider : (k : Kind) (kept : Option ℕ) → IsCountTold shared fewer k kept → IsCountTold shared more k kept
  count_wider kind.Full kept h = (h.0, leaves_wider kind.Full h.0 h.1, h.2)
  count_wider kind.Nursery kept h = h

served_wider : (b : Bool) (P Q : Type 0) (e : Option Entry) (a : Answer) → (P → Q) → IsServed b P e a → IsServed b Q e a
served_wider true P Q e a wider h = wider h
served_wider false P Q e a wider h = h

module _ (shared : SharedStart) (helpers : ℕ) (fewer more : List Entry) (begins : BeginsWith more fewer) where
  abbrev small : Arena
  small = arena_of shared helpers fewer

  abbrev large : Arena
  large = arena_of shared helpers more

  collected_wider : (k : Kind) (e : Option Entry) (a : Answer) → TellsCollection small k e a → TellsCollection large k e a
  collected_wider k e a (none, inl count) = (none, inl (count.0, count_wider shared fewer more begins k count.0 count.1, count.2))
  collected_wider k e a (none, inr refused) =
      (none, inr (refused.0, record { want = refused.1.want; full = λ is. front_wider shared fewer more begins _ (refused.1.full is) }, refused.2))

  tells_wider : (served : ℕ → Bool) (l : Line) (box : Option Value) (e : Option Entry) (a : Answer) → Tells small served l box e a → Tells large served l box e a
  tells_wider served (line.Edge edge) box e a h = h
  tells_wider served (line.Create x label) box e a h = served_wider (served x) _ _ e a (made_wider shared fewer more begins x (create_of label) box e a) h
  tells_wider served (line.Spawn x label) box e a h = served_wider (served x) _ _ e a (made_wider shared fewer more begins x (spawn_of label) box e a) h
  tells_wider served (line.Plain x command) box e a h = served_wider (served x) _ _ e a (enters_wider shared fewer more begins x (deed.Plain command) e a) h
  tells_wider served line.Full box e a h = collected_wider kind.Full e a h
  tells_wider served line.Minor box e a h = collected_wider kind.Nursery e a h

  pub runs_one_wider : (served : ℕ → Bool) (b : Boxed) (t : Told) (more_receipts : List Receipt) → RunsOne small served b t more_receipts → RunsOne large served b t more_receipts
  runs_one_wider served b (came.Entered at) rs h = (h.0, h.1, tells_wider served b.line b.value (Some h.0) (answer.Reply h.0.reply) h.2)
  runs_one_wider served b (came.Collected kept) rs h = (h.0, tells_wider served b.line b.value None (answer.Collected kept) h.1)
  runs_one_wider served b (came.Refused r) rs h = (h.0, tells_wider served b.line b.value None (answer.Refused r) h.1)

  pub runs_wider : (served : ℕ → Bool) (bs : List Boxed) (ts : List Told) (rs : List Receipt) → Runs small served bs ts rs → Runs large served bs ts rs
  runs_wider served [] ts rs h = h
  runs_wider served (b ∷ bs) ts rs h = (h.0, h.1, h.2, h.3, h.4, h.5, runs_one_wider served b h.0 h.2 h.6, runs_wider (served_past served b.line h.0) bs h.1 h.3 h.7)
