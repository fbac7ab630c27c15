-- What a worker's commands made of a store.
use Rattle.std.proofs.Common.{◌≡◌, ◌∙◌, ℕ, ◌≤◌, List, [], ◌++◌, drop, length, length-append, take, refl, sym, ap, subst, arith, Result, Ok, Err}
use Rattle.std.specs.Prelude.{IfOk, IfErr}
use Rattle.std.proofs.Math.Seq.{drop-append_seam, take-append_seam}
use Rattle.std.proofs.lemmas.List.{append-nil, take_all}
use Rattle.tg_model.specs.declared.command.Command.{Command}
use Rattle.tg_journal.specs.declared.entry.Entry.{Entry}
use Rattle.tg_journal.specs.History.{IsLegal}
use Rattle.tg_store.specs.Batch.{AreOfCommands, Applies, StopsBatch}
use Rattle.tg_store.specs.Store.{StoreState, graph_of_store}
use Rattle.tg_store.specs.declared.batch.BatchFault.{BatchFault}
use Rattle.tg_store.specs.declared.batch.BatchFault.TheVariants.{Stopped, TooLong}
use Rattle.tg_store.specs.Origin.{Origin}
use Rattle.sqlite_disk.specs.declared.Disk as disk
use Rattle.tg_keep.specs.Files.{MayBeWritten}
use Rattle.tg_keep.specs.Lines.{history_of}
use Rattle.tg_keep.specs.declared.file.LineFile.{LineFile}
use Rattle.tg_kept.specs.Keeping.{BeganByOpening, KeepsUpTo, KeepsStore, LeavesFrom, LosesCommands, ServesCommands}
use Rattle.tg_kept.specs.Texts.{SaysFront, kept_lines}

-- The store has these entries more, which the first commands made.
pub record TakesCommands (worker : ℕ) (commands : List Command) (old new : StoreState) : Type 0 where
  pub made : List Entry
  pub done : ℕ
  pub theirs : AreOfCommands worker (take done commands) made
  pub entries : new.entries ≡ old.entries ++ made
  pub legal : IsLegal (graph_of_store old) made
  pub opening : new.opening ≡ old.opening
  pub handed : new.handed ≡ old.handed

by_applying : (worker : ℕ) (commands : List Command) (old new : StoreState) (done : ℕ) → Applies worker (take done commands) old new → TakesCommands worker commands old new
by_applying worker commands old new done a = record {
  made = a.made;
  done = done;
  theirs = a.theirs;
  entries = a.entries;
  legal = a.legal;
  opening = a.opening;
  handed = a.handed;
}

pub takes_commands : (worker : ℕ) (commands : List Command) (old new : StoreState) (result : Result ℕ BatchFault) → ServesCommands worker commands old new result → TakesCommands worker commands old new
takes_commands worker commands old new (Ok count) serves =
    let P : List Command → Type 0 = λ l. Applies worker l old new in
    by_applying worker commands old new (length commands) (subst P (sym (take_all (length commands) commands (omega arith))) serves.1)
takes_commands worker commands old new (Err TooLong) same = record {
  made = [];
  done = 0;
  theirs = record { by = λ k d lt. absurd (omega arith); deeds = refl };
  entries = ap (λ (s : StoreState). s.entries) same ∙ sym (append-nil old.entries);
  legal = tt;
  opening = ap (λ (s : StoreState). s.opening) same;
  handed = ap (λ (s : StoreState). s.handed) same;
}
takes_commands worker commands old new (Err (Stopped done why)) stops = by_applying worker commands old new done stops.before

-- by the clauses of the store's own call
pub serves_by : (worker : ℕ) (commands : List Command) (old new : StoreState) (result : Result ℕ BatchFault)
    → IfOk result (λ count. count ≡ length commands) → IfOk result (λ _. Applies worker commands old new) → IfErr result (StopsBatch worker commands old new)
    → ServesCommands worker commands old new result
serves_by worker commands old new (Ok count) done applied stopped = (done, applied)
serves_by worker commands old new (Err why) done applied stopped = stopped

-- the place after the first store's entries
module _ (worker : ℕ) (commands : List Command) (old new : StoreState) (place : ℕ) (taken : TakesCommands worker commands old new) (from : place ≡ length old.entries) where
  front_is : take place new.entries ≡ old.entries
  front_is = ap (take place) taken.entries ∙ ap (λ n. take n (old.entries ++ taken.made)) from ∙ take-append_seam old.entries taken.made

  rest_is : drop place new.entries ≡ taken.made
  rest_is = ap (drop place) taken.entries ∙ ap (λ n. drop n (old.entries ++ taken.made)) from ∙ drop-append_seam old.entries taken.made

  -- the file of the first store has the front of the new one
  pub keeps_front : {D : Type 0} (g : disk.Ghosts D) (file : LineFile D) → BeganByOpening old.opening → MayBeWritten g file → KeepsStore g old file → old.handed ≤ length old.entries → KeepsUpTo g place new file
  keeps_front g file opened writable keeps within =
      let P : Origin → Type 0 = λ o. BeganByOpening o in
      record {
        opened = subst P (sym taken.opening) opened;
        writable = writable;
        held = omega (arith, taken.handed, from, within);
        within = omega (arith, from, ap length taken.entries, length-append old.entries taken.made);
        says = λ clean. keeps clean ∙ ap (kept_lines old.opening.plan) (sym front_is) ∙ ap (λ (o : Origin). kept_lines o.plan (take place new.entries)) (sym taken.opening);
      }

  -- and what a crash leaves of it is said of the first store
  pub loses : {D : Type 0} (g : disk.Ghosts D) (before after : D) → LeavesFrom g place new before after → LosesCommands g worker commands old before after
  loses g before after left = record {
    made = taken.made;
    done = taken.done;
    theirs = taken.theirs;
    legal = taken.legal;
    crash = λ clean c may.
        let texts = history_of c in
        let O : Origin → Type 0 = λ o. SaysFront o.plan (take place new.entries) (drop place new.entries) texts in
        let F : List Entry → Type 0 = λ es. SaysFront old.opening.plan es (drop place new.entries) texts in
        let R : List Entry → Type 0 = λ es. SaysFront old.opening.plan old.entries es texts in
        subst R rest_is (subst F front_is (subst O taken.opening (left.crash clean c may)));
    unclosed = left.unclosed;
    calm = left.calm;
  }
