-- Batches that are served one after the other, step by step.
use Rattle.std.proofs.Common.{◌≡◌, ◌∙◌, ℕ, ◌+◌, ◌<◌, ◌≤◌, List, [], ◌∷◌, ◌++◌, get_or, length, take, sym, ap, subst, arith, Some, Result}
use Rattle.std.specs.Prelude.{IsTrue}
use Rattle.std.proofs.lemmas.List.{append-nil, take_all, take_more}
use Rattle.std.proofs.lemmas.Option.{slice_get-get_or}
use Rattle.sqlite_disk.specs.declared.Disk as disk
use Rattle.tg_keep.specs.Files.{AwaitsBatch, SaysLeft}
use Rattle.tg_keep.specs.declared.file.LineFile.{LineFile}
use Rattle.tg_store.specs.Store.{StoreState}
use Rattle.tg_store.specs.declared.batch.BatchFault.{BatchFault}
use Rattle.tg_kept.specs.declared.run.AskedBatch.{AskedBatch}
use Rattle.tg_kept.specs.Keeping.{LeavesStore, LosesCommands, ServesCommands}
use Rattle.tg_kept.specs.Runs.{ComesBackWith, LeavesAnsweredBatches, LosesRun, ServesInTurn, next_batch}
use Rattle.tg_kept.specs.Texts.{SaysFront, kept_lines}

-- the batch at i, of which a read of the list gives this
module _ (batches : List AskedBatch) (i : ℕ) (asked : AskedBatch) (within : i < length batches) (is : asked ≡ get_or batches i asked) (first mid : StoreState) (so_far : ServesInTurn (take i batches) first mid) where
  -- it was served too
  pub serves_more : (new : StoreState) (ended : Result ℕ BatchFault) → ServesCommands asked.worker asked.commands.now mid new ended → ServesInTurn (take (i + 1) batches) first new
  serves_more new ended serves =
      let P : List AskedBatch → Type 0 = λ l. ServesInTurn l first new in
      let more : take (i + 1) batches ≡ take i batches ++ asked ∷ [] = take_more batches i asked within ∙ ap (λ (a : AskedBatch). take i batches ++ a ∷ []) (sym is) in
      subst P (sym more) (next_batch asked ended so_far serves)

  -- or the store was lost there
  pub loses_run : {D : Type 0} (g : disk.Ghosts D) (start old new : D) → g.is_clean old ≡ g.is_clean start → LosesCommands g asked.worker asked.commands.now mid old new → LosesRun g batches i first start new
  loses_run g start old new calm lost = record {
    mid = mid;
    served = so_far;
    asked = asked;
    there = slice_get-get_or batches i asked within ∙ ap (λ (a : AskedBatch). Some a) (sym is);
    lost = record {
      made = lost.made;
      done = lost.done;
      theirs = lost.theirs;
      legal = lost.legal;
      crash = lost.crash;
      unclosed = lost.unclosed;
      calm = lost.calm ∙ calm;
    };
  }

-- the count says at which batch
pub counted_loss : {D : Type 0} (g : disk.Ghosts D) (batches : List AskedBatch) (i answered : ℕ) (s : StoreState) (old new : D) → answered ≡ i → LosesRun g batches i s old new → LosesRun g batches answered s old new
counted_loss g batches i answered s old new same lost = let P : ℕ → Type 0 = λ n. LosesRun g batches n s old new in subst P (sym same) lost

-- all batches were served
pub serves_all : (batches : List AskedBatch) (i : ℕ) (first new : StoreState) → length batches ≤ i → ServesInTurn (take i batches) first new → ServesInTurn batches first new
serves_all batches i first new all serves = let P : List AskedBatch → Type 0 = λ l. ServesInTurn l first new in subst P (take_all i batches all) serves

-- all batches were answered
pub leaves_all : {D : Type 0} (g : disk.Ghosts D) (batches : List AskedBatch) (answered : ℕ) (first mid : StoreState) (new : D)
    → answered ≡ length batches → ServesInTurn batches first mid → LeavesStore g mid new → LeavesAnsweredBatches g batches answered first new
leaves_all g batches answered first mid new count serves left =
    let P : List AskedBatch → Type 0 = λ l. ServesInTurn l first mid in
    record {
      mid = mid;
      served = subst P (sym (take_all answered batches (omega (arith, count)))) serves;
      made = [];
      legal = tt;
      crash = λ clean c may. (0, omega arith, left clean c may ∙ ap (kept_lines mid.opening.plan) (sym (append-nil mid.entries)));
    }

-- or one was lost
pub leaves_lost : {D : Type 0} (g : disk.Ghosts D) (batches : List AskedBatch) (answered : ℕ) (first : StoreState) (start new : D) → LosesRun g batches answered first start new → LeavesAnsweredBatches g batches answered first new
leaves_lost g batches answered first start new lost = record {
  mid = lost.mid;
  served = lost.served;
  made = lost.lost.made;
  legal = lost.lost.legal;
  crash = lost.lost.crash;
}

-- and then the machine crashed, and the file was opened
pub comes_back : {D : Type 0} (g : disk.Ghosts D) (batches : List AskedBatch) (answered : ℕ) (first : StoreState) (old : D) (new : LineFile D)
    → LeavesAnsweredBatches g batches answered first old → (IsTrue (g.is_clean new.disk) → IsTrue (g.is_clean old)) → AwaitsBatch g new
    → (IsTrue (g.is_clean new.disk) → SaysLeft g.seen g.may_leave old new.disk) → ComesBackWith g batches answered first new
comes_back g batches answered first old new left clean settled says = record {
  mid = left.mid;
  served = left.served;
  made = left.made;
  legal = left.legal;
  settled = settled;
  says = λ is.
      let c = says is in
      let P : List (List ℕ) → Type 0 = λ texts. SaysFront left.mid.opening.plan left.mid.entries left.made texts in
      subst P (sym c.2) (left.crash (clean is) c.0 c.1);
}
